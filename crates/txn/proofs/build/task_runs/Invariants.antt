use Rattle.std.proofs.Common.{◌≡◌, map, take, Some}
use Rattle.txn_programs.specs.Listing.{calls_of}
use Rattle.txn.specs.CatalogueInside.{call_at}
use Rattle.txn.proofs.build.task_runs.Given as goal

abbrev pub invariant-loop-place : goal.invariant-loop-place
invariant-loop-place l = map (call_at l.runs) l.places.items ≡ map Some (calls_of (take l.place l.runs))
