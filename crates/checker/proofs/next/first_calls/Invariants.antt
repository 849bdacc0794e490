use Rattle.std.proofs.Common.{◌≡◌, take}
use Rattle.txn_programs.specs.Listing.{calls}
use Rattle.checker.proofs.next.first_calls.Given as goal

abbrev pub invariant-tasks : goal.invariant-tasks
invariant-tasks l = l.made.items ≡ take l.i (calls l.catalogue)
