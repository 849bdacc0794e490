use Rattle.std.proofs.Common.{◌≡◌, ◌++◌, map}
use Rattle.example_scheduler.specs.Plan.{body_of, ends}
use Rattle.example_scheduler.proofs.planning.with_ends.Given as goal

abbrev pub invariant-jobs : goal.invariant-jobs
invariant-jobs l = map body_of l.txs.items ≡ map body_of l.fn.begins.items ++ ends l.i
