use Rattle.std.proofs.Common.{◌≡◌}
use Rattle.run_workers.proofs.worker.try_often.Given as goal

abbrev pub invariant-loop-stale : goal.invariant-loop-stale
invariant-loop-stale g l = l.pass.cells ≡ l.fn.pass.cells
