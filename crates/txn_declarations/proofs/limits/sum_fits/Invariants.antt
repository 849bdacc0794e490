use Rattle.std.proofs.Common.{◌≡◌, ◌+◌, drop}
use Rattle.std.specs.List.{sum_by}
use Rattle.txn_programs.specs.Limits.{most_tasks}
use Rattle.txn_declarations.proofs.limits.sum_fits.Given as goal

abbrev pub invariant-loop-run : goal.invariant-loop-run
invariant-loop-run l = l.left + sum_by (λ run. run.1) l.runs ≡ most_tasks + sum_by (λ run. run.1) (drop l.run-index l.runs)
