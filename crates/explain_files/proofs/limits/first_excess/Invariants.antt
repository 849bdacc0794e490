use Rattle.std.proofs.Common.{◌-◌, length}
use Rattle.explain_files.specs.Judging.{IsRight}
use Rattle.explain_files.specs.Limiting.{many_in, limit_fault_at}
use Rattle.explain_files.specs.Counting.{view_counts}
use Rattle.explain_files.proofs.Judged.{Walked}
use Rattle.explain_files.proofs.limits.first_excess.Given as goal

abbrev pub invariant-tokens : goal.invariant-tokens
invariant-tokens l = Walked (IsRight (limit_fault_at l.form)) l.form (many_in l.form) l.bytes l.at l.role (view_counts l.counts)

abbrev pub decreases-tokens : goal.decreases-tokens
decreases-tokens l = length l.bytes - l.at
