use Rattle.std.proofs.Common.{length}
use Rattle.explain_reports.specs.declared.gaps.Difference.{Difference}
use Rattle.explain_reports.specs.Gaps.{IsDifference}
use Rattle.explain_reports.proofs.gaps.first_difference.Given as goal

abbrev pub invariant-lines : goal.invariant-lines
invariant-lines l = (d : Difference) → IsDifference l.due l.here d → IsDifference l.wanted l.stands d

abbrev pub decreases-lines : goal.decreases-lines
decreases-lines l = length l.due
