use Rattle.explain_reports.specs.First.{RightBefore}
use Rattle.explain_reports.specs.Parts.{StandsAt}
use Rattle.checker.specs.View.{view}
use Rattle.explain_reports.proofs.present.first_other.Given as goal

abbrev pub invariant-vars : goal.invariant-vars
invariant-vars l = RightBefore (StandsAt (view l.stage)) l.vars l.i
