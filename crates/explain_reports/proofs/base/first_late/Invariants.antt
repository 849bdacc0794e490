use Rattle.explain_reports.specs.First.{RightBefore}
use Rattle.explain_reports.specs.Parts.{IsRecent}
use Rattle.explain_reports.proofs.base.first_late.Given as goal

abbrev pub invariant-vars : goal.invariant-vars
invariant-vars l = RightBefore (IsRecent l.number) l.vars l.i
