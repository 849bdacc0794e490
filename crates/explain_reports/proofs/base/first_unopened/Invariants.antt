use Rattle.explain_reports.specs.First.{RightBefore}
use Rattle.explain_reports.specs.Parts.{Opens}
use Rattle.explain_reports.proofs.base.first_unopened.Given as goal

abbrev pub invariant-vars : goal.invariant-vars
invariant-vars l = RightBefore (Opens l.values) l.vars l.i
