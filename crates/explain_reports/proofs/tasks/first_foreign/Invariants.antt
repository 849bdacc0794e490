use Rattle.explain_reports.specs.First.{RightBefore}
use Rattle.explain_reports.specs.Parts.{IsOwn}
use Rattle.explain_reports.proofs.tasks.first_foreign.Given as goal

abbrev pub invariant-lines : goal.invariant-lines
invariant-lines l = RightBefore (IsOwn l.catalogue) l.lines l.i
