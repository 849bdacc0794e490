use Rattle.explain_reports.specs.First.{RightBefore}
use Rattle.explain_reports.specs.Parts.{Climbs}
use Rattle.explain_reports.proofs.tasks.first_fall.Given as goal

abbrev pub invariant-lines : goal.invariant-lines
invariant-lines l = RightBefore (Climbs l.lines) l.lines l.i
