use Rattle.std.proofs.Common.{length}
use Rattle.explain_schedules.specs.Walking.{IsWalked}
use Rattle.explain_schedules.proofs.form.first_stop.Given as goal

abbrev pub invariant-lines : goal.invariant-lines
invariant-lines l = IsWalked l.cells l.bytes l.rest

abbrev pub decreases-lines : goal.decreases-lines
decreases-lines l = length l.rest
