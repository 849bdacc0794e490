use Rattle.std.proofs.Common.{length}
use Rattle.explain_schedules.specs.Walking.{IsGoing, right_of}
use Rattle.explain_schedules.proofs.judging.first_wrong.Given as goal

abbrev pub invariant-lines : goal.invariant-lines
invariant-lines l = IsGoing l.catalogue (right_of l.catalogue l.judged) l.bytes l.rest

abbrev pub decreases-lines : goal.decreases-lines
decreases-lines l = length l.rest
