use Rattle.std.proofs.Common.{subst}
use Rattle.stm_desk.specs.History.{Begins, History}
use Rattle.stm_service.proofs.service.Service.shown.Goals as goal

pub returns-then-show-clause-grows : goal.returns-then-show-clause-grows
returns-then-show-clause-grows g c = subst (λ (h : History). Begins h c.show.new.front) c.loop.invariant c.show.ensures.grows
