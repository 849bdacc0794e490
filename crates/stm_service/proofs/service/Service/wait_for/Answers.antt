use Rattle.std.proofs.Common.{subst}
use Rattle.stm_desk.specs.History.{Begins, History}
use Rattle.stm_service.proofs.service.Service.wait_for.Goals as goal

pub returns-in-Some-look-clause-grows : goal.returns-in-Some-look-clause-grows
returns-in-Some-look-clause-grows g c = subst (λ (h : History). Begins h c.look.new.front) c.loop.invariant c.look.ensures.grows
