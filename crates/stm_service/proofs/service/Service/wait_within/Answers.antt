use Rattle.std.proofs.Common.{subst}
use Rattle.std.proofs.Math.Logic.{∥∥₁_map}
use Rattle.stm_desk.specs.History.{Begins, History}
use Rattle.stm_service.proofs.InTime.{told_in_time}
use Rattle.stm_service.proofs.service.Service.wait_within.Goals as goal

pub returns-in-Some-look-clause-grows : goal.returns-in-Some-look-clause-grows
returns-in-Some-look-clause-grows g c = subst (λ (h : History). Begins h c.look.new.front) c.loop.invariant c.look.ensures.grows

pub returns-in-Some-look-clause-told : goal.returns-in-Some-look-clause-told
returns-in-Some-look-clause-told g c = ∥∥₁_map c.in-Some-look.ensures.told (told_in_time c.look.new.front c.args.awaited.now.ticket c.args.awaited.now.call c.in-Some-look.answer)
