use Rattle.stm_desk_tests.proofs.Opening.{opened_still}
use Rattle.stm_desk_tests.proofs.programs.stored.Goals as goal

pub returns-in-Ok : goal.returns-in-Ok
returns-in-Ok c = opened_still _ _ c.in-Ok.store c.in-Ok.ensures.opened
