use Rattle.stm_service_tests.proofs.Opening.{opened_still}
use Rattle.stm_service_tests.proofs.played.stored.Goals as goal

pub returns-in-Ok-clause-still : goal.returns-in-Ok-clause-still
returns-in-Ok-clause-still c = opened_still _ _ c.in-Ok.store c.in-Ok.ensures.opened
