use Rattle.stm_service.proofs.Histories.{left_longer}
use Rattle.stm_service.proofs.behind.Behind.give_up.Goals as goal

pub returns-in-Ok-clause-left : goal.returns-in-Ok-clause-left
returns-in-Ok-clause-left g c is =
    left_longer c.leave.new.self.front c.learn.new.self c.args.awaited.now.ticket c.learn.ensures.others c.in-Ok.ensures.is_left
