use Rattle.stm_desk.proofs.Seats.{waits_open}
use Rattle.stm_desk.proofs.Settling.{keeps_nothing}
use Rattle.stm_desk.proofs.work.Work.leave.Goals as goal

pub give_up-requires : goal.give_up-requires
give_up-requires c =
    let s = c.args.self.now in
    record { is_open = waits_open s.store s.waiters c.args.ticket s.seated c.if-not-has.ensures }

pub returns-then-not-has-clause-kept : goal.returns-then-not-has-clause-kept
returns-then-not-has-clause-kept c = keeps_nothing c.args.self.now.store
