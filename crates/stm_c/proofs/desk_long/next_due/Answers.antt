use Rattle.std.proofs.Common.{subst}
use Rattle.stm_store.specs.Tickets.{AreTickets}
use Rattle.stm_store.specs.declared.store.Store.{Store}
use Rattle.stm_c.proofs.DeskTickets.{due_with}
use Rattle.stm_c.proofs.desk_long.next_due.Goals as goal

pub due-requires : goal.due-requires
due-requires c =
    let w = c.args.desk.now.work in
    due_with w.store w c.next_due.new.self.work c.next_due.result (subst (λ (s : Store). AreTickets s.tickets) c.store.ensures c.law-2.ensures.tickets) c.law.ensures.waits c.next_due.ensures.handed
