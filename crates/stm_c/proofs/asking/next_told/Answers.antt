use Rattle.std.proofs.Common.{subst}
use Rattle.stm_store.specs.Tickets.{AreTickets}
use Rattle.stm_store.specs.declared.store.Store.{Store}
use Rattle.stm_c.proofs.DeskTickets.{told_with}
use Rattle.stm_c.proofs.asking.next_told.Goals as goal

pub told-requires-2 : goal.told-requires-2
told-requires-2 c =
    let w = c.args.desk.now.work in
    told_with w.first.value w.store w.history.items w.first.value.catalogue.now w.closed c.told.result (subst (λ (s : Store). AreTickets s.tickets) c.store.ensures c.law-2.ensures.tickets) c.law.ensures.accounts c.told.ensures.is
