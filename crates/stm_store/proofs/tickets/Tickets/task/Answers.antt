use Rattle.std.proofs.Common.{Ok, Err, None, Some, subst}
use Rattle.std.specs.Ordering.{nat_cmp}
use Rattle.std.specs.List.Sorted.{IsBinarySearchResult}
use Rattle.stm_store.specs.Tickets.{TicketsView, IsTaskOf}
use Rattle.stm_store.specs.TicketsInside.{tickets_of}
use Rattle.stm_store.proofs.Rising.{found_task, found_none}
use Rattle.stm_store.proofs.tickets.Tickets.task.Goals as goal

pub returns-in-Ok : goal.returns-in-Ok
returns-in-Ok c =
    let found = subst (λ xs. IsBinarySearchResult (λ y. nat_cmp y c.args.ticket.0) xs (Ok c.in-Ok.place)) c.deref.ensures.value c.in-Ok.ensures.position in
    subst (λ (t : TicketsView). IsTaskOf t c.args.ticket (Some (record { 0 = c.in-Ok.place }))) c.self.view_is (found_task (tickets_of c.self.inside) c.args.ticket c.in-Ok.place c.self.invariant.lawful found)

pub returns-in-Err : goal.returns-in-Err
returns-in-Err c =
    let found = subst (λ xs. IsBinarySearchResult (λ y. nat_cmp y c.args.ticket.0) xs (Err c.in-Err.field-0)) c.deref.ensures.value c.in-Err.ensures.position in
    subst (λ (t : TicketsView). IsTaskOf t c.args.ticket None) c.self.view_is (found_none (tickets_of c.self.inside) c.args.ticket c.in-Err.field-0 c.self.invariant.lawful found)
