use Rattle.std.proofs.Common.{ℕ, List, length, ◌≤◌, sym, subst, arith}
use Rattle.book.proofs.Staying.{staying_shorter}
use Rattle.stm_store.specs.Tickets.{AreTickets}
use Rattle.stm_store.specs.TicketsInside.{tickets_of}
use Rattle.stm_store.proofs.Rising.{tickets_stay}
use Rattle.stm_store.proofs.tickets.Tickets.keep_staying.Goals as goal

pub invariant_of-self : goal.invariant_of-self
invariant_of-self c =
    let inside = c.self.inside in
    let ts = c.args.book.now.tasks in
    let items = c.keep_staying.ensures.items in
    record {
      lawful = subst (λ (xs : List ℕ). AreTickets (record { held = xs; given = inside.given; room = inside.room })) (sym items) (tickets_stay (tickets_of inside) ts c.self.invariant.lawful);
      fits = omega (arith, c.keep_staying.ensures.capacity, c.self.invariant.fits);
      within = subst (λ (xs : List ℕ). length xs ≤ inside.room) (sym items) (omega (arith, staying_shorter inside.held.items ts, c.self.invariant.within));
      few = c.self.invariant.few;
    }
