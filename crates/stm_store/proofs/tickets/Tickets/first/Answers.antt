use Rattle.std.proofs.Common.{◌≡◌, ◌+◌, subst, sym, refl, arith}
use Rattle.stm_store.specs.Tickets.{AreNumbers}
use Rattle.stm_store.specs.TicketsInside.{tickets_of}
use Rattle.stm_store.proofs.Rising.{numbers_none, numbers_more, numbers_are_tickets}
use Rattle.stm_store.proofs.tickets.Tickets.first.Goals as goal

pub numbers-init : goal.numbers-init
numbers-init c = (subst (λ xs. AreNumbers xs 0) (sym c.in_ok-held.ensures.items) numbers_none, omega (arith, c.in_ok-held.ensures.capacity))

pub numbers-preserved : goal.numbers-preserved
numbers-preserved c = (
  subst (λ xs. AreNumbers xs (c.numbers.i + 1)) (sym c.in_ok-push.ensures.items) (numbers_more c.numbers.held.items c.numbers.i c.numbers.invariant.0),
  omega (arith, c.in_ok-push.ensures.capacity, c.numbers.invariant.1),
)

pub invariant_of-result : goal.invariant_of-result
invariant_of-result c =
    let last : c.numbers.i ≡ c.args.count = omega (arith, c.numbers-test.false, c.numbers.auto.i-end) in
    let all : AreNumbers c.numbers.held.items c.args.count = subst (AreNumbers c.numbers.held.items) last c.numbers.invariant.0 in
    record {
      lawful = numbers_are_tickets (tickets_of (record { held = c.numbers.held; given = c.args.count; room = c.args.room })) c.args.count all refl (omega (arith, c.requires.fits, c.requires.few));
      fits = c.numbers.invariant.1;
      within = omega (arith, all.each, c.requires.fits);
      few = c.requires.few;
    }
