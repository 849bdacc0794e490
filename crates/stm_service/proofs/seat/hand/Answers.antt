use Rattle.std.proofs.Common.{rules, ◌≡◌, Some, None, sym, subst}
use Rattle.std.specs.BTreeMap.{get}
use Rattle.std.specs.Ordering.{nat_cmp}
use Rattle.stm_service.proofs.seat.hand.Goals as goal

pub returns-clause-here : goal.returns-clause-here
returns-clause-here g c x at =
    let seat = c.in-Some.seat.now in
    let new = c.hand.new.self in
    let was : get nat_cmp c.args.seats.now c.args.ticket.0 ≡ Some seat = sym c.in-Some.ensures.value in
    let here : get nat_cmp (c.get_mut.follows.lender new) c.args.ticket.0 ≡ Some new = ((c.get_mut.follows.holds new).3 (search rules)).1 in
    let same : new ≡ x = cc (here, at) in (
      subst (λ s. s.job ≡ c.args.job) same c.hand.ensures.job,
      λ old is.
          let e : seat ≡ old = cc (was, is) in
          subst (λ s. (s.ticket ≡ old.ticket) × (s.call ≡ old.call) × (s.heard ≡ old.heard)) same
          (subst (λ o. (new.ticket ≡ o.ticket) × (new.call ≡ o.call) × (new.heard ≡ o.heard)) e (c.hand.ensures.ticket, c.hand.ensures.call, c.hand.ensures.heard)),
    )
