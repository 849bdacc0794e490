use Rattle.std.proofs.Common.{rules, ◌≡◌, ◌∙◌, ℕ, Some, None, ap, sym, subst}
use Rattle.std.specs.BTreeMap.{get}
use Rattle.std.specs.Ordering.{nat_cmp}
use Rattle.stm_store.specs.declared.job.Ticket.{Ticket}
use Rattle.stm_service.specs.Telling.{IsTold}
use Rattle.stm_service.proofs.seat.tell.Goals as goal

pub tell-requires-after_bounds : goal.tell-requires-after_bounds
tell-requires-after_bounds g c κs within none =
    let seat = c.in-Some.seat.now in
    let was : get nat_cmp c.args.seats.now c.args.ticket.0 ≡ Some seat = sym c.in-Some.ensures.value in
    let r = c.requires seat was in
    subst (λ (t : Ticket). ∥ IsTold c.args.front t seat.call c.args.answer ∥₁) (ap (λ (n : ℕ). record { 0 = n }) (sym r.0)) (r.1 none)

pub returns-clause-here : goal.returns-clause-here
returns-clause-here g c x at =
    let seat = c.in-Some.seat.now in
    let new = c.tell.new.self in
    let was : get nat_cmp c.args.seats.now c.args.ticket.0 ≡ Some seat = sym c.in-Some.ensures.value in
    let here : get nat_cmp (c.get_mut.follows.lender new) c.args.ticket.0 ≡ Some new = ((c.get_mut.follows.holds new).3 (search rules)).1 in
    let same : new ≡ x = cc (here, at) in
    let ticket : new.ticket.0 ≡ c.args.ticket.0 = ap (λ t. t.0) c.tell.ensures.ticket ∙ (c.requires seat was).0 in
    subst (λ s. (s.ticket.0 ≡ c.args.ticket.0) × (s.heard ≡ None → ⊥)) same (ticket, c.tell.ensures.told)
