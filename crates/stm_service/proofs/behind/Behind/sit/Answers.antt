use Rattle.std.proofs.Common.{◌≡◌, ◌∙◌, ℕ, inl, inr, ap, sym, subst}
use Rattle.std.specs.BTreeMap.{get}
use Rattle.std.specs.Ordering.{nat_cmp}
use Rattle.std.proofs.lemmas.Bool.{cases_eq}
use Rattle.txn_programs.specs.declared.arguments.Call.{Call}
use Rattle.stm_service.specs.Telling.{IsAwaited}
use Rattle.stm_service.proofs.Lists.{either_way}
use Rattle.stm_service.proofs.behind.Behind.sit.Goals as goal

pub invariant_of-self-clause-seated : goal.invariant_of-self-clause-seated
invariant_of-self-clause-seated g c t seat at =
    let s = c.args.self.now in
    let w = s.desk.work.waiters in
    let a = c.args.awaited.now in
    elim (cases_eq t a.ticket.0) [
      | inl same ↦ elim (either_way c.put.result) [
        | inl put ↦
            let is : c.new-seat.result ≡ seat = cc (sym (ap (get nat_cmp c.put.new.seats) same) ∙ at, c.put.ensures.here put) in
            let ticket : seat.ticket.0 ≡ t = ap (λ x. x.ticket.0) (sym is) ∙ (ap (λ x. x.0) c.new-seat.ensures.ticket ∙ sym same) in
            let call : a.call ≡ seat.call = sym c.new-seat.ensures.call ∙ ap (λ x. x.call) is in
            (ticket, λ none. subst (λ (n : ℕ). ∥ IsAwaited w n seat.call ∥₁) (sym same) (subst (λ (x : Call). ∥ IsAwaited w a.ticket.0 x ∥₁) call c.requires))
        | inr full ↦ s.seated t seat (sym (c.put.ensures.unchanged full t) ∙ at)
      ]
      | inr apart ↦ s.seated t seat (sym (c.put.ensures.others t apart) ∙ at)
    ]
