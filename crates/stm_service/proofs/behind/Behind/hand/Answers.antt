use Rattle.std.proofs.Common.{◌≡◌, ◌∙◌, ℕ, Some, inl, inr, ap, sym, subst}
use Rattle.std.specs.BTreeMap.{get}
use Rattle.std.specs.Ordering.{nat_cmp}
use Rattle.std.proofs.lemmas.Bool.{cases_eq}
use Rattle.txn_programs.specs.declared.arguments.Call.{Call}
use Rattle.stm_service.specs.Telling.{IsAwaited}
use Rattle.stm_service.proofs.Handing.{sat_there}
use Rattle.stm_service.proofs.behind.Behind.hand.Goals as goal

pub invariant_of-self-clause-seated : goal.invariant_of-self-clause-seated
invariant_of-self-clause-seated g c t seat at =
    let s = c.args.self.now in
    let w = s.desk.work.waiters in
    let one = c.args.ticket in
    elim (cases_eq t one.0) [
      | inl same ↦
          let there : get nat_cmp c.hand.new.seats one.0 ≡ Some seat = ap (get nat_cmp c.hand.new.seats) (sym same) ∙ at in
          let was = sat_there (get nat_cmp s.seats one.0) (get nat_cmp c.hand.new.seats one.0) seat c.hand.ensures.nobody there in
          let kept = (c.hand.ensures.here seat there).1 was.0 was.1 in
          let old = s.seated one.0 was.0 was.1 in (
            ap (λ x. x.0) kept.0 ∙ (old.0 ∙ sym same),
            λ none. subst (λ (n : ℕ). ∥ IsAwaited w n seat.call ∥₁) (sym same)
                (subst (λ (x : Call). ∥ IsAwaited w one.0 x ∥₁) (sym kept.1) (old.1 (sym kept.2 ∙ none))),
          )
      | inr apart ↦ s.seated t seat (sym (c.hand.ensures.others t apart) ∙ at)
    ]
