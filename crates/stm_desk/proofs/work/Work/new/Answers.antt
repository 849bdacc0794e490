use Rattle.std.proofs.Common.{[], false, sym, subst}
use Rattle.std.proofs.lemmas.List.Elements.{All-nil}
use Rattle.stm_store.specs.declared.store.Store.{Store}
use Rattle.stm_desk.specs.declared.answers.Told.{Told}
use Rattle.stm_desk.specs.History.{History}
use Rattle.stm_desk.specs.Keeping.{Accounts, IsToldOf}
use Rattle.stm_desk.proofs.Legal.{accounts_none}
use Rattle.stm_desk.proofs.Seats.{AreTold, seated_none}
use Rattle.stm_desk.proofs.work.Work.new.Goals as goal

pub invariant_of-result-clause-accounts : goal.invariant_of-result-clause-accounts
invariant_of-result-clause-accounts c =
    ∣ subst (λ (h : History). Accounts c.of-first.result.value c.args.store h) (sym c.new-2.ensures)
    (subst (λ (s : Store). Accounts s c.args.store []) (sym c.of-first.ensures) (accounts_none c.args.store)) ∣₁

pub invariant_of-result-clause-seated : goal.invariant_of-result-clause-seated
invariant_of-result-clause-seated c = seated_none c.args.store c.new.result c.new.ensures.none

pub invariant_of-result-clause-told : goal.invariant_of-result-clause-told
invariant_of-result-clause-told c =
    ∣ subst (AreTold c.of-first.result.value.catalogue.now false c.new-2.result.items) (sym c.new.ensures.told) (All-nil (λ (t : Told). IsToldOf c.of-first.result.value.catalogue.now false c.new-2.result.items t.ticket t.call.value t.answer)) ∣₁
