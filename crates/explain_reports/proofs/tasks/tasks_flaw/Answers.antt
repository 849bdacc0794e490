use Rattle.std.proofs.Common.{◌≡◌, ◌∙◌, ◌<◌, ℕ, List, length, get_or, Option, Some, refl, sym, ap, subst}
use Rattle.std.specs.List.{All, slice_get}
use Rattle.std.proofs.lemmas.Option.{slice_get_within, get_or_from_slice_get}
use Rattle.txn_programs.specs.declared.ast.TaskId.{TaskId}
use Rattle.txn_programs.specs.declared.ast.TxId.{TxId}
use Rattle.txn_programs.specs.Listing.{tasks}
use Rattle.txn_programs.specs.Told.{told}
use Rattle.checker.specs.Parts.{named}
use Rattle.explain_reports.specs.First.{AllRight, IsFirstWrong, IsSearched}
use Rattle.explain_reports.specs.Parts.{IsOwn, IsNew}
use Rattle.checker.proofs.Named.{known_tasks}
use Rattle.explain_reports.proofs.Order.{not_own, not_new}
use Rattle.explain_reports.proofs.tasks.tasks_flaw.Goals as goal

abbrev Lines : Type 0
Lines = List (TaskId × TxId)

pub first_foreign-requires : goal.first_foreign-requires
first_foreign-requires c =
    let l = c.args.catalogue.now in
    subst (λ (ps : Lines). All (λ p. p.0.0 < length (tasks l)) ps) (sym (c.deref.ensures.value ∙ c.in_ok-lines.ensures)) (known_tasks l (told c.args.report.now) c.requires)

pub line_at-at-requires : goal.line_at-at-requires
line_at-at-requires c =
    let r = told c.args.report.now in
    let lines : c.deref.result.now ≡ named r = c.deref.ensures.value ∙ c.in_ok-lines.ensures in
    let first = subst (λ (ps : Lines). IsFirstWrong (IsOwn c.args.catalogue.now) ps c.in-Some.place) lines c.in-Some.ensures in
    slice_get_within (named r) c.in-Some.place first.item first.stands

pub task_tx-own-requires : goal.task_tx-own-requires
task_tx-own-requires c =
    let l = c.args.catalogue.now in
    let r = told c.args.report.now in
    let k = c.in-Some.place in
    let p = c.index.result.now in
    let lines : c.deref.result.now ≡ named r = c.deref.ensures.value ∙ c.in_ok-lines.ensures in
    let first = subst (λ (ps : Lines). IsFirstWrong (IsOwn l) ps k) lines c.in-Some.ensures in
    let at : p ≡ get_or (named r) k p = c.index.ensures ∙ ap (λ (ps : Lines). get_or ps k p) c.in_ok-lines.ensures in
    subst (λ (q : TaskId × TxId). q.0.0 < length (tasks l)) (sym at) (known_tasks l r c.requires k p (slice_get_within (named r) k first.item first.stands))

pub returns-in-Some : goal.returns-in-Some
returns-in-Some c =
    let l = c.args.catalogue.now in
    let r = told c.args.report.now in
    let k = c.in-Some.place in
    let p = c.index.result.now in
    let there = c.line_at-at.ensures.place in
    let lines : c.deref.result.now ≡ named r = c.deref.ensures.value ∙ c.in_ok-lines.ensures in
    let first : IsFirstWrong (IsOwn l) (named r) k = subst (λ (ps : Lines). IsFirstWrong (IsOwn l) ps k) lines c.in-Some.ensures in
    let at : p ≡ get_or (named r) k p = c.index.ensures ∙ ap (λ (ps : Lines). get_or ps k p) c.in_ok-lines.ensures in
    record {
      fails = not_own l r k first;
      part = refl;
      flaw_is = (
        record { there = c.line_at-at.ensures.there; first = subst (λ (n : ℕ). IsFirstWrong (IsOwn l) (named r) n) (sym there) first },
        λ q e.
            let here : slice_get (named r) k ≡ Some q = subst (λ (n : ℕ). slice_get (named r) n ≡ Some q) there e in
            let same : p ≡ q = at ∙ get_or_from_slice_get (named r) k q p here in
            subst (λ (x : TaskId × TxId). slice_get (tasks l) x.0.0 ≡ Some c.task_tx-own.result) same c.task_tx-own.ensures.own,
      );
    }

pub first_again-requires : goal.first_again-requires
first_again-requires c =
    let l = c.args.catalogue.now in
    subst (λ (n : ℕ). All (λ p. p.0.0 < n) c.deref-2.result.now) (sym c.tasks.ensures.value)
    (subst (λ (ps : Lines). All (λ p. p.0.0 < length (tasks l)) ps) (sym (c.deref-2.ensures.value ∙ c.in_ok-lines.ensures)) (known_tasks l (told c.args.report.now) c.requires))

pub line_at-requires : goal.line_at-requires
line_at-requires c =
    let r = told c.args.report.now in
    let k = c.in-Some-2.place in
    let lines : c.deref-2.result.now ≡ named r = c.deref-2.ensures.value ∙ c.in_ok-lines.ensures in
    let found : IsFirstWrong (IsNew c.deref-2.result.now) c.deref-2.result.now k =
    subst (λ (o : Option ℕ). IsSearched (IsNew c.deref-2.result.now) c.deref-2.result.now o) c.in-Some-2.is c.in_ok-place.ensures in
    let first = subst (λ (ps : Lines). IsFirstWrong (IsNew ps) ps k) lines found in
    slice_get_within (named r) k first.item first.stands

pub returns-in-Some-2 : goal.returns-in-Some-2
returns-in-Some-2 c =
    let l = c.args.catalogue.now in
    let r = told c.args.report.now in
    let k = c.in-Some-2.place in
    let owned : c.deref.result.now ≡ named r = c.deref.ensures.value ∙ c.in_ok-lines.ensures in
    let own : AllRight (IsOwn l) (named r) = subst (λ (ps : Lines). AllRight (IsOwn l) ps) owned c.in_default.ensures in
    let lines : c.deref-2.result.now ≡ named r = c.deref-2.ensures.value ∙ c.in_ok-lines.ensures in
    let found : IsFirstWrong (IsNew c.deref-2.result.now) c.deref-2.result.now k =
    subst (λ (o : Option ℕ). IsSearched (IsNew c.deref-2.result.now) c.deref-2.result.now o) c.in-Some-2.is c.in_ok-place.ensures in
    let first : IsFirstWrong (IsNew (named r)) (named r) k = subst (λ (ps : Lines). IsFirstWrong (IsNew ps) ps k) lines found in
    record {
      fails = not_new l r k first;
      part = refl;
      flaw_is = (own, record { there = c.line_at.ensures.there; first = subst (λ (n : ℕ). IsFirstWrong (IsNew (named r)) (named r) n) (sym c.line_at.ensures.place) first });
    }
