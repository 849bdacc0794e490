use Rattle.std.proofs.Common.{rules, IsSome, IfSome, ◌↔◌, ◌≡◌, ◌∙◌, ap, sym, subst, refl}
use Rattle.std.specs.List.{All}
use Rattle.txn_programs.specs.declared.ast.Outcome.TheVariants.{Retries}
use Rattle.txn_programs.specs.Listing.{program_as}
use Rattle.txn_programs.specs.Meaning.{outcome}
use Rattle.txn_programs.specs.Told.{told, snapshot_at, base_of, now_of}
use Rattle.checker.specs.View.{view}
use Rattle.checker.specs.Parts.{BaseHolds, EntriesHold, PresentHolds, TasksHold, ParkedHold, AllGoOn, led_to}
use Rattle.checker.proofs.Whole.{lawful}
use Rattle.checker.proofs.judge.verdict_on.Goals as goal

pub returns : goal.returns
returns c =
    let l = c.args.catalogue.now in
    let r = told c.args.report.now in
    let base_is : view c.in_ok-base.base ≡ base_of r = c.in_ok-base.ensures ∙ ap (snapshot_at r.base) c.deref.ensures.value in
    let now_is : view c.in_ok-now.now ≡ now_of r = c.in_ok-now.ensures ∙ ap (snapshot_at r.current) c.deref-3.ensures.value in
    let base : BaseHolds l r = c.if-not-base_holds.ensures.0 refl in
    let held = subst (λ o. IsSome o ↔ AllGoOn l (view c.in_ok-base.base) c.deref-2.result.now) c.in-Some.is c.in_ok-reached.ensures.hold in
    let led = subst (λ o. IfSome o (λ s. view s ≡ led_to l (view c.in_ok-base.base) c.deref-2.result.now)) c.in-Some.is c.in_ok-reached.ensures.reached in
    let entries : EntriesHold l r = subst (λ es. AllGoOn l (base_of r) es) c.deref-2.ensures.value (subst (λ s. AllGoOn l s c.deref-2.result.now) base_is (held.0 (search rules))) in
    let present : PresentHolds l r = sym now_is ∙ (c.if-not-are_same.ensures.0 refl ∙ (led ∙ (ap (λ s. led_to l s c.deref-2.result.now) base_is ∙ ap (led_to l (base_of r)) c.deref-2.ensures.value))) in
    let tasks : TasksHold l r = c.in_ok-tasks_hold.ensures.0 c.if-not-branch.false in
    let parked : ParkedHold l r =
    subst (λ ps. All (λ p. outcome (program_as l p.0 p.1) (now_of r).state ≡ Retries) ps) c.deref-4.ensures.value
    (subst (λ m. All (λ p. outcome (program_as l p.0 p.1) m ≡ Retries) c.deref-4.result.now) (ap (λ s. s.state) now_is) (c.in_ok-all_retry.ensures.answer.0 c.if-not-branch-2.false)) in
    lawful l r c.requires (record { base = base; entries = entries; present = present; tasks = tasks; parked = parked })

pub returns-then-not-branch-2 : goal.returns-then-not-branch-2
returns-then-not-branch-2 c =
    let l = c.args.catalogue.now in
    let r = told c.args.report.now in
    let base_is : view c.in_ok-base.base ≡ base_of r = c.in_ok-base.ensures ∙ ap (snapshot_at r.base) c.deref.ensures.value in
    let now_is : view c.in_ok-now.now ≡ now_of r = c.in_ok-now.ensures ∙ ap (snapshot_at r.current) c.deref-3.ensures.value in
    let base : BaseHolds l r = c.if-not-base_holds.ensures.0 refl in
    let held = subst (λ o. IsSome o ↔ AllGoOn l (view c.in_ok-base.base) c.deref-2.result.now) c.in-Some.is c.in_ok-reached.ensures.hold in
    let led = subst (λ o. IfSome o (λ s. view s ≡ led_to l (view c.in_ok-base.base) c.deref-2.result.now)) c.in-Some.is c.in_ok-reached.ensures.reached in
    let entries : EntriesHold l r = subst (λ es. AllGoOn l (base_of r) es) c.deref-2.ensures.value (subst (λ s. AllGoOn l s c.deref-2.result.now) base_is (held.0 (search rules))) in
    let present : PresentHolds l r = sym now_is ∙ (c.if-not-are_same.ensures.0 refl ∙ (led ∙ (ap (λ s. led_to l s c.deref-2.result.now) base_is ∙ ap (led_to l (base_of r)) c.deref-2.ensures.value))) in
    let tasks : TasksHold l r = c.in_ok-tasks_hold.ensures.0 c.if-not-branch.false in
    let parked : ParkedHold l r → ⊥ =
    λ h.
    let here = subst (λ ps. All (λ p. outcome (program_as l p.0 p.1) (now_of r).state ≡ Retries) ps) (sym c.deref-4.ensures.value) h in
    let yes = c.in_ok-all_retry.ensures.answer.1 (subst (λ m. All (λ p. outcome (program_as l p.0 p.1) m ≡ Retries) c.deref-4.result.now) (sym (ap (λ s. s.state) now_is)) here) in
    let no = c.if-not-branch-2.true in
    cc in
    (base, entries, present, tasks, parked)
