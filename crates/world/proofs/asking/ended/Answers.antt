use Rattle.std.proofs.Common.{◌≡◌, ◌≢◌, ℤ, refl, sym, ap, ◌∙◌, true≢false}
use Rattle.txn_programs.specs.declared.ast.Fault.{Fault}
use Rattle.txn_programs.specs.declared.ast.Outcome.{Outcome}
use Rattle.txn_programs.specs.declared.ast.Outcome.TheVariants.{Returned, Thrown, Retries}
use Rattle.attempt.specs.View.{next_of}
use Rattle.attempt.specs.declared.next.Next.{Next}
use Rattle.attempt.specs.declared.next.Next.TheVariants as next
use Rattle.world.specs.declared.trial.Trial.{Trial}
use Rattle.world.proofs.Seeing.{read_is}
use Rattle.world.proofs.Standing.{the_one}
use Rattle.world.proofs.asking.ended.Goals as goal

not_end : (n : Next) → ((v : ℤ) → n ≡ next.Returned v → ⊥) → ((f : Fault) → n ≡ next.Thrown f → ⊥) → (n ≡ next.Retry → ⊥) → (o : Outcome) → n ≡ next_of o → ⊥
not_end n a b d (Returned v) e = a v e
not_end n a b d (Thrown f) e = b f e
not_end n a b d Retries e = d e

returned : (v : ℤ) → Returned v ≢ Retries
returned v e = absurd (cc)

thrown : (f : Fault) → Thrown f ≢ Retries
thrown f e = absurd (cc)

pub returns-in-Returned : goal.returns-in-Returned
returns-in-Returned c =
    let s = c.args.scene.now in
    let f = c.in_ok-place.ensures in
    let same : c.index.result.now ≡ f.0 = read_is s.trials.items c.in_ok-place.place f.0 c.index.result.now f.1.0 c.index.ensures in
    (f.0, Returned c.in-Returned.field-0, f.1, ap (λ (t : Trial). t.at) (sym same) ∙ c.in-Returned.is, f.2, (λ e. absurd (true≢false (sym e)), λ e. absurd (returned c.in-Returned.field-0 e)))

pub returns-in-Thrown : goal.returns-in-Thrown
returns-in-Thrown c =
    let s = c.args.scene.now in
    let f = c.in_ok-place.ensures in
    let same : c.index.result.now ≡ f.0 = read_is s.trials.items c.in_ok-place.place f.0 c.index.result.now f.1.0 c.index.ensures in
    (f.0, Thrown c.in-Thrown.field-0, f.1, ap (λ (t : Trial). t.at) (sym same) ∙ c.in-Thrown.is, f.2, (λ e. absurd (true≢false (sym e)), λ e. absurd (thrown c.in-Thrown.field-0 e)))

pub returns-in-Retry : goal.returns-in-Retry
returns-in-Retry c =
    let s = c.args.scene.now in
    let f = c.in_ok-place.ensures in
    let same : c.index.result.now ≡ f.0 = read_is s.trials.items c.in_ok-place.place f.0 c.index.result.now f.1.0 c.index.ensures in
    (f.0, Retries, f.1, ap (λ (t : Trial). t.at) (sym same) ∙ c.in-Retry.is, f.2, (λ e. refl, λ e. refl))

pub returns-in_default : goal.returns-in_default
returns-in_default c i y o r e =
    let s = c.args.scene.now in
    let f = c.in_ok-place.ensures in
    let same : c.index.result.now ≡ f.0 = read_is s.trials.items c.in_ok-place.place f.0 c.index.result.now f.1.0 c.index.ensures in
    not_end c.index.result.now.at c.in_default.not-Returned c.in_default.not-Thrown c.in_default.not-Retry o
    (ap (λ (t : Trial). t.at) (same ∙ the_one s c.args.task c.in_ok-place.place i f.0 y f.1 f.2 r) ∙ e)
