use Rattle.std.proofs.Common.{◌≡◌, ◌≢◌, ℕ, ◌<◌, length, Option, Some, None, sym, refl, ap, ◌∙◌, subst}
use Rattle.txn_programs.specs.declared.ast.VarId.{VarId}
use Rattle.attempt.specs.declared.next.Next.TheVariants as next
use Rattle.world.specs.declared.trial.Trial.{Trial}
use Rattle.world.specs.Trials.{TrialKept, wants}
use Rattle.world.specs.Inside.{listing}
use Rattle.world.proofs.Seeing.{read_is}
use Rattle.world.proofs.Standing.{the_one}
use Rattle.world.proofs.scene.reading.Goals as goal

pub wants-requires : goal.wants-requires
wants-requires c x e =
    let s = c.args.scene.now in
    let f = c.in_ok-place.ensures in
    let same : c.index.result.now ≡ f.0 = read_is s.trials.items c.in_ok-place.place f.0 c.index.result.now f.1.0 c.index.ensures in
    let k = subst (TrialKept (listing s)) (sym same) (c.requires.trials c.in_ok-place.place f.0 f.1.0) in
    subst (λ (n : ℕ). x.0 < n) (sym k.variables) (k.needs x e)

pub returns-in-Some : goal.returns-in-Some
returns-in-Some c =
    let s = c.args.scene.now in
    let f = c.in_ok-place.ensures in
    let same : c.index.result.now ≡ f.0 = read_is s.trials.items c.in_ok-place.place f.0 c.index.result.now f.1.0 c.index.ensures in
    let k = subst (TrialKept (listing s)) (sym same) (c.requires.trials c.in_ok-place.place f.0 f.1.0) in
    let x = c.in-Some.x in
    (f.0, f.1, ap wants (sym same) ∙ (sym c.wants.ensures.value ∙ c.in-Some.is), f.2, subst (λ (n : ℕ). x.0 < n) k.variables (c.wants.ensures.known x c.in-Some.is))

pub returns-in-None : goal.returns-in-None
returns-in-None c i y x r e =
    let s = c.args.scene.now in
    let f = c.in_ok-place.ensures in
    let same : c.index.result.now ≡ f.0 = read_is s.trials.items c.in_ok-place.place f.0 c.index.result.now f.1.0 c.index.ensures in
    let both : None ≡ Some x = sym c.in-None.is ∙ (c.wants.ensures.value ∙ (ap wants (same ∙ the_one s c.args.task c.in_ok-place.place i f.0 y f.1 f.2 r) ∙ e)) in
    absurd (cc)
