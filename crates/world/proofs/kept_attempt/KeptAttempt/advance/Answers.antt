use Rattle.std.proofs.Common.{◌≡◌, None, ◌<◌, sym, refl, subst, arith}
use Rattle.std.proofs.lemmas.Grind.{get_or-set_at}
use Rattle.attempt.specs.Asking.{known_at}
use Rattle.attempt.specs.View.{AttemptView}
use Rattle.world.specs.declared.kept_attempt.Parts.TheVariants as parts
use Rattle.world.specs.KeptAttemptInside.{PartsKept}
use Rattle.world.proofs.kept_attempt.KeptAttempt.advance.Goals as goal

pub returns-clause-needed : goal.returns-clause-needed
returns-clause-needed c x e =
    let a = c.self.inside in
    let kept : PartsKept a.catalogue.now a.id a.arguments.now (parts.Whole c.in-Whole.alone) = subst (PartsKept a.catalogue.now a.id a.arguments.now) c.in-Whole.is c.self.invariant in
    subst (λ (v : AttemptView). (x.0 < v.variables) × (known_at v.log x ≡ None))
    (sym (get_or-set_at c.in-Whole.alone.items 0 0 c.advance.new.self _ refl (omega (arith, kept.0))))
    (c.advance.ensures.needed x e)
