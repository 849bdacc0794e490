use Rattle.std.proofs.Common.{◌≡◌, ◌∙◌, ap, subst, sym, ◌∷◌, ◌++◌, [], to_z-of_z, arith, refl}
use Rattle.attempt.specs.declared.next.Stand.TheVariants as stand
use Rattle.attempt.specs.AttemptInside.{viewed, remaining, IsLawful, StandsAt, IsGoing, GoesOn}
use Rattle.attempt_machine.proofs.Declared.{few_values}
use Rattle.attempt_machine.specs.Asking.{Known}
use Rattle.attempt.specs.View.{AttemptView}
use Rattle.attempt.proofs.Lawful.{told_more, supplied_goes}
use Rattle.attempt.specs.declared.next.Stand.{Stand}
use Rattle.attempt.proofs.attempt.Attempt.supply.Goals as goal

pub invariant_of-self-2 : goal.invariant_of-self-2
invariant_of-self-2 c =
    let a = viewed c.self.inside in
    let needs : a.stand ≡ stand.Needs c.args.x = ap (λ (b : AttemptView). b.stand) c.self.view_is ∙ c.requires.needed in
    let i = c.self.inside in
    let going = subst (GoesOn a.program i.log i.machine i.count i.total i.again) needs c.self.invariant.going in
    let told : c.push.new.self ≡ a.log ++ (c.args.x, c.args.v) ∷ [] = c.in_ok-push.ensures.ok ∙ ap (λ z. a.log ++ (c.args.x, z) ∷ []) (to_z-of_z c.ranges.v) in
    let none : a.writes ≡ [] = subst (λ (s : Stand). remaining s i.machine.own.pairs ≡ []) (sym needs) refl in
    record {
      callable = c.self.invariant.callable;
      lawful =
          subst
          (λ (log : Known). IsLawful (record { program = a.program; variables = a.variables; log = log; writes = []; stand = stand.Fresh; steps = a.steps; total = a.total }))
          (sym told) (subst (λ (w : Known). IsLawful (record { program = a.program; variables = a.variables; log = a.log ++ (c.args.x, c.args.v) ∷ []; writes = w; stand = stand.Fresh; steps = a.steps; total = a.total })) none (told_more a c.args.x c.args.v c.self.invariant.lawful needs));
      going = subst (λ (log : Known). IsGoing a.program log i.machine i.count i.total 1 1) (sym told) (supplied_goes a.program i.log i.machine i.count i.total c.args.x c.args.v going);
      once = omega arith;
    }

pub push-requires-clause-known : goal.push-requires-clause-known
push-requires-clause-known c =
    let a = viewed c.self.inside in
    let needs : a.stand ≡ stand.Needs c.args.x = ap (λ (b : AttemptView). b.stand) c.self.view_is ∙ c.requires.needed in
    let waits = subst (StandsAt a) needs c.self.invariant.lawful.stands in
    let few = few_values c.self.inside.catalogue.now c.rules.ensures.limits in
    omega (arith, waits.1, few, c.rules.ensures.valued)

pub push-requires-clause-new : goal.push-requires-clause-new
push-requires-clause-new c =
    let a = viewed c.self.inside in
    let needs : a.stand ≡ stand.Needs c.args.x = ap (λ (b : AttemptView). b.stand) c.self.view_is ∙ c.requires.needed in
    (subst (StandsAt a) needs c.self.invariant.lawful.stands).2
