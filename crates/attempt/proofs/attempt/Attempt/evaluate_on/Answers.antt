use Rattle.std.proofs.Common.{ℕ, ◌<◌, ◌∙◌, ap, arith, refl, subst, sym}
use Rattle.attempt_machine.proofs.Declared.{few_values}
use Rattle.attempt.specs.AttemptInside.{StandsAt}
use Rattle.attempt.specs.View.{AttemptView, HoldsAt, next_of}
use Rattle.attempt.proofs.Lacking.{lacks_room}
use Rattle.attempt.proofs.Reading.{reads_agree}
use Rattle.attempt.proofs.Told.{over_holds, outcome_holds, after_holds}
use Rattle.attempt.proofs.attempt.Attempt.evaluate_on.Goals as goal

pub go_on-requires-clause-values : goal.go_on-requires-clause-values
go_on-requires-clause-values c =
    let l = c.self.inside.catalogue.now in
    let few = few_values l c.rules.ensures.limits in
    let variables = ap (λ (a : AttemptView). a.variables) c.self.view_is in
    omega (arith, few, c.rules.ensures.valued, c.requires.values, variables)

pub returns-clause-agrees : goal.returns-clause-agrees
returns-clause-agrees c = reads_agree _ c.args.values.now _ _ c.go_on.ensures.reads c.requires.agrees

pub returns-in_default-clause-agrees : goal.returns-in_default-clause-agrees
returns-in_default-clause-agrees c = reads_agree _ c.args.values.now _ _ c.go_on.ensures.reads c.requires.agrees

pub returns-clause-outcome : goal.returns-clause-outcome
returns-clause-outcome c =
    let m = c.args.values.now in
    let b = c.go_on.new.self in
    let o = c.in-Over.outcome in
    let agrees = reads_agree _ m _ _ c.go_on.ensures.reads c.requires.agrees in
    let holds : HoldsAt (next_of o) b m = over_holds b o m c.go_on.ensures.known (c.requires.values ∙ sym c.go_on.ensures.variables) agrees (subst (StandsAt b) (sym (ap (λ (a : AttemptView). a.stand) c.self-2.view_is) ∙ c.in-Over.is) c.go_on.ensures.stands) in
    outcome_holds o _ _ b m refl holds c.go_on.ensures.program

pub returns-clause-after : goal.returns-clause-after
returns-clause-after c =
    let m = c.args.values.now in
    let b = c.go_on.new.self in
    let o = c.in-Over.outcome in
    let agrees = reads_agree _ m _ _ c.go_on.ensures.reads c.requires.agrees in
    let holds : HoldsAt (next_of o) b m = over_holds b o m c.go_on.ensures.known (c.requires.values ∙ sym c.go_on.ensures.variables) agrees (subst (StandsAt b) (sym (ap (λ (a : AttemptView). a.stand) c.self-2.view_is) ∙ c.in-Over.is) c.go_on.ensures.stands) in
    after_holds o _ _ b m refl holds c.go_on.ensures.program

pub returns-in_default-clause-memory : goal.returns-in_default-clause-memory
returns-in_default-clause-memory c = λ small.
    let b = c.go_on.new.self in
    let e = c.go_on.ensures in
    subst (λ (n : ℕ). 8 < n) e.variables
    (lacks_room b b.stand e.stands e.advanced (λ o is. c.in_default.not-Over o (ap (λ (a : AttemptView). a.stand) c.self-2.view_is ∙ is)) (e.in_place small)
    (λ x is low. e.room refl x is (omega (arith, low, e.variables, c.requires.values))) e.logged e.apart)
