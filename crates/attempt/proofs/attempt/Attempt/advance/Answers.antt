use Rattle.std.proofs.Common.{◌+◌, ◌∙◌, ap, arith, length, refl, subst, sym}
use Rattle.txn_programs.specs.Cost.{cost}
use Rattle.attempt.specs.AttemptInside.{viewed, StandsAt}
use Rattle.attempt.specs.View.{AttemptView, HoldsAt, idle}
use Rattle.attempt.proofs.Told.{over_holds, told_holds, told_missing}
use Rattle.attempt.proofs.attempt.Attempt.advance.Goals as goal

pub returns-in-Over-clause-frame : goal.returns-in-Over-clause-frame
returns-in-Over-clause-frame c = λ m len h.
    let a = idle (viewed c.self.inside) in
    let kept = c.self.invariant.lawful in
    subst (λ r. HoldsAt r a m) (sym c.answer_of.ensures) (over_holds a c.in-Over.outcome m kept.known len h (subst (StandsAt a) c.in-Over.is kept.stands))

pub returns-in-Fresh-clause-frame : goal.returns-in-Fresh-clause-frame
returns-in-Fresh-clause-frame c = λ m len h. told_holds c.answer.result c.go_on.new.self m c.answer.ensures.answers c.go_on.ensures.known len h

pub returns-in-Fresh-clause-needed : goal.returns-in-Fresh-clause-needed
returns-in-Fresh-clause-needed c = λ x e. told_missing c.answer.result c.go_on.new.self x c.answer.ensures.answers c.go_on.ensures.known e

pub returns-in-Fresh-clause-log : goal.returns-in-Fresh-clause-log
returns-in-Fresh-clause-log c = c.go_on.ensures.log refl ∙ ap (λ (a : AttemptView). a.log) c.self.view_is

pub returns-in-Fresh-clause-adds : goal.returns-in-Fresh-clause-adds
returns-in-Fresh-clause-adds c = c.go_on.ensures.adds refl ∙ ap (λ (a : AttemptView). a.total + c.go_on.new.self.steps) c.self.view_is

pub returns-in-Fresh-clause-total : goal.returns-in-Fresh-clause-total
returns-in-Fresh-clause-total c =
    let same = ap length (c.go_on.ensures.log refl ∙ ap (λ (a : AttemptView). a.log) c.self.view_is) in
    let own = ap (λ (a : AttemptView). cost a.program) c.self.view_is in
    omega (arith, c.go_on.ensures.total, same, own)
