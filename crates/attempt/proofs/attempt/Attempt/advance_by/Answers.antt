use Rattle.std.proofs.Common.{ap, arith, subst, sym}
use Rattle.txn_programs.specs.Cost.{cost}
use Rattle.attempt_machine.proofs.Declared.{few_values}
use Rattle.attempt_machine.specs.Frame.{Agrees}
use Rattle.attempt_machine.specs.Reading.{ReadsOn}
use Rattle.attempt_machine.proofs.Reading.{reads_nothing}
use Rattle.attempt.specs.AttemptInside.{viewed, StandsAt}
use Rattle.attempt.specs.View.{AttemptView, HoldsAt, idle}
use Rattle.attempt.proofs.Reading.{reads_agree}
use Rattle.attempt.proofs.Told.{over_holds, told_holds, told_missing}
use Rattle.attempt.proofs.attempt.Attempt.advance_by.Goals as goal

pub go_on-requires-clause-values : goal.go_on-requires-clause-values
go_on-requires-clause-values g c =
    let few = few_values c.self.inside.catalogue.now c.rules.ensures.limits in
    let variables = ap (λ (a : AttemptView). a.variables) c.self.view_is in
    omega (arith, few, c.rules.ensures.valued, c.requires.values, variables)

pub returns-in-Fresh-clause-reads : goal.returns-in-Fresh-clause-reads
returns-in-Fresh-clause-reads g c =
    subst (λ (a : AttemptView). ReadsOn a.program (g.R.Reader.values c.args.reader.now) a.log c.go_on.new.self.log) c.self.view_is c.go_on.ensures.reads

pub returns-in-Fresh-clause-agrees : goal.returns-in-Fresh-clause-agrees
returns-in-Fresh-clause-agrees g c = λ h.
    let m = g.R.Reader.values c.args.reader.now in
    reads_agree _ m _ _ c.go_on.ensures.reads (subst (λ (a : AttemptView). Agrees a.log m) (sym c.self.view_is) h)

pub returns-in-Fresh-clause-total : goal.returns-in-Fresh-clause-total
returns-in-Fresh-clause-total g c =
    let own = ap (λ (a : AttemptView). cost a.program) c.self.view_is in
    omega (arith, c.go_on.ensures.total, own)

pub returns-in-Fresh-clause-needed : goal.returns-in-Fresh-clause-needed
returns-in-Fresh-clause-needed g c = λ x e. told_missing c.answer.result c.go_on.new.self x c.answer.ensures.answers c.go_on.ensures.known e

pub returns-in-Fresh-clause-frame : goal.returns-in-Fresh-clause-frame
returns-in-Fresh-clause-frame g c = λ m len h. told_holds c.answer.result c.go_on.new.self m c.answer.ensures.answers c.go_on.ensures.known len h

pub returns-in-Over-clause-reads : goal.returns-in-Over-clause-reads
returns-in-Over-clause-reads g c =
    let log = c.self.inside.log in
    let m = g.R.Reader.values c.args.reader.now in
    subst (λ (a : AttemptView). ReadsOn a.program m a.log log) c.self.view_is (reads_nothing (viewed c.self.inside).program m log)

pub returns-in-Needs-clause-reads : goal.returns-in-Needs-clause-reads
returns-in-Needs-clause-reads g c =
    let log = c.self.inside.log in
    let m = g.R.Reader.values c.args.reader.now in
    subst (λ (a : AttemptView). ReadsOn a.program m a.log log) c.self.view_is (reads_nothing (viewed c.self.inside).program m log)

pub returns-in-Spent-clause-reads : goal.returns-in-Spent-clause-reads
returns-in-Spent-clause-reads g c =
    let log = c.self.inside.log in
    let m = g.R.Reader.values c.args.reader.now in
    subst (λ (a : AttemptView). ReadsOn a.program m a.log log) c.self.view_is (reads_nothing (viewed c.self.inside).program m log)

pub returns-in-Over-clause-frame : goal.returns-in-Over-clause-frame
returns-in-Over-clause-frame g c = λ m len h.
    let a = idle (viewed c.self.inside) in
    let kept = c.self.invariant.lawful in
    subst (λ r. HoldsAt r a m) (sym c.answer_of.ensures) (over_holds a c.in-Over.outcome m kept.known len h (subst (StandsAt a) c.in-Over.is kept.stands))
