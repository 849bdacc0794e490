use Rattle.std.proofs.Common.{◌≡◌, ◌≢◌, ◌+◌, ◌-◌, ◌∙◌, ap, arith, length, length-append, refl, subst, sym}
use Rattle.attempt_machine.specs.declared.machine.Machine.{Machine}
use Rattle.txn_programs.specs.declared.ast.Outcome.{Outcome}
use Rattle.txn_programs.specs.declared.ast.VarId.{VarId}
use Rattle.attempt.specs.declared.next.Stand.{Stand}
use Rattle.attempt.specs.declared.next.Stand.TheVariants as stand
use Rattle.attempt.specs.View.{AttemptView}
use Rattle.attempt.proofs.Lawful.{Settles, went_on}
use Rattle.attempt.proofs.attempt.Attempt.go_on.Goals as goal

-- what ended, or ran out of memory, needs no variable
over_needs_none : (s : Stand) (o : Outcome) (x : VarId) → s ≡ stand.Over o → s ≢ stand.Needs x
over_needs_none s o x e f = cc

spent_needs_none : (s : Stand) (x : VarId) → s ≡ stand.Spent → s ≢ stand.Needs x
spent_needs_none s x e f = cc

pub invariant_of-self : goal.invariant_of-self
invariant_of-self g c =
    let i = c.self.inside in
    let m = c.run_on-stand.new.m in
    let count = c.run_on-stand.new.count in
    let log = c.run_on-stand.new.log in
    let reads = c.run_on-stand.ensures.reads in
    let grown : length i.log + length reads.read ≡ length log = sym (ap length reads.grown ∙ length-append i.log reads.read) in
    let read : length i.log + (c.len-in_all.result - c.len-logged.result) ≡ length log = omega (arith, grown, c.len-in_all.ensures.value, c.len-logged.ensures.value) in
    let settles = subst (λ s. Settles s m m) (sym c.in-Needs.is) refl in
    went_on i c.as_slice.result.now c.run_on-stand.result m m count log _ _ c.as_slice.ensures.value c.self.invariant (ap (λ (b : AttemptView). b.stand) c.self.view_is ∙ c.requires.fresh) refl read c.run_on-stand.ensures.known c.run_on-stand.ensures.apart c.run_on-stand.ensures.stops c.run_on-stand.ensures.few c.run_on-stand.ensures.more settles

pub invariant_of-self-in-Over : goal.invariant_of-self-in-Over
invariant_of-self-in-Over g c =
    let i = c.self.inside in
    let m = c.run_on-stand.new.m in
    let after : Machine = record { at = m.at; stack = m.stack; loops = m.loops; own = c.settle.new.self; end = m.end } in
    let count = c.run_on-stand.new.count in
    let log = c.run_on-stand.new.log in
    let reads = c.run_on-stand.ensures.reads in
    let grown : length i.log + length reads.read ≡ length log = sym (ap length reads.grown ∙ length-append i.log reads.read) in
    let read : length i.log + (c.len-in_all.result - c.len-logged.result) ≡ length log = omega (arith, grown, c.len-in_all.ensures.value, c.len-logged.ensures.value) in
    let settles = subst (λ s. Settles s m after) (sym c.in-Over.is) c.settle.ensures.pairs in
    went_on i c.as_slice.result.now c.run_on-stand.result m after count log _ _ c.as_slice.ensures.value c.self.invariant (ap (λ (b : AttemptView). b.stand) c.self.view_is ∙ c.requires.fresh) refl read c.run_on-stand.ensures.known c.run_on-stand.ensures.apart c.run_on-stand.ensures.stops c.run_on-stand.ensures.few c.run_on-stand.ensures.more settles

pub returns-in-Needs-clause-open : goal.returns-in-Needs-clause-open
returns-in-Needs-clause-open g c = λ h e. absurd (h c.in-Needs.field-0 c.in-Needs.is)

pub returns-in-Needs-clause-stands : goal.returns-in-Needs-clause-stands
returns-in-Needs-clause-stands g c = (invariant_of-self g c).lawful.stands

pub returns-in-Over-clause-open : goal.returns-in-Over-clause-open
returns-in-Over-clause-open g c = λ h. c.run_on-stand.ensures.open (λ x. over_needs_none _ _ x c.in-Over.is)

pub returns-in-Spent-clause-open : goal.returns-in-Spent-clause-open
returns-in-Spent-clause-open g c = λ h. c.run_on-stand.ensures.open (λ x. spent_needs_none _ x c.in-Spent.is)
