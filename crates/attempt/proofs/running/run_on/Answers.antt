use Rattle.std.proofs.Common.{◌≡◌, ◌≢◌, ◌+◌, ◌<◌, ◌≤◌, Result, IfOk, IsOk, Ok, Err, ◌∙◌, ℤ, List, ap, length, map, String, Global, refl, subst, sym, true}
use Rattle.txn_programs.specs.Cost.{cost}
use Rattle.txn_programs.specs.Code.{program_code}
use Rattle.txn_programs.specs.Fused.{machine_code}
use Rattle.txn_programs.specs.Limits.{most_values, program_fits, conditions_fit}
use Rattle.txn_programs.specs.Listing.{Listing, values, call_program, conditions, transaction_at}
use Rattle.txn_programs.specs.Meaning.{State}
use Rattle.txn_programs.specs.Names.{names_hold}
use Rattle.txn_programs.specs.Scope.{ConditionsKnown}
use Rattle.txn_programs.specs.Tree.{Program, condition_of, transaction_of}
use Rattle.txn_programs.specs.declared.ast.Cond.{Cond}
use Rattle.txn_programs.specs.declared.ast.Tx.{Tx}
use Rattle.txn_programs.specs.declared.ast.TxId.{TxId}
use Rattle.txn_programs.specs.declared.ast.VarId.{VarId}
use Rattle.txn_programs.specs.declared.ast.Outcome.{Outcome}
use Rattle.attempt_machine.specs.declared.found.Found.{Found}
use Rattle.attempt_machine.specs.declared.found.Found.TheVariants as found
use Rattle.attempt_machine.specs.Room.{AreDeclared, NeedsNoMemory}
use Rattle.attempt_machine.proofs.Declared.{program_fitting, conditions_fitting, conditions_known}
use Rattle.attempt_machine.proofs.Stores.{call_declared}
use Rattle.attempt_machine.specs.Asking.{Known}
use Rattle.attempt_machine.specs.Place.{place_of, instance_under, Tells}
use Rattle.attempt_machine.specs.Correct.{IsReached}
use Rattle.attempt_machine.specs.Machine.{entered_at}
use Rattle.attempt_machine.specs.Reading.{ReadsOn}
use Rattle.attempt.specs.Stops.{Stops}
use Rattle.attempt.specs.declared.next.Stand.TheVariants as stand
use Rattle.attempt_writes.specs.Order.{AllKnown, Apart}
use Rattle.attempt.proofs.Reading.{reads_known}
use Rattle.attempt.proofs.Calls.{call_known}
use Rattle.attempt.proofs.Under.{same_program, same_instance, same_code}
use Rattle.attempt.proofs.running.run_on.Goals as goal

-- what ended, or ran out of memory, needs no variable
end_needs_none : {E : Type 0} (r : Result Found E) (o : Outcome) (x : VarId) → r ≡ Ok (found.End o) → r ≢ Ok (found.Need x)
end_needs_none r o x e f = cc

short_needs_none : {E : Type 0} (r : Result Found E) (short : E) (x : VarId) → r ≡ Err short → r ≢ Ok (found.Need x)
short_needs_none r short x e f = cc

pub run-requires-clause-code : goal.run-requires-clause-code
run-requires-clause-code g c =
    let l = c.args.catalogue.now in
    let same = same_program l c.args.id c.always-always.result.now c.tx-tx.result.now c.always-always.ensures.conditions c.tx-tx.ensures.value in
    same_code l c.args.id c.code-own.result.now c.ending-ending.result.now c.code-own.ensures.value c.ending-ending.ensures.value ∙ ap machine_code (sym same)

pub run-requires-clause-declared : goal.run-requires-clause-declared
run-requires-clause-declared g c =
    let l = c.args.catalogue.now in
    let given = c.args.arguments.now in
    let declared = call_declared l c.args.id given c.rules.ensures.limits c.rules.ensures.names c.requires.callable.declared in
    let same = same_instance c.args.arguments.now l c.args.id c.always-always.result.now c.tx-tx.result.now c.always-always.ensures.conditions c.tx-tx.ensures.value in
    subst (λ (t : Program). AreDeclared (program_code t)) (sym same) declared

pub run-requires-clause-fits : goal.run-requires-clause-fits
run-requires-clause-fits g c =
    let l = c.args.catalogue.now in
    let same = same_program l c.args.id c.always-always.result.now c.tx-tx.result.now c.always-always.ensures.conditions c.tx-tx.ensures.value in
    subst (λ (t : Program). program_fits t ≡ true) (sym same) (program_fitting l c.args.id c.rules.ensures.limits c.requires.callable.declared)

pub run-requires-clause-conditions : goal.run-requires-clause-conditions
run-requires-clause-conditions g c =
    let l = c.args.catalogue.now in
    let same = same_program l c.args.id c.always-always.result.now c.tx-tx.result.now c.always-always.ensures.conditions c.tx-tx.ensures.value in
    subst (λ (t : Program). conditions_fit t.always ≡ true) (sym same) (conditions_fitting l c.args.id c.rules.ensures.limits)

pub run-requires-clause-closed : goal.run-requires-clause-closed
run-requires-clause-closed g c =
    let l = c.args.catalogue.now in
    let same = same_program l c.args.id c.always-always.result.now c.tx-tx.result.now c.always-always.ensures.conditions c.tx-tx.ensures.value in
    subst (λ (t : Program). ConditionsKnown most_values t.always) (sym same) (conditions_known l c.rules.ensures.limits c.rules.ensures.names)

pub run-requires-clause-reached : goal.run-requires-clause-reached
run-requires-clause-reached g c =
    let l = c.args.catalogue.now in
    let same = same_instance c.args.arguments.now l c.args.id c.always-always.result.now c.tx-tx.result.now c.always-always.ensures.conditions c.tx-tx.ensures.value in
    subst (λ (t : Program). IsReached (program_code t) c.args.log.now (place_of c.args.m.now) c.args.count.now.entered) (sym same) c.requires.reached

pub run-requires-clause-ahead : goal.run-requires-clause-ahead
run-requires-clause-ahead g c =
    let l = c.args.catalogue.now in
    let same = same_instance c.args.arguments.now l c.args.id c.always-always.result.now c.tx-tx.result.now c.always-always.ensures.conditions c.tx-tx.ensures.value in
    subst (λ (t : Program). c.args.count.now.ahead ≤ entered_at (program_code t) (place_of c.args.m.now)) (sym same) c.requires.ahead

-- the log after a run is still of variables that may be named, each once
logged : (l : Listing) (id : TxId) (given : List ℤ) (always : List (String Global × Cond)) (tx : Tx) (m : State) (earlier later : Known) → map (λ a. condition_of a.1) always ≡ conditions l → transaction_of tx ≡ transaction_at l id →
    names_hold l ≡ true → values l ≡ length l.initial → id.0 < length l.transactions → ReadsOn (instance_under given always tx) m earlier later → AllKnown (length l.initial) earlier → Apart earlier → AllKnown (length l.initial) later × Apart later
logged l id given always tx m earlier later conditions is names valued declared reads known apart =
    let same = same_instance given l id always tx conditions is in
    reads_known (length l.initial) (call_program l id given) m earlier later (call_known l id given names valued declared) (subst (λ (t : Program). ReadsOn t m earlier later) same reads) known apart

pub returns-in-Ok-Need-clause-known : goal.returns-in-Ok-Need-clause-known
returns-in-Ok-Need-clause-known g c =
    (logged c.args.catalogue.now c.args.id c.args.arguments.now c.always-always.result.now c.tx-tx.result.now (g.R.Reader.values c.args.reader.now) c.args.log.now c.run.new.log c.always-always.ensures.conditions c.tx-tx.ensures.value c.rules.ensures.names c.rules.ensures.valued c.requires.callable.declared c.run.ensures.reads c.requires.known c.requires.apart).0

pub returns-in-Ok-Need-clause-apart : goal.returns-in-Ok-Need-clause-apart
returns-in-Ok-Need-clause-apart g c =
    (logged c.args.catalogue.now c.args.id c.args.arguments.now c.always-always.result.now c.tx-tx.result.now (g.R.Reader.values c.args.reader.now) c.args.log.now c.run.new.log c.always-always.ensures.conditions c.tx-tx.ensures.value c.rules.ensures.names c.rules.ensures.valued c.requires.callable.declared c.run.ensures.reads c.requires.known c.requires.apart).1

pub returns-in-Ok-End-clause-known : goal.returns-in-Ok-End-clause-known
returns-in-Ok-End-clause-known g c =
    (logged c.args.catalogue.now c.args.id c.args.arguments.now c.always-always.result.now c.tx-tx.result.now (g.R.Reader.values c.args.reader.now) c.args.log.now c.run.new.log c.always-always.ensures.conditions c.tx-tx.ensures.value c.rules.ensures.names c.rules.ensures.valued c.requires.callable.declared c.run.ensures.reads c.requires.known c.requires.apart).0

pub returns-in-Ok-End-clause-apart : goal.returns-in-Ok-End-clause-apart
returns-in-Ok-End-clause-apart g c =
    (logged c.args.catalogue.now c.args.id c.args.arguments.now c.always-always.result.now c.tx-tx.result.now (g.R.Reader.values c.args.reader.now) c.args.log.now c.run.new.log c.always-always.ensures.conditions c.tx-tx.ensures.value c.rules.ensures.names c.rules.ensures.valued c.requires.callable.declared c.run.ensures.reads c.requires.known c.requires.apart).1

pub returns-in-Err-clause-known : goal.returns-in-Err-clause-known
returns-in-Err-clause-known g c =
    (logged c.args.catalogue.now c.args.id c.args.arguments.now c.always-always.result.now c.tx-tx.result.now (g.R.Reader.values c.args.reader.now) c.args.log.now c.run.new.log c.always-always.ensures.conditions c.tx-tx.ensures.value c.rules.ensures.names c.rules.ensures.valued c.requires.callable.declared c.run.ensures.reads c.requires.known c.requires.apart).0

pub returns-in-Err-clause-apart : goal.returns-in-Err-clause-apart
returns-in-Err-clause-apart g c =
    (logged c.args.catalogue.now c.args.id c.args.arguments.now c.always-always.result.now c.tx-tx.result.now (g.R.Reader.values c.args.reader.now) c.args.log.now c.run.new.log c.always-always.ensures.conditions c.tx-tx.ensures.value c.rules.ensures.names c.rules.ensures.valued c.requires.callable.declared c.run.ensures.reads c.requires.known c.requires.apart).1

pub returns-in-Ok-Need-clause-open : goal.returns-in-Ok-Need-clause-open
returns-in-Ok-Need-clause-open g c = λ h e. absurd (h c.in-Ok-Need.x refl)

pub returns-in-Ok-End-clause-open : goal.returns-in-Ok-End-clause-open
returns-in-Ok-End-clause-open g c = λ h. c.run.ensures.open (λ x. end_needs_none _ _ x (c.in-Ok-End.is ∙ ap Ok c.in-Ok-End.field-0-is))

pub returns-in-Err-clause-open : goal.returns-in-Err-clause-open
returns-in-Err-clause-open g c = λ h. c.run.ensures.open (λ x. short_needs_none _ _ x c.in-Err.is)

pub returns-in-Ok-Need-clause-room : goal.returns-in-Ok-Need-clause-room
returns-in-Ok-Need-clause-room g c = λ all y is low.
    let same : c.in-Ok-Need.x ≡ y = cc is in
    c.run.ensures.room all y (subst (λ (z : VarId). c.run.result ≡ Ok (found.Need z)) same (c.in-Ok-Need.is ∙ ap Ok c.in-Ok-Need.field-0-is)) low

pub returns-in-Ok-Need-clause-stops : goal.returns-in-Ok-Need-clause-stops
returns-in-Ok-Need-clause-stops g c =
    let l = c.args.catalogue.now in
    let same = same_instance c.args.arguments.now l c.args.id c.always-always.result.now c.tx-tx.result.now c.always-always.ensures.conditions c.tx-tx.ensures.value in
    subst (λ (t : Program). Stops t c.run.new.log (stand.Needs c.in-Ok-Need.x) (place_of c.run.new.m) c.run.new.count.entered c.run.new.count.ahead) same
    (subst (λ r. IfOk r (λ found. Tells (instance_under c.args.arguments.now c.always-always.result.now c.tx-tx.result.now) c.run.new.log found (place_of c.run.new.m) c.run.new.count.entered c.run.new.count.ahead)) (c.in-Ok-Need.is ∙ ap Ok c.in-Ok-Need.field-0-is) c.run.ensures.tells)

pub returns-in-Ok-End-clause-stops : goal.returns-in-Ok-End-clause-stops
returns-in-Ok-End-clause-stops g c =
    let l = c.args.catalogue.now in
    let same = same_instance c.args.arguments.now l c.args.id c.always-always.result.now c.tx-tx.result.now c.always-always.ensures.conditions c.tx-tx.ensures.value in
    subst (λ (t : Program). Stops t c.run.new.log (stand.Over c.in-Ok-End.outcome) (place_of c.run.new.m) c.run.new.count.entered c.run.new.count.ahead) same
    (subst (λ r. IfOk r (λ found. Tells (instance_under c.args.arguments.now c.always-always.result.now c.tx-tx.result.now) c.run.new.log found (place_of c.run.new.m) c.run.new.count.entered c.run.new.count.ahead)) (c.in-Ok-End.is ∙ ap Ok c.in-Ok-End.field-0-is) c.run.ensures.tells)

pub returns-in-Ok-Need-clause-few : goal.returns-in-Ok-Need-clause-few
returns-in-Ok-Need-clause-few g c =
    let l = c.args.catalogue.now in
    let same = same_instance c.args.arguments.now l c.args.id c.always-always.result.now c.tx-tx.result.now c.always-always.ensures.conditions c.tx-tx.ensures.value in
    subst (λ (t : Program). c.run.new.count.entered + c.run.new.count.ahead ≤ cost t) same c.run.ensures.few

pub returns-in-Ok-Need-clause-reads : goal.returns-in-Ok-Need-clause-reads
returns-in-Ok-Need-clause-reads g c =
    let l = c.args.catalogue.now in
    let same = same_instance c.args.arguments.now l c.args.id c.always-always.result.now c.tx-tx.result.now c.always-always.ensures.conditions c.tx-tx.ensures.value in
    subst (λ (t : Program). ReadsOn t (g.R.Reader.values c.args.reader.now) c.args.log.now c.run.new.log) same c.run.ensures.reads

pub returns-in-Ok-End-clause-few : goal.returns-in-Ok-End-clause-few
returns-in-Ok-End-clause-few g c =
    let l = c.args.catalogue.now in
    let same = same_instance c.args.arguments.now l c.args.id c.always-always.result.now c.tx-tx.result.now c.always-always.ensures.conditions c.tx-tx.ensures.value in
    subst (λ (t : Program). c.run.new.count.entered + c.run.new.count.ahead ≤ cost t) same c.run.ensures.few

pub returns-in-Ok-End-clause-reads : goal.returns-in-Ok-End-clause-reads
returns-in-Ok-End-clause-reads g c =
    let l = c.args.catalogue.now in
    let same = same_instance c.args.arguments.now l c.args.id c.always-always.result.now c.tx-tx.result.now c.always-always.ensures.conditions c.tx-tx.ensures.value in
    subst (λ (t : Program). ReadsOn t (g.R.Reader.values c.args.reader.now) c.args.log.now c.run.new.log) same c.run.ensures.reads

pub returns-in-Err-clause-few : goal.returns-in-Err-clause-few
returns-in-Err-clause-few g c =
    let l = c.args.catalogue.now in
    let same = same_instance c.args.arguments.now l c.args.id c.always-always.result.now c.tx-tx.result.now c.always-always.ensures.conditions c.tx-tx.ensures.value in
    subst (λ (t : Program). c.run.new.count.entered + c.run.new.count.ahead ≤ cost t) same c.run.ensures.few

pub returns-in-Err-clause-reads : goal.returns-in-Err-clause-reads
returns-in-Err-clause-reads g c =
    let l = c.args.catalogue.now in
    let same = same_instance c.args.arguments.now l c.args.id c.always-always.result.now c.tx-tx.result.now c.always-always.ensures.conditions c.tx-tx.ensures.value in
    subst (λ (t : Program). ReadsOn t (g.R.Reader.values c.args.reader.now) c.args.log.now c.run.new.log) same c.run.ensures.reads

pub returns-in-Err-clause-in_place : goal.returns-in-Err-clause-in_place
returns-in-Err-clause-in_place g c =
    let l = c.args.catalogue.now in
    let same = same_instance c.args.arguments.now l c.args.id c.always-always.result.now c.tx-tx.result.now c.always-always.ensures.conditions c.tx-tx.ensures.value in
    λ small. absurd (cc (subst IsOk c.in-Err.is (c.run.ensures.in_place (subst NeedsNoMemory (sym same) small))))
