use Rattle.std.proofs.Common.{◌≡◌, ℕ, ℤ, List, sym, ◌∙◌, ap, subst, ⊎_elim}
use Rattle.txn_programs.specs.declared.ast.TxId.{TxId}
use Rattle.txn_programs.specs.declared.ast.TaskId.{TaskId}
use Rattle.txn_programs.specs.declared.ast.Outcome.TheVariants.{Retries}
use Rattle.txn_programs.specs.Listing.{Listing, IsCallable, call_program, task_arguments, task_program, task_tx}
use Rattle.txn_programs.specs.Meaning.{outcome}
use Rattle.txn_programs.specs.Tree.{Program}
use Rattle.book.specs.Turns.{Served}
use Rattle.book.specs.declared.task.Serial.{Serial}
use Rattle.book.specs.declared.task.Serial.TheVariants as serial
use Rattle.explore_runner.proofs.Putting.{put_parked, put_given_up, gave_up}
use Rattle.explore_runner.proofs.stopping.put_running_by.Goals as goal

-- the call is the task's
call_is : (l : Listing) (task : TaskId) (tx : TxId) (arguments : List ℤ) → tx ≡ task_tx l task → arguments ≡ task_arguments l task → call_program l tx arguments ≡ task_program l task
call_is l task tx arguments a b = ap (λ (x : TxId). call_program l x arguments) a ∙ ap (call_program l (task_tx l task)) b

callable : (l : Listing) (task : TaskId) (tx : TxId) (arguments : List ℤ) → tx ≡ task_tx l task → IsCallable l (task_tx l task) arguments → IsCallable l tx arguments
callable l task tx arguments a h = subst (λ (x : TxId). IsCallable l x arguments) (sym a) h

pub outcome_now-requires : goal.outcome_now-requires
outcome_now-requires c =
    let b = c.args.book.now in
    callable b.catalogue c.args.task c.task_tx-tx.result c.task_arguments-arguments.result.now c.task_tx-tx.ensures.value c.task_arguments-arguments.ensures.each

pub returns-in_default : goal.returns-in_default
returns-in_default c =
    let task = c.args.task in
    let b = c.args.book.now in
    let is = gave_up b c.give_up-is_given_up.new.self task c.give_up-is_given_up.result c.requires.runs c.give_up-is_given_up.ensures.given_up in
    put_given_up b c.give_up-is_given_up.new.self task c.requires.exists is
    (λ retries.
    c.in_default.not-Retries
    (sym c.in_ok-outcome_now.ensures.ends.outcome_is
    ∙ (ap (λ (t : Program). outcome t b.present.state)
    (call_is b.catalogue task c.task_tx-tx.result c.task_arguments-arguments.result.now c.task_tx-tx.ensures.value c.task_arguments-arguments.ensures.value)
    ∙ retries)))

pub returns-in-Parked : goal.returns-in-Parked
returns-in-Parked c =
    let task = c.args.task in
    let b = c.args.book.now in
    let new = c.serial_lent.new.self in
    let s = subst (λ (r : Serial). Served b task r new) c.in-Parked.is c.serial_lent.ensures.served in
    put_parked b new task s.2.0 c.requires.exists s.2.2

pub unreachable-requires : goal.unreachable-requires
unreachable-requires c =
    let task = c.args.task in
    let b = c.args.book.now in
    let new = c.serial_lent.new.self in
    let retries : outcome (task_program b.catalogue task) b.present.state ≡ Retries =
    ap (λ (t : Program). outcome t b.present.state)
    (sym (call_is b.catalogue task c.task_tx-tx.result c.task_arguments-arguments.result.now c.task_tx-tx.ensures.value c.task_arguments-arguments.ensures.value))
    ∙ (c.in_ok-outcome_now.ensures.ends.outcome_is ∙ c.in-Retries.is) in
    ⊎_elim
    (λ (e : c.serial_lent.result ≡ serial.NotRunning). let s = subst (λ (r : Serial). Served b task r new) e c.serial_lent.ensures.served in s.0 c.requires.runs)
    (λ (h : (x : ℕ) × (c.serial_lent.result ≡ serial.Committed x)). let s = subst (λ (r : Serial). Served b task r new) h.1 c.serial_lent.ensures.served in s.1 retries)
    c.in-NotRunning.is
