-- What is right in a report's parts.
use Rattle.std.specs.Prelude.{◌≡◌, ◌≢◌, ◌+◌, ◌<◌, ◌≤◌, ◌==◌, if◌then◌else◌, true, ℕ, ℤ, List, take, Ok, Some, slice_get}
use Rattle.txn_programs.specs.declared.ast.TaskId.{TaskId}
use Rattle.txn_programs.specs.declared.ast.TxId.{TxId}
use Rattle.txn_programs.specs.declared.ast.Outcome.TheVariants.{Retries}
use Rattle.txn_programs.specs.declared.report.Entry.{Entry}
use Rattle.txn_programs.specs.Tree.{Condition}
use Rattle.txn_programs.specs.Meaning.{State, truth, outcome}
use Rattle.txn_programs.specs.Listing.{Listing, arity, program_as, task_tx, transaction_at}
use Rattle.txn_programs.specs.Replay.{Snapshot}
use Rattle.txn_programs.specs.LawfulReport.{HasOwn}
use Rattle.checker.specs.Parts.{GoesOn, led_to}

-- a variable begins with its initial value, and with version 0
abbrev pub Opens : State → ℕ → ℤ × ℕ → Type 0
Opens initial i v = (slice_get initial i ≡ Some v.0) × (v.1 ≡ 0)

-- its version is not above the number
abbrev pub IsRecent : ℕ → ℕ → ℤ × ℕ → Type 0
IsRecent number i v = v.1 ≤ number

-- a condition is true of the values
abbrev pub IsTrueOf : State → ℕ → Condition → Type 0
IsTrueOf m i c = truth c m ≡ Ok true

-- an entry goes on from where those before it lead
abbrev pub GoesOnThere : Listing → Snapshot → List Entry → ℕ → Entry → Type 0
GoesOnThere l s es i e = GoesOn l e (led_to l s (take i es))

-- the transaction of an entry as replay has it: the one that it names, or its task's own where that one takes more or
-- fewer arguments than the task has
abbrev pub due_tx : Listing → Entry → TxId
due_tx l e = if arity (transaction_at l e.tx) == arity (transaction_at l (task_tx l e.task)) then e.tx else task_tx l e.task

-- the entry as replay has it: with the next number, and as its transaction ends there with the arguments of its task
abbrev pub due_at : Listing → Snapshot → Entry → Entry
due_at l s e =
    record { number = s.number + 1; task = e.task; tx = due_tx l e; outcome = outcome (program_as l e.task (due_tx l e)) s.state }

-- a variable has the snapshot's value and version
abbrev pub StandsAt : Snapshot → ℕ → ℤ × ℕ → Type 0
StandsAt s i v = (slice_get s.state i ≡ Some v.0) × (slice_get s.versions i ≡ Some v.1)

-- a task is named with its own transaction
abbrev pub IsOwn : Listing → ℕ → TaskId × TxId → Type 0
IsOwn l i p = HasOwn l p.0 p.1

-- a task stands on no line before
abbrev pub IsNew : List (TaskId × TxId) → ℕ → TaskId × TxId → Type 0
IsNew lines i p = (j : ℕ) (q : TaskId × TxId) → j < i → slice_get lines j ≡ Some q → q.0.0 ≢ p.0.0

-- a task is larger than that of the line before
abbrev pub Climbs : List (TaskId × TxId) → ℕ → TaskId × TxId → Type 0
Climbs lines i p = (j : ℕ) (q : TaskId × TxId) → i ≡ j + 1 → slice_get lines j ≡ Some q → q.0.0 < p.0.0

-- a task waits for a change
abbrev pub Waits : Listing → State → ℕ → TaskId × TxId → Type 0
Waits l m i p = outcome (program_as l p.0 p.1) m ≡ Retries
