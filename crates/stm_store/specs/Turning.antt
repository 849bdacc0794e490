-- What turns leave, and calls of a transaction.
use Rattle.std.specs.Prelude.{◌≡◌, ◌≢◌, ◌+◌, ◌<◌, ◌≤◌, ℕ, ℤ, List, length, Option, Some, None, Result, Ok, Err, slice_get}
use Rattle.txn_programs.specs.declared.ast.TaskId.{TaskId}
use Rattle.txn_programs.specs.declared.ast.TxId.{TxId}
use Rattle.txn_programs.specs.declared.ast.Outcome.{Outcome}
use Rattle.txn_programs.specs.declared.ast.Outcome.TheVariants.{Retries}
use Rattle.txn_programs.specs.Meaning.{outcome}
use Rattle.txn_programs.specs.Listing.{call_program, task_tx}
use Rattle.attempt.specs.Room.{TakesMemory}
use Rattle.attempt.specs.View.{AttemptView}
use Rattle.book.specs.View.{BookView, IsRunning, stands}
use Rattle.book.specs.Tasks.{Ready, Running}
use Rattle.book.specs.Turns.{Taken, EndsOn}
use Rattle.book.specs.Turns.{Served as IsServed}
use Rattle.book.specs.Submitted.{submitted}
use Rattle.book.specs.declared.task.Serial.TheVariants as serial
use Rattle.stm_store.specs.Tickets.{with_next}
use Rattle.stm_store.specs.Entering.{Enters}
use Rattle.stm_store.specs.Asking.{HasRoom, IsFull, IsUnchanged, IsPresentJob}
use Rattle.stm_store.specs.declared.job.Job.{Job}
use Rattle.stm_store.specs.declared.answers.End.{End}
use Rattle.stm_store.specs.declared.answers.End.TheVariants as end
use Rattle.stm_store.specs.declared.answers.Refused.{Refused}
use Rattle.stm_store.specs.declared.answers.Refused.TheVariants as refused
use Rattle.stm_store.specs.declared.answers.Way.{Way}
use Rattle.stm_store.specs.declared.answers.Way.TheVariants as ways
use Rattle.stm_store.specs.declared.store.Store.{Store}

-- a turn of the running task on the present values: entered, parked, or given up, as one whose transaction takes no
-- memory never is
abbrev pub Ends : ℕ → BookView → TaskId → End → BookView → Type 0
Ends every old task (end.Entered e) new = Enters every old task e new
Ends every old task end.Parked new = IsServed old task serial.Parked new
Ends every old task end.Abandoned new =
    IsServed old task serial.Abandoned new × TakesMemory old.catalogue (task_tx old.catalogue task)

-- `turn`: where the job's task is running in the present chapter, it has its turn; else nothing changed
abbrev pub HasTurn : Store → Job → Result End Refused → Store → Type 0
HasTurn old job (Err refused.Gone) new = (IsPresentJob old job → ⊥) × (new.book ≡ old.book)
HasTurn old job (Err refused.NotRunning) new =
    IsPresentJob old job × (IsRunning old.book job.task → ⊥) × (new.book ≡ old.book)
HasTurn old job (Err _) new = ⊥
HasTurn old job (Ok how) new =
    IsPresentJob old job × IsRunning old.book job.task × Ends old.every old.book job.task how new.book

-- so many turns of the lowest ready task, one after another
pub data TurnsGiven (every : ℕ) (start : BookView) : ℕ → BookView → Type 0 where
  NoTurn : TurnsGiven every start 0 start
  OneMore : {n : ℕ} {a : BookView} (b : BookView) {c : BookView} (task : TaskId) (how : End) → TurnsGiven every start n a → Taken a (Some task) b → Ends every b task how c → TurnsGiven every start (n + 1) c

-- `turns`: as many as were asked for, or until no task is ready
pub record GivesTurns (every most : ℕ) (old : BookView) (n : ℕ) (new : BookView) : Type 0 where
  pub turns : TurnsGiven every old n new
  pub bound : n ≤ most
  pub rest : n < most → (k : ℕ) → slice_get new.tasks k ≢ Some Ready

-- the book with the task that a call makes, which is running
abbrev pub called_book : BookView → TxId → List ℤ → TaskId → BookView
called_book b tx arguments task = stands (submitted b (record { tx = tx; arguments = arguments })) task Running

-- the job of a task more: it has the next number, and the next ticket
pub record IsNewJob (old : Store) (tx : TxId) (arguments : List ℤ) (job : Job) : Type 0 where
  pub task : job.task.0 ≡ length old.book.tasks
  pub ticket : job.ticket.0 ≡ old.tickets.given
  pub chapter : job.chapter ≡ old.chapter
  pub runs : job.tx ≡ tx
  pub given : job.arguments ≡ arguments

-- where there is room a running task of the call more; else nothing changed
abbrev pub BeginsCall : Store → TxId → List ℤ → Option Job → Store → Type 0
BeginsCall old tx arguments None new = IsFull old × IsUnchanged old new
BeginsCall old tx arguments (Some job) new =
    HasRoom old
    × IsNewJob old tx arguments job
    × (new.tickets ≡ with_next old.tickets)
    × (new.book ≡ called_book old.book tx arguments job.task)

-- a task of the call more was made, and had its turn
pub record Runs (old : Store) (tx : TxId) (arguments : List ℤ) (job : Job) (how : End) (new : Store) : Type 0 where
  pub room : HasRoom old
  pub is_new : IsNewJob old tx arguments job
  pub tickets : new.tickets ≡ with_next old.tickets
  pub ends : Ends old.every (called_book old.book tx arguments job.task) job.task how new.book

-- the call retries on the present values
abbrev pub RetriesNow : Store → TxId → List ℤ → Type 0
RetriesNow s tx arguments = outcome (call_program s.book.catalogue tx arguments) s.book.present.state ≡ Retries

-- why a call was not made
abbrev pub RefusesCall : Way → Store → TxId → List ℤ → Refused → Type 0
RefusesCall way s tx arguments refused.NoRoom = IsFull s
RefusesCall way s tx arguments refused.Retries = (way ≡ ways.Tries) × RetriesNow s tx arguments
RefusesCall way s tx arguments _ = ⊥

-- `call`: it is submitted, and has its turn at once, by which one that only tries is not parked; else nothing changed
abbrev pub Calls : Way → Store → TxId → List ℤ → Result (Job × End) Refused → Store → Type 0
Calls way old tx arguments (Err why) new = RefusesCall way old tx arguments why × IsUnchanged old new
Calls way old tx arguments (Ok t) new =
    Runs old tx arguments t.0 t.1 new × (way ≡ ways.Tries → t.1 ≢ end.Parked)

-- the attempt has ended as the call does on the present values, and does not retry
pub record EndsHere (b : BookView) (tx : TxId) (arguments : List ℤ) (a : AttemptView) : Type 0 where
  pub how : Outcome
  pub ends : EndsOn b.catalogue tx arguments b.present.state how a
  pub enters : how ≢ Retries
