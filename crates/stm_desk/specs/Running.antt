-- Running tasks: each is evaluated by whoever waits for it, outside the desk.
use Rattle.std.specs.Prelude.{◌≡◌, ◌≢◌, ◌⊎◌, ℕ, Bool, true, List, ◌∷◌, ◌++◌, []}
use Rattle.std.specs.Prelude.{Option, Some, None, Result, Ok, Err, slice_get}
use Rattle.txn_programs.specs.declared.ast.TaskId.{TaskId}
use Rattle.txn_programs.specs.declared.ast.TxId.{TxId}
use Rattle.txn_programs.specs.declared.arguments.Call.{Call}
use Rattle.book.specs.Tasks.{Running}
use Rattle.book.specs.View.{IsRunning}
use Rattle.stm_store.specs.Asking.{IsFull, IsPresentJob}
use Rattle.stm_store.specs.Bringing.{Brings, IsBroughtFor, Judged}
use Rattle.stm_store.specs.Turning.{HasTurn}
use Rattle.stm_store.specs.declared.answers.End.{End}
use Rattle.stm_store.specs.declared.answers.Refused.{Refused}
use Rattle.stm_store.specs.declared.answers.Refused.TheVariants as refused
use Rattle.stm_store.specs.declared.job.Job.{Job}
use Rattle.stm_store.specs.declared.store.Store.{Store}
use Rattle.stm_store.specs.declared.worker.Worker.{Worker}
use Rattle.stm_desk.specs.declared.answers.Asked.{Asked}
use Rattle.stm_desk.specs.declared.answers.Asked.TheVariants as asked
use Rattle.stm_desk.specs.declared.answers.Due.{Due}
use Rattle.stm_desk.specs.declared.waiters.Waiters.{Waiters}
use Rattle.stm_desk.specs.declared.waiters.Waiting.{Waiting}
use Rattle.stm_desk.specs.declared.work.Work.{Work}
use Rattle.stm_desk.specs.Asking.{IsGivenUp, IsOneMore, IsSame, call_of, next_ticket}
use Rattle.stm_desk.specs.Ending.{IsTurnedAway}
use Rattle.stm_desk.specs.Settling.{Noted, Settles}
use Rattle.stm_desk.specs.Waiting.{IsSeated, waiting_at}

-- the transaction is marked as long
abbrev pub IsLong : List Bool → TxId → Type 0
IsLong long tx = slice_get long tx.0 ≡ Some true

-- the task at this place runs
abbrev pub RunsAt : Store → ℕ → Type 0
RunsAt s k = slice_get s.book.tasks k ≡ Some Running

-- for each task that runs a call waits, but for one
abbrev pub AwaitedBut : Store → Waiters → TaskId → Type 0
AwaitedBut s w task =
    (k ticket : ℕ) → k ≢ task.0 → RunsAt s k → slice_get s.tickets.held k ≡ Some ticket → waiting_at w ticket ≢ None

-- for each task that runs a call waits
abbrev pub AreAwaited : Store → Waiters → Type 0
AreAwaited s w = (k ticket : ℕ) → RunsAt s k → slice_get s.tickets.held k ≡ Some ticket → waiting_at w ticket ≢ None

-- the list has the job of the task at this place
pub record HasJob (s : Store) (list : List Job) (k : ℕ) : Type 0 where
  pub place : ℕ
  pub job : Job
  pub at_place : slice_get list place ≡ Some job
  pub of : job.task.0 ≡ k
  pub present : IsPresentJob s job

-- each task that runs ran before, and nothing is handed out
pub record HandsNothingOut (old new : Work) : Type 0 where
  pub due : new.due.items ≡ old.due.items
  pub long : new.long.items ≡ old.long.items
  pub runs : (k : ℕ) → RunsAt new.store k → RunsAt old.store k

-- each task that runs ran before, or is to be handed out, once, behind all that was to be before; only long ones are,
-- which run
pub record HandsOut (old new : Work) : Type 0 where
  pub more : List Job
  pub due : new.due.items ≡ old.due.items ++ more
  pub each : (k : ℕ) → RunsAt new.store k → RunsAt old.store k ⊎ HasJob new.store more k
  pub long : (place : ℕ) (job : Job) → slice_get more place ≡ Some job → IsLong old.long.items job.tx
  pub running : (place : ℕ) (job : Job) → slice_get more place ≡ Some job
      → IsPresentJob new.store job × RunsAt new.store job.task.0
  pub once : (i j : ℕ) (a b : Job) → slice_get more i ≡ Some a → slice_get more j ≡ Some b
      → a.task.0 ≡ b.task.0 → i ≡ j

-- by turns of ready tasks alone: what ran runs on, and what is to be handed out did not run before
pub record LendsOut (old new : Work) : Type 0 where
  pub hands_out : HandsOut old new
  pub runs_on : (k : ℕ) → RunsAt old.store k → RunsAt new.store k
  pub fresh : (place : ℕ) (job : Job) → slice_get hands_out.more place ≡ Some job → RunsAt old.store job.task.0 → ⊥

-- of no job of the list anybody waits for the task
abbrev pub NobodyWaits : Waiters → List Job → Type 0
NobodyWaits w list = (place : ℕ) (job : Job) → slice_get list place ≡ Some job → waiting_at w job.ticket.0 ≡ None

-- what is handed out next, of what somebody still waits for
abbrev pub IsHanded : Work → Option Due → Work → Type 0
IsHanded old None new = NobodyWaits old.waiters old.due.items × (new.due.items ≡ [])
IsHanded old (Some d) new =
    (skipped : List Job)
    × (seat : Waiting)
    × (old.due.items ≡ skipped ++ d.job ∷ new.due.items)
    × NobodyWaits old.waiters skipped
    × (waiting_at old.waiters d.job.ticket.0 ≡ Some seat)
    × (d.whose ≡ seat.whose)

-- why a task has no turn
abbrev pub RefusesTurn : Store → Job → Refused → Type 0
RefusesTurn s job refused.Gone = IsPresentJob s job → ⊥
RefusesTurn s job refused.NotRunning = IsPresentJob s job × (IsRunning s.book job.task → ⊥)
RefusesTurn s job _ = ⊥

abbrev pub noted_by : Work → Noted
noted_by w = (w.history.items, w.places, w.waiters)

-- it had its turn, and what came of it is noted and told
abbrev pub HadTurn : Work → Job → Work → Type 0
HadTurn old job new =
    (how : End) × HasTurn old.store job (Ok how) new.store × Settles (noted_by old) job how (noted_by new)

-- a worker's ended attempt of the job is entered or parked by the store, which is noted and told
abbrev pub HadBrought : Work → Worker → Work → Type 0
HadBrought old w new =
    (job : Job)
    × (how : End)
    × IsBroughtFor old.store w job
    × Judged old.store.every old.store.book job.task w.attempt (Ok how) new.store.book
    × Settles (noted_by old) job how (noted_by new)

-- `bring`: the store judges it; else nothing changed, and why
abbrev pub HasBroughtTo : Work → Worker → Result (Unit {0}) Refused → Work → Type 0
HasBroughtTo old w (Ok done) new = HadBrought old w new
HasBroughtTo old w (Err why) new = Brings old.store w (Err why) new.store × IsSame old new

-- the task of a long call runs: whoever asked evaluates it, and waits for it
pub record RunsFor (old : Work) (call : Call) (whose : ℕ) (job : Job) (new : Work) : Type 0 where
  pub ticket : job.ticket ≡ next_ticket old.store
  pub given : IsOneMore old.store new.store
  pub calls : call_of job ≡ call
  pub present : IsPresentJob new.store job
  pub running : RunsAt new.store job.task.0
  pub seated : IsSeated old.waiters job.ticket whose call new.waiters
  pub history : new.history.items ≡ old.history.items
  pub due : new.due.items ≡ old.due.items
  pub others : (k : ℕ) → RunsAt new.store k → RunsAt old.store k ⊎ (k ≡ job.task.0)

-- `begin`
abbrev pub IsBegun : Work → Call → ℕ → Result Asked Refused → Work → Type 0
IsBegun old call whose (Ok (asked.Runs job)) new = RunsFor old call whose job new
IsBegun old call whose (Ok asked.ChapterFull) new = IsFull old.store × IsTurnedAway old (Ok asked.ChapterFull) new
IsBegun old call whose (Ok _) new = ⊥
IsBegun old call whose (Err refused.Memory) new = IsGivenUp old new
IsBegun old call whose (Err refused.NoRoom) new = IsFull old.store × IsTurnedAway old (Err refused.NoRoom) new
IsBegun old call whose (Err _) new = ⊥
