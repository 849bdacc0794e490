-- What a thread that waits is told, and what every call is answered.
use Rattle.std.specs.Prelude.{◌≡◌, ◌≤◌, ◌⊎◌, ℕ, length, Some, Result, Ok, Err}
use Rattle.txn_programs.specs.declared.arguments.Call.{Call}
use Rattle.txn_programs.specs.declared.ast.Outcome.TheVariants.{Retries}
use Rattle.txn_programs.specs.Meaning.{State, outcome}
use Rattle.txn_programs.specs.Listing.{IsCallable, Listing, call_program}
use Rattle.stm_store.specs.declared.answers.Refused.{Refused}
use Rattle.stm_store.specs.declared.answers.Refused.TheVariants as refused
use Rattle.stm_store.specs.declared.answers.Way.{Way}
use Rattle.stm_store.specs.declared.answers.Way.TheVariants as ways
use Rattle.stm_store.specs.declared.job.Ticket.{Ticket}
use Rattle.stm_desk.specs.declared.answers.Answer.{Answer}
use Rattle.stm_desk.specs.declared.waiters.Waiters.{Waiters}
use Rattle.stm_desk.specs.declared.waiters.Waiting.{Waiting}
use Rattle.stm_desk.specs.History.{History, led}
use Rattle.stm_desk.specs.Keeping.{IsEntry, IsLeft}
use Rattle.stm_desk.specs.Waiting.{IsToldIn, waiting_at}

-- the call that was made with this ticket waits at the desk, or is told of next
pub record IsAwaited (w : Waiters) (ticket : ℕ) (call : Call) : Type 0 where
  pub seat : Waiting
  pub calls : seat.call.value ≡ call
  pub there : (waiting_at w ticket ≡ Some seat) ⊎ IsToldIn w.told.items ticket seat

-- what a call that waited is told: its entry, or that its task was given up, by memory or as the service was closed
abbrev pub IsTold : History → Ticket → Call → Result Answer Refused → Type 0
IsTold h ticket call (Ok a) = IsEntry h ticket call a
IsTold h ticket call (Err refused.Memory) = IsLeft h ticket
IsTold h ticket call (Err refused.Closed) = IsLeft h ticket
IsTold h ticket call (Err _) = ⊥

-- the same of one that waits for so long: where its time is up its task was given up
abbrev pub IsToldWithin : History → Ticket → Call → Result Answer Refused → Type 0
IsToldWithin h ticket call (Err refused.TimedOut) = IsLeft h ticket
IsToldWithin h ticket call r = IsTold h ticket call r

-- the entry of the call, behind all that its caller had seen before
pub record IsEnteredBehind (before : History) (call : Call) (a : Answer) (now : History) : Type 0 where
  pub entry : IsEntry now a.ticket call a
  pub behind : length before ≤ a.place

-- the task of the call was given up, behind all that its caller had seen before
pub record WasLeftBehind (before now : History) : Type 0 where
  pub ticket : Ticket
  pub left : IsLeft now ticket
  pub behind : length before ≤ left.place

-- why a call has no entry: where a try retries, it does so on the values to which what its caller has seen then leads
abbrev pub HasNoEntry : Listing → State → History → Call → Way → Refused → History → Type 0
HasNoEntry l first before call way refused.Unknown now = IsCallable l call.tx call.arguments → ⊥
HasNoEntry l first before call way refused.Closed now = Unit {0}
HasNoEntry l first before call way refused.NoRoom now = Unit {0}
HasNoEntry l first before call way refused.Memory now = WasLeftBehind before now
HasNoEntry l first before call way refused.Retries now =
    (way ≡ ways.Tries) × (outcome (call_program l call.tx call.arguments) (led l first now) ≡ Retries)
HasNoEntry l first before call way _ now = ⊥

-- what a call is answered
abbrev pub IsAnswered : Listing → State → History → Call → Way → Result Answer Refused → History → Type 0
IsAnswered l first before call way (Ok a) now = IsEnteredBehind before call a now
IsAnswered l first before call way (Err why) now = HasNoEntry l first before call way why now

-- what a call is answered that waits for so long: where its time is up its task was given up
abbrev pub IsAnsweredWithin : Listing → State → History → Call → Result Answer Refused → History → Type 0
IsAnsweredWithin l first before call (Err refused.TimedOut) now = WasLeftBehind before now
IsAnsweredWithin l first before call r now = IsAnswered l first before call ways.Waits r now
