-- What a call is answered in the midst of a desk's, before what it woke has had its turns, and what it leaves.
use Rattle.std.specs.Prelude.{◌≡◌, ◌≢◌, ◌+◌, ℕ, List, [], ◌∷◌, ◌++◌, length, Some, Result, Ok, Err, slice_get}
use Rattle.txn_programs.specs.declared.arguments.Call.{Call}
use Rattle.txn.specs.Grown.{grown}
use Rattle.book.specs.Tasks.{Ready, Running}
use Rattle.stm_store.specs.Asking.{IsUnchanged}
use Rattle.stm_store.specs.Turning.{RefusesCall}
use Rattle.stm_store.specs.declared.answers.Refused.{Refused}
use Rattle.stm_store.specs.declared.answers.Refused.TheVariants as refused
use Rattle.stm_store.specs.declared.answers.Way.{Way}
use Rattle.stm_store.specs.declared.answers.Way.TheVariants as ways
use Rattle.stm_store.specs.declared.answers.Entered.{Entered}
use Rattle.stm_store.specs.declared.job.Job.{Job}
use Rattle.stm_store.specs.declared.job.Ticket.{Ticket}
use Rattle.stm_store.specs.declared.store.Store.{Store}
use Rattle.stm_desk.specs.declared.answers.Answer.{Answer}
use Rattle.stm_desk.specs.declared.answers.Asked.{Asked}
use Rattle.stm_desk.specs.declared.answers.Asked.TheVariants as asked
use Rattle.stm_desk.specs.declared.answers.Became.TheVariants as became
use Rattle.stm_desk.specs.declared.work.Work.{Work}
use Rattle.stm_desk.specs.History.{Begins}
use Rattle.stm_desk.specs.Open.{IsParkedCall}
use Rattle.stm_desk.specs.Waiting.{IsSeated, WaitAsBefore}

-- the call that the task of a job makes
abbrev pub call_of : Job → Call
call_of job = record { tx = job.tx; arguments = job.arguments }

-- what is told of a task that was entered at this place
abbrev pub answer_of : Job → Entered → ℕ → Answer
answer_of job e place =
    record { ticket = job.ticket; outcome = e.outcome; chapter = job.chapter; entry = e.number; place = place }

-- each task that was woken has had its turn
abbrev pub IsServed : Store → Type 0
IsServed s = (k : ℕ) → slice_get s.book.tasks k ≢ Some Ready

-- none is taken by a host
abbrev pub IsStill : Store → Type 0
IsStill s = (k : ℕ) → slice_get s.book.tasks k ≢ Some Running

-- the ticket that the next task gets
abbrev pub next_ticket : Store → Ticket
next_ticket s = record { 0 = s.tickets.given }

-- there is one task more, and no other
abbrev pub IsOneMore : Store → Store → Type 0
IsOneMore old new = new.tickets.given ≡ old.tickets.given + 1

-- it is the next entry: of this call, by a task with the next ticket
pub record IsNextEntry (old : Work) (call : Call) (a : Answer) (new : Work) : Type 0 where
  pub ticket : a.ticket ≡ next_ticket old.store
  pub chapter : a.chapter ≡ old.store.chapter
  pub entry : a.entry ≡ old.store.book.present.number + 1
  pub place : a.place ≡ length old.history.items
  pub history : new.history.items ≡ old.history.items ++ (a.ticket, became.Entered call a.outcome) ∷ []
  pub given : IsOneMore old.store new.store
  pub waiters : new.waiters ≡ old.waiters
  pub due : new.due.items ≡ old.due.items

-- the task of the call waits, and so does whoever called
pub record IsWaiting (old : Work) (call : Call) (whose : ℕ) (ticket : Ticket) (new : Work) : Type 0 where
  pub ticket_is : ticket ≡ next_ticket old.store
  pub given : IsOneMore old.store new.store
  pub history : new.history.items ≡ old.history.items
  pub parked : ∥ IsParkedCall new.store ticket call ∥₁
  pub seated : IsSeated old.waiters ticket whose call new.waiters
  pub due : new.due.items ≡ old.due.items

-- tasks, those who wait, and the history are as they were
pub record IsSame (old new : Work) : Type 0 where
  pub store : IsUnchanged old.store new.store
  pub waiters : new.waiters ≡ old.waiters
  pub history : new.history.items ≡ old.history.items
  pub due : new.due.items ≡ old.due.items

-- there was no memory for it: its task was given up, and those who wait do so as before
pub record IsGivenUp (old new : Work) : Type 0 where
  pub given : IsOneMore old.store new.store
  pub history : new.history.items ≡ old.history.items ++ (next_ticket old.store, became.Left) ∷ []
  pub waiters : WaitAsBefore old.waiters new.waiters
  pub due : new.due.items ≡ old.due.items

-- what a call is answered at once
abbrev pub IsAnswered : Work → Call → Way → ℕ → Result Asked Refused → Work → Type 0
IsAnswered old call way whose (Ok (asked.Ended a)) new = IsNextEntry old call a new
IsAnswered old call way whose (Ok (asked.Waits ticket)) new =
    (way ≡ ways.Waits) × IsWaiting old call whose ticket new
IsAnswered old call way whose (Ok (asked.Runs job)) new = ⊥
IsAnswered old call way whose (Ok asked.ChapterFull) new = ⊥
IsAnswered old call way whose (Err refused.Memory) new = IsGivenUp old new
IsAnswered old call way whose (Err why) new =
    RefusesCall way old.store call.tx call.arguments why × IsSame old new

-- the chapter goes on: it began as it did, and calls were submitted to it at most
abbrev pub StaysInChapter : Store → Store → Type 0
StaysInChapter old new = (more : List Call) × (new.book.catalogue ≡ grown old.book.catalogue more)

-- what turns leave: the program, the chapter, how the store was at first, what is long, whether it is closed, and what
-- became of the chapter that ended last; the history only grows
pub record GoesOn (old new : Work) : Type 0 where
  pub first : new.first.value ≡ old.first.value
  pub long : new.long.items ≡ old.long.items
  pub catalogue : new.store.catalogue.now ≡ old.store.catalogue.now
  pub chapter : new.store.chapter ≡ old.store.chapter
  pub closed : new.closed ≡ old.closed
  pub last : new.last ≡ old.last
  pub history : Begins old.history.items new.history.items
