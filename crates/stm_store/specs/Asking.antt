-- Calls on one task.
use Rattle.std.specs.Prelude.{◌≡◌, ◌⊎◌, ◌<◌, ℤ, List, map, Option, Some, None, Result, Ok, Err, slice_get}
use Rattle.txn_programs.specs.declared.ast.TaskId.{TaskId}
use Rattle.txn_programs.specs.declared.ast.TxId.{TxId}
use Rattle.txn_programs.specs.declared.ast.Outcome.{Outcome}
use Rattle.txn_programs.specs.Listing.{tasks, task_arguments}
use Rattle.book.specs.View.{BookView, IsRunning, stands}
use Rattle.book.specs.Tasks.{Running, GivenUp}
use Rattle.book.specs.Chapters.{chapter_of}
use Rattle.book.specs.Table.{IsWaiting}
use Rattle.book.specs.Turns.{Taken}
use Rattle.book.specs.Submitted.{submitted}
use Rattle.book.specs.Recorded.{IsReady, IsRecorded, told_as}
use Rattle.book.specs.declared.standing.Standing.{Standing}
use Rattle.stm_store.specs.Tickets.{HasTicket, with_next, most_tickets}
use Rattle.stm_store.specs.declared.answers.Refused.{Refused}
use Rattle.stm_store.specs.declared.answers.Refused.TheVariants as refused
use Rattle.stm_store.specs.declared.job.Ticket.{Ticket}
use Rattle.stm_store.specs.declared.job.Job.{Job}
use Rattle.stm_store.specs.declared.store.Store.{Store}

-- there is room for a task more, and a ticket for it
abbrev pub HasRoom : Store → Type 0
HasRoom s = (0 < s.book.spare) × (s.tickets.given < most_tickets)

-- there would be, if the next chapter began now
abbrev pub HasRoomNext : Store → Type 0
HasRoomNext s = (0 < (chapter_of s.book).spare) × (s.tickets.given < most_tickets)

abbrev pub IsFull : Store → Type 0
IsFull s = (s.book.spare ≡ 0) ⊎ (s.tickets.given ≡ most_tickets)

-- tasks, tickets and present values are as they were
abbrev pub IsUnchanged : Store → Store → Type 0
IsUnchanged old new = (new.book ≡ old.book) × (new.tickets ≡ old.tickets)

-- `submit`: where there is room a ready task of the call more, with the next ticket; else nothing changed
abbrev pub Submits : Store → TxId → List ℤ → Result Ticket Refused → Store → Type 0
Submits old tx arguments (Err refused.NoRoom) new = IsFull old × IsUnchanged old new
Submits old tx arguments (Err _) new = ⊥
Submits old tx arguments (Ok ticket) new =
    HasRoom old
    × (ticket.0 ≡ old.tickets.given)
    × (new.tickets ≡ with_next old.tickets)
    × (new.book ≡ submitted old.book (record { tx = tx; arguments = arguments }))

-- the job is a task of the store: of this transaction, with these arguments, and with this ticket
pub record IsJob (s : Store) (job : Job) : Type 0 where
  pub ticket : HasTicket s.tickets job.task job.ticket
  pub runs : slice_get (tasks s.book.catalogue) job.task.0 ≡ Some job.tx
  pub given : task_arguments s.book.catalogue job.task ≡ job.arguments

-- and of its present chapter
abbrev pub IsPresentJob : Store → Job → Type 0
IsPresentJob s job = IsJob s job × (job.chapter ≡ s.chapter)

-- no task has the ticket
abbrev pub HasNone : Store → Ticket → Type 0
HasNone s ticket = (task : TaskId) → HasTicket s.tickets task ticket → ⊥

-- `take`: the lowest ready task, which is then running
abbrev pub TakesJob : Store → Result Job Refused → Store → Type 0
TakesJob old (Err refused.NotReady) new = Taken old.book None new.book
TakesJob old (Err _) new = ⊥
TakesJob old (Ok job) new = Taken old.book (Some job.task) new.book × IsPresentJob old job

-- `claim`: where the task with the ticket is ready, it is then running
abbrev pub Claims : Store → Ticket → Result Job Refused → Store → Type 0
Claims old ticket (Err refused.Gone) new = HasNone old ticket × (new.book ≡ old.book)
Claims old ticket (Err refused.NotReady) new =
    (task : TaskId) × HasTicket old.tickets task ticket × (IsReady old.book task → ⊥) × (new.book ≡ old.book)
Claims old ticket (Err _) new = ⊥
Claims old ticket (Ok job) new =
    (job.ticket ≡ ticket)
    × IsPresentJob old job
    × IsReady old.book job.task
    × (new.book ≡ stands old.book job.task Running)

-- it is ready, parked or running
abbrev pub IsUnended : BookView → TaskId → Type 0
IsUnended b task = IsWaiting (slice_get b.tasks task.0) ⊎ IsRunning b task

-- `give_up`: where the task with the ticket is ready, parked or running, it is given up
abbrev pub GivesUp : Store → Ticket → Result (Unit {0}) Refused → Store → Type 0
GivesUp old ticket (Err refused.Gone) new =
    ((task : TaskId) → HasTicket old.tickets task ticket → IsUnended old.book task → ⊥) × (new.book ≡ old.book)
GivesUp old ticket (Err _) new = ⊥
GivesUp old ticket (Ok done) new =
    (task : TaskId)
    × HasTicket old.tickets task ticket
    × IsUnended old.book task
    × (new.book ≡ stands old.book task GivenUp)

-- `outcome_of`: what the journal records of the task with the ticket
abbrev pub TellsOutcome : Store → Ticket → Option Outcome → Type 0
TellsOutcome s ticket None = (task : TaskId) → HasTicket s.tickets task ticket → IsRecorded s.book task None
TellsOutcome s ticket (Some o) = (task : TaskId) × HasTicket s.tickets task ticket × IsRecorded s.book task (Some o)

-- `standing_of`: how the task with the ticket stands
abbrev pub TellsStanding : Store → Ticket → Option Standing → Type 0
TellsStanding s ticket None = (task : TaskId) → HasTicket s.tickets task ticket → ⊥
TellsStanding s ticket (Some how) =
    (task : TaskId) × HasTicket s.tickets task ticket × (slice_get (map told_as s.book.tasks) task.0 ≡ Some how)
