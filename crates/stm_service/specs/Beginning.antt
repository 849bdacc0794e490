-- What came of a call at once.
use Rattle.std.specs.Prelude.{◌≡◌, ◌≢◌, ℕ, Some, slice_get}
use Rattle.txn_programs.specs.declared.arguments.Call.{Call}
use Rattle.txn_programs.specs.Meaning.{State}
use Rattle.txn_programs.specs.Listing.{Listing}
use Rattle.stm_store.specs.declared.answers.Refused.TheVariants as refused
use Rattle.stm_store.specs.declared.answers.Way.{Way}
use Rattle.stm_store.specs.declared.answers.Way.TheVariants as ways
use Rattle.stm_store.specs.declared.job.Ticket.{Ticket}
use Rattle.stm_desk.specs.declared.answers.Became.{Became}
use Rattle.stm_desk.specs.declared.waiters.Waiters.{Waiters}
use Rattle.stm_desk.specs.declared.waiters.Waiting.{Waiting}
use Rattle.stm_desk.specs.History.{Begins, History}
use Rattle.stm_desk.specs.Waiting.{waiting_at}
use Rattle.stm_service.specs.declared.behind.Begun.{Begun}
use Rattle.stm_service.specs.declared.behind.Begun.TheVariants as begun
use Rattle.stm_service.specs.Telling.{HasNoEntry, IsEnteredBehind, WasLeftBehind}

-- no task with the ticket stands in the history
abbrev pub IsNew : History → Ticket → Type 0
IsNew h ticket = (place : ℕ) (e : Ticket × Became) → slice_get h place ≡ Some e → e.0.0 ≢ ticket.0

-- the call waits at the desk with this ticket
abbrev pub WaitsWith : Waiters → Ticket → Call → Type 0
WaitsWith w ticket call = (seat : Waiting) × (waiting_at w ticket.0 ≡ Some seat) × (seat.call.value ≡ call)

-- its caller waits, with a new ticket; or out of memory it was given up, which its caller has seen
abbrev pub IsWaiting : History → Call → Begun → History → Type 0
IsWaiting before call (begun.Waits awaited bell) now = (now ≡ before) × (awaited.call ≡ call) × IsNew before awaited.ticket
IsWaiting before call (begun.Refused refused.Memory) now = Begins before now × WasLeftBehind before now
IsWaiting before call _ now = ⊥

-- where the chapter was full the next one has begun, or is to begin later, and its caller, who is to call again, has
-- seen nothing more; or it can't begin
abbrev pub HasPassedOn : History → Begun → History → Type 0
HasPassedOn before begun.Again now = now ≡ before
HasPassedOn before (begun.Later sayings) now = now ≡ before
HasPassedOn before (begun.Refused refused.NoRoom) now = Begins before now
HasPassedOn before _ now = ⊥

-- it was answered, and its caller has seen why; or its caller waits, or is to call again, and has seen nothing more
abbrev pub IsBegun : Listing → State → History → Call → Way → Begun → History → Type 0
IsBegun l first before call way begun.Again now = now ≡ before
IsBegun l first before call way (begun.Later sayings) now = now ≡ before
IsBegun l first before call way (begun.Waits awaited bell) now =
    (way ≡ ways.Waits) × (now ≡ before) × (awaited.call ≡ call) × IsNew before awaited.ticket
IsBegun l first before call way (begun.Ended a) now = Begins before now × IsEnteredBehind before call a now
IsBegun l first before call way (begun.Refused why) now =
    Begins before now × ∥ HasNoEntry l first before call way why now ∥₁
