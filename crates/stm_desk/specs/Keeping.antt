-- What a desk keeps of its history, and what those are told who waited.
use Rattle.std.specs.Prelude.{◌≡◌, ◌⊎◌, ℕ, Bool, true, Some, Result, Ok, Err, slice_get}
use Rattle.txn_programs.specs.declared.arguments.Call.{Call}
use Rattle.txn_programs.specs.Listing.{Listing}
use Rattle.attempt.specs.Room.{TakesMemory}
use Rattle.stm_store.specs.declared.answers.Refused.{Refused}
use Rattle.stm_store.specs.declared.answers.Refused.TheVariants as refused
use Rattle.stm_store.specs.declared.job.Ticket.{Ticket}
use Rattle.stm_store.specs.declared.store.Store.{Store}
use Rattle.stm_desk.specs.declared.answers.Answer.{Answer}
use Rattle.stm_desk.specs.declared.answers.Became.{Became}
use Rattle.stm_desk.specs.declared.answers.Became.TheVariants as became
use Rattle.stm_desk.specs.History.{History, IsLegal, led}
use Rattle.stm_desk.specs.Open.{IsOver}

-- something became of the task with the ticket
pub record StandsIn (h : History) (ticket : Ticket) : Type 0 where
  pub place : ℕ
  pub what : Became
  pub at_place : slice_get h place ≡ Some (ticket, what)

-- The history accounts for the store: it is legal from the values with which the desk was opened and leads to the
-- present ones, and just the tasks in it are over, besides those that were so when the desk was opened.
pub record Accounts (first now : Store) (h : History) : Type 0 where
  pub catalogue : now.catalogue.now ≡ first.catalogue.now
  pub legal : IsLegal first.catalogue.now first.book.present.state h
  pub leads : led first.catalogue.now first.book.present.state h ≡ now.book.present.state
  pub over : (place : ℕ) (e : Ticket × Became) → slice_get h place ≡ Some e → IsOver now e.0
  pub before : (ticket : Ticket) → IsOver first ticket → IsOver now ticket
  pub all : (ticket : Ticket) → IsOver now ticket → IsOver first ticket ⊎ StandsIn h ticket

-- the answer is the entry of this call, by the task with the ticket
pub record IsEntry (h : History) (ticket : Ticket) (call : Call) (a : Answer) : Type 0 where
  pub ticket_is : a.ticket ≡ ticket
  pub at_place : slice_get h a.place ≡ Some (ticket, became.Entered call a.outcome)

-- the task with the ticket was given up
pub record IsLeft (h : History) (ticket : Ticket) : Type 0 where
  pub place : ℕ
  pub at_place : slice_get h place ≡ Some (ticket, became.Left)

-- what is told of a call that waited, by a desk of this program that is closed or not
abbrev pub IsToldOf : Listing → Bool → History → Ticket → Call → Result Answer Refused → Type 0
IsToldOf l closed h ticket call (Ok a) = IsEntry h ticket call a
IsToldOf l closed h ticket call (Err refused.Memory) = IsLeft h ticket × TakesMemory l call.tx
IsToldOf l closed h ticket call (Err refused.Closed) = IsLeft h ticket × (closed ≡ true)
IsToldOf l closed h ticket call (Err _) = ⊥
