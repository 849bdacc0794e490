-- What a turn, a call or a withdrawal does to a store, as far as its history goes.
use Rattle.std.specs.Prelude.{◌≡◌, ◌≢◌}
use Rattle.txn_programs.specs.declared.arguments.Call.{Call}
use Rattle.stm_store.specs.declared.job.Ticket.{Ticket}
use Rattle.stm_store.specs.declared.store.Store.{Store}
use Rattle.stm_desk.specs.declared.answers.Became.{Became}
use Rattle.stm_desk.specs.History.{IsLawful, left_by}
use Rattle.stm_desk.specs.Open.{HasOpenCall, IsOver}

-- what stays so of all tasks but one
pub record StaysBut (old new : Store) (ticket : Ticket) : Type 0 where
  pub catalogue : new.catalogue.now ≡ old.catalogue.now
  pub all_open : (other : Ticket) (call : Call) → other.0 ≢ ticket.0
      → HasOpenCall old other call → HasOpenCall new other call
  pub over : (other : Ticket) → IsOver old other → IsOver new other
  pub over_before : (other : Ticket) → other.0 ≢ ticket.0 → IsOver new other → IsOver old other

-- this became of the task with the ticket, which was not over before
pub record HasBecome (old new : Store) (ticket : Ticket) (what : Became) : Type 0 where
  pub stays : StaysBut old new ticket
  pub not_before : IsOver old ticket → ⊥
  pub is_over : IsOver new ticket
  pub lawful : IsLawful old.catalogue.now old.book.present.state what
  pub present : new.book.present.state ≡ left_by old.catalogue.now old.book.present.state what

-- the task with the ticket, which makes this call, is open
pub record HasStayed (old new : Store) (ticket : Ticket) (call : Call) : Type 0 where
  pub stays : StaysBut old new ticket
  pub is_open : HasOpenCall new ticket call
  pub present : new.book.present.state ≡ old.book.present.state
