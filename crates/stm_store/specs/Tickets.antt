-- The tickets of a book's tasks: numbers that stay a task's own through all chapters.
use Rattle.std.specs.Prelude.{◌≡◌, ℕ, ◌+◌, ◌<◌, ◌≤◌, ◌^◌, List, [], ◌∷◌, ◌++◌, length, Option, Some, None, slice_get, All, AllPairs}
use Rattle.txn_programs.specs.declared.ast.TaskId.{TaskId}
use Rattle.book.specs.View.{BookView}
use Rattle.book.specs.Carrying.{staying}
use Rattle.stm_store.specs.declared.job.Ticket.{Ticket}

pub record TicketsView : Type 0 where
  -- the ticket of each task, in the order of the tasks
  pub held : List ℕ
  -- the next one
  pub given : ℕ
  -- for how many there is room
  pub room : ℕ

-- how many tickets a life of a store can give
abbrev pub most_tickets : ℕ
most_tickets = 2 ^ 62

-- they rise with the tasks, so no two tasks have the same, and the next one is new
pub record AreTickets (t : TicketsView) : Type 0 where
  pub ascending : AllPairs (λ m n. m < n) t.held
  pub below : All (λ n. n < t.given) t.held
  pub few : t.given ≤ most_tickets

-- each of so many tasks has its number as its ticket
pub record AreNumbers (tickets : List ℕ) (count : ℕ) : Type 0 where
  pub each : length tickets ≡ count
  pub same : (k : ℕ) → k < count → slice_get tickets k ≡ Some k

abbrev pub HasTicket : TicketsView → TaskId → Ticket → Type 0
HasTicket t task ticket = slice_get t.held task.0 ≡ Some ticket.0

-- the one task that has the ticket; where none has it, none
abbrev pub IsTaskOf : TicketsView → Ticket → Option TaskId → Type 0
IsTaskOf t ticket None = (task : TaskId) → HasTicket t task ticket → ⊥
IsTaskOf t ticket (Some task) = HasTicket t task ticket × ((other : TaskId) → HasTicket t other ticket → other ≡ task)

-- a task more has the next ticket
abbrev pub with_next : TicketsView → TicketsView
with_next t = record t { held = t.held ++ t.given ∷ []; given = t.given + 1 }

-- of the tasks that come over to the next chapter of the book
abbrev pub kept_tickets : TicketsView → BookView → TicketsView
kept_tickets t b = record t { held = staying t.held b.tasks }
