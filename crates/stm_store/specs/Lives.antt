-- The tickets of a store through the chapters of its life.
use Rattle.std.specs.Prelude.{◌≡◌, false, map, Some, slice_get}
use Rattle.txn_programs.specs.declared.ast.TaskId.{TaskId}
use Rattle.book.specs.View.{BookView}
use Rattle.book.specs.Carrying.{stays}
use Rattle.stm_store.specs.Tickets.{TicketsView, with_next, kept_tickets}

-- the task is done or given up: it does not come over to the next chapter
abbrev pub HasEnded : BookView → TaskId → Type 0
HasEnded b task = slice_get (map stays b.tasks) task.0 ≡ Some false

-- the tickets at a later time: tasks were submitted since, and chapters begun
pub data Later (first : TicketsView) : TicketsView → Type 0 where
  Still : Later first first
  Submitted : {t : TicketsView} → Later first t → Later first (with_next t)
  NextChapter : {t : TicketsView} (b : BookView) → Later first t → Later first (kept_tickets t b)
