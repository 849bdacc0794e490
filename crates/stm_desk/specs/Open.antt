-- Which tasks of a store are still to be entered or given up.
use Rattle.std.specs.Prelude.{◌≡◌, ◌<◌, Bool, true, List, map, Some, slice_get}
use Rattle.txn_programs.specs.declared.ast.TaskId.{TaskId}
use Rattle.txn_programs.specs.declared.arguments.Call.{Call}
use Rattle.txn_programs.specs.Listing.{tasks, task_arguments}
use Rattle.book.specs.Tasks.{Running}
use Rattle.book.specs.View.{BookView}
use Rattle.book.specs.Table.{IsParked}
use Rattle.book.specs.Carrying.{stays}
use Rattle.stm_store.specs.Tickets.{HasTicket}
use Rattle.stm_store.specs.declared.job.Ticket.{Ticket}
use Rattle.stm_store.specs.declared.store.Store.{Store}

-- whether each task is ready, running or parked
abbrev pub open_tasks : BookView → List Bool
open_tasks b = map stays b.tasks

-- the task with the ticket is ready, running or parked
pub record HasOpen (s : Store) (ticket : Ticket) : Type 0 where
  pub task : TaskId
  pub own : HasTicket s.tickets task ticket
  pub is_open : slice_get (open_tasks s.book) task.0 ≡ Some true

-- and makes this call
pub record HasOpenCall (s : Store) (ticket : Ticket) (call : Call) : Type 0 where
  pub has : HasOpen s ticket
  pub runs : slice_get (tasks s.book.catalogue) has.task.0 ≡ Some call.tx
  pub given : task_arguments s.book.catalogue has.task ≡ call.arguments

-- the ticket was given, and its task is done or given up
pub record IsOver (s : Store) (ticket : Ticket) : Type 0 where
  pub given : ticket.0 < s.tickets.given
  pub ended : HasOpen s ticket → ⊥

-- the task with the ticket makes this call, retries on the present values, and waits for a change of what it read
pub record IsParkedCall (s : Store) (ticket : Ticket) (call : Call) : Type 0 where
  pub task : TaskId
  pub own : HasTicket s.tickets task ticket
  pub runs : slice_get (tasks s.book.catalogue) task.0 ≡ Some call.tx
  pub given : task_arguments s.book.catalogue task ≡ call.arguments
  pub parked : IsParked (slice_get s.book.tasks task.0)

-- the task with the ticket makes this call, and is evaluated by whoever waits for it
pub record IsRunningCall (s : Store) (ticket : Ticket) (call : Call) : Type 0 where
  pub has : HasOpenCall s ticket call
  pub running : slice_get s.book.tasks has.has.task.0 ≡ Some Running
