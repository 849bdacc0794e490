-- How the tasks of a run stand, and what its light tasks are tried on.
use Rattle.std.specs.Prelude.{◌≡◌, ◌≢◌, ◌<◌, ℕ, Some, length, slice_get}
use Rattle.txn_programs.specs.declared.ast.TaskId.{TaskId}
use Rattle.txn_programs.specs.Meaning.{State}
use Rattle.txn_programs.specs.Listing.{Listing, tasks}
use Rattle.book.specs.Tasks.{Ready}
use Rattle.book.specs.View.{BookView, IsRunning}
use Rattle.book.specs.LawfulBook.{LawfulBook}

-- the catalogue has a task of this number
abbrev pub HasTask : Listing → TaskId → Type 0
HasTask l task = task.0 < length (tasks l)

-- no worker has the task: it is committed, parked or given up, or can be taken once more
abbrev pub IsOver : BookView → TaskId → Type 0
IsOver b task = ¬ (IsRunning b task)

-- no task can be taken
abbrev pub NoneReady : BookView → Type 0
NoneReady b = (k : ℕ) → slice_get b.tasks k ≢ Some Ready

-- the present values of a lawful book of the catalogue
pub record ArePresent (l : Listing) (values : State) : Type 0 where
  pub book : BookView
  pub own : book.catalogue ≡ l
  pub lawful : LawfulBook book
  pub present : values ≡ book.present.state
