-- What is claimed, withdrawn, and told of a task.
use Rattle.std.specs.Prelude.{◌≡◌, ◌≢◌, ℕ, Option, Some, None, slice_get}
use Rattle.txn_programs.specs.declared.ast.TaskId.{TaskId}
use Rattle.txn_programs.specs.declared.ast.Outcome.{Outcome}
use Rattle.txn_programs.specs.declared.report.Entry.{Entry}
use Rattle.book.specs.Tasks.{Task, Ready, Running, Parked, Done, GivenUp}
use Rattle.book.specs.declared.standing.Standing.{Standing}
use Rattle.book.specs.declared.standing.Standing.TheVariants as told
use Rattle.book.specs.View.{BookView}

-- `standing`: what is told of a task that stands so
abbrev pub told_as : Task → Standing
told_as Ready = told.Ready
told_as Running = told.Running
told_as (Parked log) = told.Parked
told_as (Done n) = told.Done n
told_as GivenUp = told.GivenUp

abbrev pub IsReady : BookView → TaskId → Type 0
IsReady b task = slice_get b.tasks task.0 ≡ Some Ready

-- the journal has an entry of the task, with this outcome
pub record HasEntry (b : BookView) (task : TaskId) (o : Outcome) : Type 0 where
  pub place : ℕ
  pub entry : Entry
  pub stands : slice_get b.journal place ≡ Some entry
  pub of : entry.task.0 ≡ task.0
  pub outcome_is : entry.outcome ≡ o

-- `outcome`: what the task's entry records, where the journal has one
abbrev pub IsRecorded : BookView → TaskId → Option Outcome → Type 0
IsRecorded b task None = (place : ℕ) (e : Entry) → slice_get b.journal place ≡ Some e → e.task.0 ≢ task.0
IsRecorded b task (Some o) = HasEntry b task o
