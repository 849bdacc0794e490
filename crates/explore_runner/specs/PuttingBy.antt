-- The tasks that are left are put by: parked or given up.
use Rattle.std.specs.Prelude.{◌≡◌, ◌≢◌, ◌⊎◌, ℕ, ◌<◌, length, Some, slice_get}
use Rattle.txn_programs.specs.declared.ast.TaskId.{TaskId}
use Rattle.txn_programs.specs.declared.ast.Outcome.TheVariants.{Retries}
use Rattle.txn_programs.specs.Listing.{task_program}
use Rattle.txn_programs.specs.Meaning.{outcome}
use Rattle.book.specs.Tasks.{Ready, Running, GivenUp}
use Rattle.book.specs.View.{BookView}

-- no entry came, and nothing else but the tasks changed
pub record Stays (old new : BookView) : Type 0 where
  pub catalogue : new.catalogue ≡ old.catalogue
  pub base : new.base ≡ old.base
  pub journal : new.journal ≡ old.journal
  pub present : new.present ≡ old.present
  pub count : length new.tasks ≡ length old.tasks

-- it is neither ready nor running
abbrev pub IsBy : BookView → ℕ → Type 0
IsBy b t = (slice_get b.tasks t ≢ Some Ready) × (slice_get b.tasks t ≢ Some Running)

-- it would still have a turn
abbrev pub WouldTurn : BookView → ℕ → Type 0
WouldTurn b t = outcome (task_program b.catalogue (record { 0 = t })) b.present.state ≢ Retries

-- the task is put by, and is given up only where it would still have a turn
pub record PutsBy (old : BookView) (task : TaskId) (new : BookView) : Type 0 where
  pub stays : Stays old new
  pub others : (t : ℕ) → t ≢ task.0 → slice_get new.tasks t ≡ slice_get old.tasks t
  pub by : IsBy new task.0
  pub given_up : slice_get new.tasks task.0 ≡ Some GivenUp → (slice_get old.tasks task.0 ≡ Some GivenUp) ⊎ WouldTurn old task.0

-- so are the tasks below n
pub record ArePutBy (old : BookView) (n : ℕ) (new : BookView) : Type 0 where
  pub stays : Stays old new
  pub by : (t : ℕ) → t < n → IsBy new t
  pub given_up : (t : ℕ) → slice_get new.tasks t ≡ Some GivenUp → (slice_get old.tasks t ≡ Some GivenUp) ⊎ WouldTurn old t
