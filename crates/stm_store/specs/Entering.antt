-- What is told of an entered task.
use Rattle.std.specs.Prelude.{◌≡◌, ◌≢◌, ℕ}
use Rattle.txn_programs.specs.declared.ast.TaskId.{TaskId}
use Rattle.txn_programs.specs.declared.ast.Outcome.{Outcome}
use Rattle.txn_programs.specs.declared.ast.Outcome.TheVariants.{Retries}
use Rattle.txn_programs.specs.declared.report.Entry.{Entry}
use Rattle.txn_programs.specs.Meaning.{outcome}
use Rattle.txn_programs.specs.Listing.{task_program}
use Rattle.book.specs.View.{BookView, IsRunning, committed, entry_of}
use Rattle.book.specs.Turns.{kept_short}
use Rattle.book.specs.LawfulBook.{LawfulBook}
use Rattle.book.specs.Recorded.{HasEntry}
use Rattle.book.specs.declared.task.Serial.TheVariants as serial
use Rattle.stm_store.specs.declared.answers.Entered.{Entered}

-- the journal has an entry of the task
abbrev pub IsEntered : BookView → TaskId → Type 0
IsEntered b task = (o : Outcome) × HasEntry b task o

-- the number and the outcome are the entry's
pub record Tells (entry : Entry) (e : Entered) : Type 0 where
  pub number : e.number ≡ entry.number
  pub outcome : e.outcome ≡ entry.outcome

-- the running task was entered, and what is told of it is its entry's; then a checkpoint, where one is due
pub record Enters (every : ℕ) (old : BookView) (task : TaskId) (e : Entered) (new : BookView) : Type 0 where
  pub running : IsRunning old task
  pub ends : outcome (task_program old.catalogue task) old.present.state ≢ Retries
  pub tells : Tells (entry_of old task) e
  pub kept : new ≡ kept_short every (serial.Committed e.number) (committed old task)
  -- the book before the entry, and the one that has it
  pub lawful : LawfulBook old
  pub lawful_after : LawfulBook (committed old task)
