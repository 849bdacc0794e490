-- What becomes of a brought attempt.
use Rattle.std.specs.Prelude.{◌≡◌, ℕ, length, Some, None, Result, Ok, Err}
use Rattle.txn_programs.specs.declared.ast.TaskId.{TaskId}
use Rattle.txn_programs.specs.declared.ast.TxId.{TxId}
use Rattle.txn_programs.specs.Listing.{Listing, transaction_at}
use Rattle.attempt.specs.Frame.{Agrees}
use Rattle.attempt.specs.View.{AttemptView}
use Rattle.book.specs.View.{BookView}
use Rattle.book.specs.Turns.{Finished}
use Rattle.book.specs.declared.task.Finish.TheVariants as finish
use Rattle.stm_store.specs.declared.job.Job.{Job}
use Rattle.stm_store.specs.declared.answers.End.{End}
use Rattle.stm_store.specs.declared.answers.End.TheVariants as end
use Rattle.stm_store.specs.declared.answers.Refused.{Refused}
use Rattle.stm_store.specs.declared.answers.Refused.TheVariants as refused
use Rattle.stm_store.specs.declared.store.Store.{Store}
use Rattle.stm_store.specs.declared.worker.Worker.{Worker}
use Rattle.stm_store.specs.Entering.{Enters}
use Rattle.stm_store.specs.Asking.{IsPresentJob}

-- the two programs say the same of the transaction: what it does, under which standing conditions, over how many
-- variables
pub record AgreeOn (l m : Listing) (tx : TxId) : Type 0 where
  pub wide : length l.initial ≡ length m.initial
  pub transaction : transaction_at l tx ≡ transaction_at m tx
  pub always : l.always ≡ m.always

-- the store has the job that the worker ended, and both mean the same by its transaction
pub record IsBroughtFor (old : Store) (w : Worker) (job : Job) : Type 0 where
  pub ended : w.ended ≡ Some job
  pub present : IsPresentJob old job
  pub same : AgreeOn w.catalogue.now old.catalogue.now job.tx

-- an ended attempt of the task is compared with the present values: where all that it read is still so the task is
-- entered or parked; else nothing changed
abbrev pub Judged : ℕ → BookView → TaskId → AttemptView → Result End Refused → BookView → Type 0
Judged every old task a (Ok (end.Entered e)) new = Agrees a.log old.present.state × Enters every old task e new
Judged every old task a (Ok end.Parked) new = Finished old task a finish.Parked new
Judged every old task a (Ok end.Abandoned) new = ⊥
Judged every old task a (Err refused.Stale) new = Finished old task a finish.Stale new
Judged every old task a (Err refused.NotRunning) new = Finished old task a finish.NotRunning new
Judged every old task a (Err _) new = ⊥

-- what becomes of an attempt that is brought for a job
abbrev pub JudgedFor : Store → Worker → Result End Refused → Store → Type 0
JudgedFor old w how new =
    (job : Job) × IsBroughtFor old w job × Judged old.every old.book job.task w.attempt how new.book

-- `bring`: what is not an attempt of the store changes nothing, and each other one is judged
abbrev pub Brings : Store → Worker → Result End Refused → Store → Type 0
Brings old w (Err refused.NotEnded) new = (w.ended ≡ None) × (new.book ≡ old.book)
Brings old w (Err refused.Gone) new =
    (job : Job) × (w.ended ≡ Some job) × (IsPresentJob old job → ⊥) × (new.book ≡ old.book)
Brings old w (Err refused.OtherProgram) new =
    (job : Job)
    × (w.ended ≡ Some job)
    × IsPresentJob old job
    × (AgreeOn w.catalogue.now old.catalogue.now job.tx → ⊥)
    × (new.book ≡ old.book)
Brings old w (Err why) new = JudgedFor old w (Err why) new
Brings old w (Ok how) new = JudgedFor old w (Ok how) new
