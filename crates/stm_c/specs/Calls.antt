-- What the calls on stores and workers leave, and what they answer.
use Rattle.std.specs.Prelude.{◌≡◌, ℕ, ℤ, pos, List, None, Result}
use Rattle.txn_programs.specs.Listing.{IsCallable}
use Rattle.txn_programs.specs.declared.ast.Outcome.{Outcome}
use Rattle.run_observer.specs.Observing.{ObservesBy}
use Rattle.book.specs.View.{checkpointed}
use Rattle.book.specs.Turns.{Drains, readied, IsIdle}
use Rattle.book.specs.Chapters.{chapter_of}
use Rattle.stm_store.specs.declared.job.Job.{Job}
use Rattle.stm_store.specs.declared.answers.End.{End}
use Rattle.stm_store.specs.declared.answers.Refused.{Refused}
use Rattle.stm_store.specs.declared.answers.Refused.TheVariants as refused
use Rattle.stm_store.specs.declared.store.Store.{Store}
use Rattle.stm_store.specs.declared.worker.Worker.{Worker}
use Rattle.stm_store.specs.Asking.{TakesJob}
use Rattle.stm_store.specs.Bringing.{Brings}
use Rattle.stm_store.specs.Keeping.{KeepsStore, KeepsTasks, HasBrought}
use Rattle.stm_store.specs.Tickets.{kept_tickets}
use Rattle.stm_store.specs.Turning.{Calls, GivesTurns, HasTurn}
use Rattle.stm_store.specs.Working.{IsObserved, TriedBy, next_number}
use Rattle.stm_c.specs.declared.answers.Answer.{Answer}
use Rattle.stm_c.specs.declared.jobs.Taken.{Taken}
use Rattle.stm_c.specs.Answers.{answer_brought, answer_called, answer_for, answer_observed, refusal}
use Rattle.stm_c.specs.Jobs.{taken_as}
use Rattle.stm_c.specs.Numbers.{not_there, number_of_done, way_told}

-- what no call changes of a worker: its program, and its cells
abbrev pub StaysWith : Worker → Worker → Type 0
StaysWith old new = (new.catalogue.now ≡ old.catalogue.now) × (new.cells ≡ old.cells)

-- `stm_take`: the answer is the job that was taken
pub record Takes (old : Store) (answer : Taken) (new : Store) : Type 0 where
  pub job : Result Job Refused
  pub taken : TakesJob old job new
  pub answered : answer ≡ taken_as job
  pub kept : KeepsTasks old new

-- `stm_bring`: a worker's attempt is brought, and it has none any more
pub record BringsAttempt (old : Store) (before : Worker) (answer : Answer) (new : Store) (after : Worker)
    : Type 0 where
  pub how : Result End Refused
  pub brought : Brings old before how new
  pub answered : answer ≡ answer_brought before.ended how
  pub kept : KeepsTasks old new
  pub worker : HasBrought before after

-- `stm_turn`: the answer is what came of the turn of the job's task
pub record TurnsJob (old : Store) (answer : Answer) (new : Store) (job : Job) : Type 0 where
  pub how : Result End Refused
  pub turn : HasTurn old job how new
  pub answered : answer ≡ answer_for job how
  pub kept : KeepsTasks old new

-- `stm_turns`: the answer is how many turns were given
pub record GivesMost (old : Store) (most : ℕ) (answer : ℤ) (new : Store) : Type 0 where
  pub given : ℕ
  pub turns : GivesTurns old.every most old.book given new.book
  pub answered : answer ≡ pos given
  pub kept : KeepsTasks old new

-- a call of a transaction that can be called
pub record CallsKnown (old : Store) (tx : ℕ) (arguments : List ℤ) (way : ℕ) (answer : Answer) (new : Store)
    : Type 0 where
  pub how : Result (Job × End) Refused
  pub called : Calls (way_told way) old (record { 0 = tx }) arguments how new
  pub answered : answer ≡ answer_called how

-- `stm_call`: -9 and no change where the transaction cannot be called with these arguments
pub record CallsAny (old : Store) (tx : ℕ) (arguments : List ℤ) (way : ℕ) (answer : Answer) (new : Store)
    : Type 0 where
  pub unknown : (IsCallable old.catalogue.now (record { 0 = tx }) arguments → ⊥)
      → (answer ≡ refusal refused.Unknown) × (new ≡ old)
  pub called : IsCallable old.catalogue.now (record { 0 = tx }) arguments
      → CallsKnown old tx arguments way answer new
  pub kept : KeepsStore old new

-- `stm_checkpoint`
pub record LeavesChecked (old new : Store) : Type 0 where
  pub book : new.book ≡ checkpointed old.book
  pub kept : KeepsTasks old new

-- `stm_begin_chapter`
pub record BeginsChapter (old new : Store) : Type 0 where
  pub book : new.book ≡ chapter_of old.book
  pub tickets : new.tickets ≡ kept_tickets old.tickets old.book
  pub chapter : new.chapter ≡ next_number old.chapter
  pub catalogue : new.catalogue.now ≡ old.catalogue.now
  pub cells : new.cells ≡ old.cells
  pub workers : new.passes.items ≡ old.passes.items
  pub every : new.every ≡ old.every

-- `stm_report`: what is left has its turns, and no task is ready or running
pub record Reports (old new : Store) : Type 0 where
  pub turns : Drains old.every (readied old.book) new.book
  pub idle : IsIdle new.book
  pub kept : KeepsTasks old new

-- a try of a transaction that can be called
pub record Tries (old : Worker) (answer : ℤ) (new : Worker) (job : Job) : Type 0 where
  pub how : Result (Unit {0}) Refused
  pub tried : TriedBy old.catalogue.now job old.pass how new.pass new.attempt new.ended
  pub answered : answer ≡ number_of_done how

-- `stm_try_job`: -9 and no change where the transaction cannot be called with the job's arguments
pub record TriesAny (old : Worker) (answer : ℤ) (new : Worker) (job : Job) : Type 0 where
  pub unknown : (IsCallable old.catalogue.now job.tx job.arguments → ⊥) → (answer ≡ not_there) × (new ≡ old)
  pub tried : IsCallable old.catalogue.now job.tx job.arguments → Tries old answer new job
  pub stays : StaysWith old new

-- how a call would end
pub record Observes (old : Worker) (tx : ℕ) (arguments : List ℤ) (answer : Answer) (new : Worker) : Type 0 where
  pub how : Result Outcome Refused
  pub observes : ObservesBy old.pass new.pass
  pub observed : IsObserved old.catalogue.now (record { 0 = tx }) arguments old.pass new.pass how
  pub answered : answer ≡ answer_observed how
  pub ended : new.ended ≡ None

-- `stm_observe`: -9 and no change where the transaction cannot be called with these arguments
pub record ObservesAny (old : Worker) (tx : ℕ) (arguments : List ℤ) (answer : Answer) (new : Worker) : Type 0 where
  pub unknown : (IsCallable old.catalogue.now (record { 0 = tx }) arguments → ⊥)
      → (answer ≡ refusal refused.Unknown) × (new ≡ old)
  pub observed : IsCallable old.catalogue.now (record { 0 = tx }) arguments → Observes old tx arguments answer new
  pub stays : StaysWith old new
