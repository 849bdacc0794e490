-- What the calls on a desk leave, and what they answer.
use Rattle.std.specs.Prelude.{◌≡◌, ℕ, ℤ, List, ◌++◌, true, None, IfSome, Option, Result, option_to_list}
use Rattle.txn_programs.specs.declared.arguments.Call.{Call}
use Rattle.txn_programs.specs.Listing.{IsCallable}
use Rattle.txn_programs.specs.declared.ast.Outcome.{Outcome}
use Rattle.book.specs.Turns.{IsIdle}
use Rattle.stm_store.specs.Keeping.{HasBrought, KeepsTasks}
use Rattle.stm_store.specs.declared.answers.Refused.{Refused}
use Rattle.stm_store.specs.declared.job.Job.{Job}
use Rattle.stm_store.specs.declared.job.Ticket.{Ticket}
use Rattle.stm_store.specs.declared.worker.Worker.{Worker}
use Rattle.stm_desk.specs.declared.answers.Asked.{Asked}
use Rattle.stm_desk.specs.declared.answers.Due.{Due}
use Rattle.stm_desk.specs.declared.answers.Told.{Told}
use Rattle.stm_desk.specs.declared.desk.Desk.{Desk}
use Rattle.stm_desk.specs.Answering.{HasBroughtIn, HasRun, IsAsked}
use Rattle.stm_desk.specs.Ending.{Settled}
use Rattle.stm_desk.specs.History.{Begins}
use Rattle.stm_desk.specs.Keeping.{IsToldOf}
use Rattle.stm_desk.specs.Observing.{IsAsBefore, TellsEnd}
use Rattle.stm_desk.specs.Running.{HandsOut, IsHanded}
use Rattle.stm_desk.specs.Serving.{HasLeft, OnlyLeft}
use Rattle.stm_desk.specs.Waiting.{AreShutOut, HandsOn, waiting_at}
use Rattle.stm_c.specs.declared.answers.Answer.{Answer}
use Rattle.stm_c.specs.declared.desk_answers.AnswerTo.{AnswerTo}
use Rattle.stm_c.specs.declared.desk_answers.JobFor.{JobFor}
use Rattle.stm_c.specs.declared.jobs.Taken.{Taken}
use Rattle.stm_c.specs.Answers.{answer_observed}
use Rattle.stm_c.specs.DeskAnswers.{answer_asked, due_as, job_asked, told_as}
use Rattle.stm_c.specs.Numbers.{not_there, number_of_done, way_told}

abbrev pub call_with : ℕ → List ℤ → Call
call_with tx arguments = record { tx = record { 0 = tx }; arguments = arguments }

-- what calls leave of a desk: how it was at first, whether it is closed, and what became of the chapter that ended last
pub record KeepsDesk (old new : Desk) : Type 0 where
  pub first : new.work.first.value ≡ old.work.first.value
  pub closed : new.work.closed ≡ old.work.closed
  pub last : new.work.last ≡ old.work.last

-- `stm_desk_ask`: the call's own entry is the next one of the history, and what it woke is behind it; or it waits, or runs;
-- or there is none, and why. The history only grows
pub record AsksFor (old : Desk) (call : Call) (way whose : ℕ) (before : Taken) (answer : Answer) (job : Taken) (new : Desk)
    : Type 0 where
  pub how : Result Asked Refused
  pub asked : IsAsked old call (way_told way) whose how new
  pub answered : answer ≡ answer_asked old.work.store.chapter how
  pub lent : job ≡ job_asked before how
  pub history : Begins old.work.history.items new.work.history.items
  pub kept : KeepsDesk old new

-- `stm_desk_outcome_now`: how a call would end on the present values, or why that is not told; nothing changed
pub record TellsEndOf (old : Desk) (tx : ℕ) (arguments : List ℤ) (answer : Answer) (new : Desk) : Type 0 where
  pub how : Result Outcome Refused
  pub tells : TellsEnd old (record { 0 = tx }) arguments how
  pub answered : answer ≡ answer_observed how
  pub stays : IsAsBefore old.work new.work

-- `stm_desk_next_told`: what became of a call that waited is told once, as the history has it
pub record TellsNext (old : Desk) (answer : AnswerTo) (new : Desk) : Type 0 where
  pub told : Option Told
  pub next : old.work.waiters.told.items ≡ option_to_list told ++ new.work.waiters.told.items
  pub is : IfSome told (λ t.
      ∥ IsToldOf old.work.first.value.catalogue.now old.work.closed old.work.history.items t.ticket t.call.value t.answer ∥₁)
  pub answered : answer ≡ told_as told
  pub waits : new.work.waiters.calls ≡ old.work.waiters.calls
  pub history : new.work.history.items ≡ old.work.history.items
  pub store : new.work.store ≡ old.work.store
  pub kept : KeepsDesk old new

-- `stm_desk_next_due`: what is to be evaluated is handed out once
pub record HandsNext (old : Desk) (answer : JobFor) (new : Desk) : Type 0 where
  pub due : Option Due
  pub handed : IsHanded old.work due new.work
  pub answered : answer ≡ due_as due
  pub waiters : new.work.waiters ≡ old.work.waiters
  pub history : new.work.history.items ≡ old.work.history.items
  pub store : new.work.store ≡ old.work.store
  pub kept : KeepsDesk old new

-- what turns leave of a desk: who waited waits on or is told, what runs is handed out, and the history only grows
pub record ServesDesk (old new : Desk) : Type 0 where
  pub hands_on : HandsOn old.work.waiters new.work.waiters
  pub hands_out : HandsOut old.work new.work
  pub tasks : KeepsTasks old.work.store new.work.store
  pub history : Begins old.work.history.items new.work.history.items
  pub kept : KeepsDesk old new

-- `stm_desk_bring`: a worker's attempt is brought, and it has none any more
pub record BringsIn (old : Desk) (before : Worker) (answer : ℤ) (new : Desk) (after : Worker) : Type 0 where
  pub how : Result (Unit {0}) Refused
  pub brought : HasBroughtIn old before how new
  pub answered : answer ≡ number_of_done how
  pub worker : HasBrought before after
  pub turns : ServesDesk old new

-- a job of a transaction that can be called has its turn
pub record RunsNow (old : Desk) (answer : ℤ) (new : Desk) (job : Job) : Type 0 where
  pub how : Result (Unit {0}) Refused
  pub ran : HasRun old job how new
  pub answered : answer ≡ number_of_done how
  pub turns : ServesDesk old new

-- `stm_desk_run_now`: -9 and no change where the transaction cannot be called with the job's arguments
pub record RunsAny (old : Desk) (answer : ℤ) (new : Desk) (job : Job) : Type 0 where
  pub unknown : (IsCallable old.work.store.catalogue.now job.tx job.arguments → ⊥) → (answer ≡ not_there) × (new ≡ old)
  pub ran : IsCallable old.work.store.catalogue.now job.tx job.arguments → RunsNow old answer new job

-- `stm_desk_leave`: 0 where somebody waited with the ticket; its task is given up
pub record LeavesTicket (old : Desk) (answer : ℤ) (new : Desk) (ticket : Ticket) : Type 0 where
  pub how : Result (Unit {0}) Refused
  pub left : HasLeft old.work ticket how new.work
  pub answered : answer ≡ number_of_done how
  pub kept : KeepsDesk old new

-- before report and file: what ran has had its turn, and nothing is left to be evaluated
pub record SettlesDesk (old new : Desk) : Type 0 where
  pub settled : Settled old.work new.work
  pub idle : IsIdle new.work.store.book
  pub tasks : KeepsTasks old.work.store new.work.store

-- `stm_desk_close`: nobody waits any more, and each who did is told that it is closed
pub record Closes (old new : Desk) : Type 0 where
  pub closed : new.work.closed ≡ true
  pub told : AreShutOut old.work.waiters new.work.waiters
  pub nobody : (ticket : ℕ) → waiting_at new.work.waiters ticket ≡ None
  pub history : OnlyLeft old.work new.work
  pub first : new.work.first.value ≡ old.work.first.value
  pub last : new.work.last ≡ old.work.last
