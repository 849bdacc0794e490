-- Calls on one task, by its ticket.
use Rattle.std.specs.Prelude.{◌≡◌, ◌<ℤ◌, ℤ, pos, Option, Some, None, Result}
use Rattle.txn_programs.specs.declared.ast.Outcome.{Outcome}
use Rattle.book.specs.declared.standing.Standing.{Standing}
use Rattle.stm_store.specs.declared.job.Job.{Job}
use Rattle.stm_store.specs.declared.job.Ticket.{Ticket}
use Rattle.stm_store.specs.declared.answers.Refused.{Refused}
use Rattle.stm_store.specs.declared.store.Store.{Store}
use Rattle.stm_store.specs.Asking.{Claims, GivesUp, TellsOutcome, TellsStanding}
use Rattle.stm_store.specs.Keeping.{KeepsTasks}
use Rattle.stm_c.specs.declared.jobs.Taken.{Taken}
use Rattle.stm_c.specs.declared.answers.Answer.{Answer}
use Rattle.stm_c.specs.Answers.{answer_outcome, answer_standing}
use Rattle.stm_c.specs.Jobs.{taken_as}
use Rattle.stm_c.specs.Numbers.{number_of_done, number_of_ticket}

-- the ticket of this number; a negative one is that of no task
abbrev pub IsTicket : ℤ → Option Ticket → Type 0
IsTicket n None = n <ℤ pos 0
IsTicket n (Some ticket) = n ≡ number_of_ticket ticket

-- a call on the ticket of this number: where it is negative the answer says that no task has it, and nothing changed
pub record OnTicket {X A : Type 0} (n : ℤ) (gone answer : A) (old new : X) (Call : Ticket → Type 0) : Type 0 where
  pub negative : n <ℤ pos 0 → (answer ≡ gone) × (new ≡ old)
  pub some : (ticket : Ticket) → n ≡ number_of_ticket ticket → Call ticket

-- `stm_claim`: the answer is the job, where the task was ready
pub record ClaimsTicket (old : Store) (answer : Taken) (new : Store) (ticket : Ticket) : Type 0 where
  pub job : Result Job Refused
  pub claimed : Claims old ticket job new
  pub answered : answer ≡ taken_as job
  pub kept : KeepsTasks old new

-- `stm_give_up`: 0 where the task was ready, parked or running, and is given up
pub record GivesUpTicket (old : Store) (answer : ℤ) (new : Store) (ticket : Ticket) : Type 0 where
  pub how : Result (Unit {0}) Refused
  pub given_up : GivesUp old ticket how new
  pub answered : answer ≡ number_of_done how
  pub kept : KeepsTasks old new

-- `stm_standing`: how the task stands
pub record TellsHow (s : Store) (answer : Answer) (ticket : Ticket) : Type 0 where
  pub how : Option Standing
  pub stands : TellsStanding s ticket how
  pub answered : answer ≡ answer_standing (number_of_ticket ticket) s.chapter how

-- `stm_outcome`: what the entry of the task records, with its number
pub record TellsEntry (s : Store) (answer : Answer) (ticket : Ticket) : Type 0 where
  pub how : Option Standing
  pub stands : TellsStanding s ticket how
  pub outcome : Option Outcome
  pub records : TellsOutcome s ticket outcome
  pub answered : answer ≡ answer_outcome (number_of_ticket ticket) s.chapter how outcome
