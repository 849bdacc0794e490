-- Jobs as a host holds them.
use Rattle.std.specs.Prelude.{◌≡◌, ◌<◌, ◌≤◌, ◌<ℤ◌, ◌-◌, ◌⊎◌, ◌++◌, ℕ, ℤ, pos, List, [], length, take, replicate, Option, Some, None, Result, Ok, Err}
use Rattle.txn_programs.specs.declared.limits.TheConstants.{MAX_PARAMETERS}
use Rattle.stm_store.specs.declared.job.Job.{Job}
use Rattle.stm_store.specs.declared.answers.Refused.{Refused}
use Rattle.stm_c.specs.declared.jobs.Taken.{Taken}
use Rattle.stm_c.specs.Numbers.{empty_handle, number_of_refused, number_of_ticket}

-- arguments in the places that a host has for them: 0 behind the last
abbrev pub in_places : List ℤ → List ℤ
in_places xs = xs ++ replicate (MAX_PARAMETERS - length xs) (pos 0)

-- no job, and why
abbrev pub no_task_of : ℤ → Taken
no_task_of why = record { ticket = why; chapter = 0; task = 0; tx = 0; count = 0; arguments = in_places [] }

-- the handle is empty
abbrev pub nothing_taken : Taken
nothing_taken = no_task_of empty_handle

-- a job; or, in its ticket's place, why there is none
abbrev pub taken_as : Result Job Refused → Taken
taken_as (Ok job) = record {
  ticket = number_of_ticket job.ticket;
  chapter = job.chapter;
  task = job.task.0;
  tx = job.tx.0;
  count = length job.arguments;
  arguments = in_places job.arguments;
}
taken_as (Err why) = no_task_of (number_of_refused why)

-- what a host tells is no job: no task has such a ticket, or no call so many arguments
abbrev pub IsNoJob : Taken → Type 0
IsNoJob told = (told.ticket <ℤ pos 0) ⊎ (MAX_PARAMETERS < told.count)

-- the job that it tells, of this ticket
abbrev pub job_told : ℕ → Taken → Job
job_told ticket told = record {
  ticket = record { 0 = ticket };
  chapter = told.chapter;
  task = record { 0 = told.task };
  tx = record { 0 = told.tx };
  arguments = take told.count told.arguments;
}

-- the job that it tells, if it tells one
abbrev pub IsJobTold : Taken → Option Job → Type 0
IsJobTold told None = IsNoJob told
IsJobTold told (Some job) =
    (ticket : ℕ) × (told.ticket ≡ pos ticket) × (told.count ≤ MAX_PARAMETERS) × (job ≡ job_told ticket told)

-- a call on the job that a host tells: where it tells none the answer says it, and nothing changed
pub record OnJob {X A : Type 0} (told : Taken) (gone answer : A) (old new : X) (Call : Job → Type 0) : Type 0 where
  pub none : IsNoJob told → (answer ≡ gone) × (new ≡ old)
  pub some : (ticket : ℕ) → told.ticket ≡ pos ticket → told.count ≤ MAX_PARAMETERS → Call (job_told ticket told)
