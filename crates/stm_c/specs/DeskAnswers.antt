-- What the calls on a desk answer.
use Rattle.std.specs.Prelude.{ℕ, ℤ, pos, ◌<◌, ◌^◌, IfOk, Option, Some, None, Result, Ok, Err}
use Rattle.stm_store.specs.declared.answers.Refused.{Refused}
use Rattle.stm_store.specs.declared.job.Ticket.{Ticket}
use Rattle.stm_desk.specs.declared.answers.Answer as desk
use Rattle.stm_desk.specs.declared.answers.Asked.{Asked}
use Rattle.stm_desk.specs.declared.answers.Asked.TheVariants as asked
use Rattle.stm_desk.specs.declared.answers.Due.{Due}
use Rattle.stm_desk.specs.declared.answers.Told.{Told}
use Rattle.stm_c.specs.declared.answers.Answer.{Answer}
use Rattle.stm_c.specs.declared.desk_answers.AnswerTo.{AnswerTo}
use Rattle.stm_c.specs.declared.desk_answers.JobFor.{JobFor}
use Rattle.stm_c.specs.declared.jobs.Taken.{Taken}
use Rattle.stm_c.specs.Answers.{about, bare, refusal}
use Rattle.stm_c.specs.Jobs.{no_task_of, taken_as}
use Rattle.stm_c.specs.Numbers.{code_of_outcome, empty_handle, not_ready, number_of_refused, number_of_ticket, value_of_outcome}

-- the entry of a call, at its place in the history of all
abbrev pub by_place : desk.Answer → Answer
by_place a = record {
  ticket = number_of_ticket a.ticket;
  code = code_of_outcome a.outcome;
  value = value_of_outcome a.outcome;
  chapter = a.chapter;
  entry = a.entry;
  place = a.place;
}

-- what came of a call at once, in this chapter: its entry; that it waits (1), or runs (14); that the chapter is full (17);
-- else why there is no task
abbrev pub answer_asked : ℕ → Result Asked Refused → Answer
answer_asked chapter (Ok (asked.Ended a)) = by_place a
answer_asked chapter (Ok (asked.Waits ticket)) = about (number_of_ticket ticket) chapter (pos 1)
answer_asked chapter (Ok (asked.Runs job)) = about (number_of_ticket job.ticket) chapter (pos 14)
answer_asked chapter (Ok asked.ChapterFull) = bare (pos 17)
answer_asked chapter (Err why) = refusal why

-- the job of a call whose task runs; else what was there stays
abbrev pub job_asked : Taken → Result Asked Refused → Taken
job_asked old (Ok (asked.Ended a)) = old
job_asked old (Ok (asked.Waits ticket)) = old
job_asked old (Ok (asked.Runs job)) = taken_as (Ok job)
job_asked old (Ok asked.ChapterFull) = old
job_asked old (Err why) = old

-- its tickets are numbers of C: that of a task that a call made
abbrev pub IsTicketed : Asked → Type 0
IsTicketed (asked.Ended a) = a.ticket.0 < 2 ^ 63
IsTicketed (asked.Waits ticket) = ticket.0 < 2 ^ 63
IsTicketed (asked.Runs job) = job.ticket.0 < 2 ^ 63
IsTicketed asked.ChapterFull = Unit {0}

-- that of a call that waited, and of the entry that it is told of
abbrev pub IsToldWith : Told → Type 0
IsToldWith t = (t.ticket.0 < 2 ^ 63) × IfOk t.answer (λ a. a.ticket.0 < 2 ^ 63)

-- what became of the task with the ticket: its entry; else why there is none
abbrev pub answer_told : Ticket → Result desk.Answer Refused → Answer
answer_told ticket (Ok a) = by_place a
answer_told ticket (Err why) = about (number_of_ticket ticket) 0 (number_of_refused why)

-- nobody is told, and why
abbrev pub nobody_told : ℤ → AnswerTo
nobody_told why = record { whose = 0; answer = bare why }

abbrev pub nothing_told : AnswerTo
nothing_told = nobody_told empty_handle

-- what became of a call that waited, if anything is to be told
abbrev pub told_as : Option Told → AnswerTo
told_as (Some t) = record { whose = t.whose; answer = answer_told t.ticket t.answer }
told_as None = nobody_told not_ready

-- nobody evaluates anything, and why
abbrev pub nobody_due : ℤ → JobFor
nobody_due why = record { whose = 0; job = no_task_of why }

abbrev pub nothing_due : JobFor
nothing_due = nobody_due empty_handle

-- the job of a long call that waits, if one is to be evaluated
abbrev pub due_as : Option Due → JobFor
due_as (Some d) = record { whose = d.whose; job = taken_as (Ok d.job) }
due_as None = nobody_due not_ready
