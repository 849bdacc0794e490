-- What a call that is about a task answers.
use Rattle.std.specs.Prelude.{ℕ, ℤ, pos, negsuc, Option, Some, None, Result, Ok, Err}
use Rattle.txn_programs.specs.declared.ast.Outcome.{Outcome}
use Rattle.book.specs.declared.standing.Standing.{Standing}
use Rattle.book.specs.declared.standing.Standing.TheVariants as standing
use Rattle.stm_store.specs.declared.job.Job.{Job}
use Rattle.stm_store.specs.declared.answers.Entered.{Entered}
use Rattle.stm_store.specs.declared.answers.End.{End}
use Rattle.stm_store.specs.declared.answers.End.TheVariants as end
use Rattle.stm_store.specs.declared.answers.Refused.{Refused}
use Rattle.stm_store.specs.declared.answers.Refused.TheVariants as refused
use Rattle.stm_c.specs.declared.answers.Answer.{Answer}
use Rattle.stm_c.specs.Numbers.{empty_handle, number_of_refused, number_of_ticket, code_of_outcome, value_of_outcome}

-- a code, and no task
abbrev pub bare : ℤ → Answer
bare code = record { ticket = negsuc 0; code = code; value = pos 0; chapter = 0; entry = 0; place = 0 }

-- the handle is empty
abbrev pub nothing_held : Answer
nothing_held = bare empty_handle

-- why nothing was done
abbrev pub refusal : Refused → Answer
refusal why = bare (number_of_refused why)

-- the task of this ticket in this chapter, and a code
abbrev pub about : ℤ → ℕ → ℤ → Answer
about ticket chapter code = record { ticket = ticket; code = code; value = pos 0; chapter = chapter; entry = 0; place = 0 }

-- the task, and what its entry says
abbrev pub by_entry : ℤ → ℕ → Entered → Answer
by_entry ticket chapter e = record {
  ticket = ticket;
  code = code_of_outcome e.outcome;
  value = value_of_outcome e.outcome;
  chapter = chapter;
  entry = e.number;
  place = 0;
}

-- what came of a turn of the task; else why it had none
abbrev pub answer_of : ℤ → ℕ → Result End Refused → Answer
answer_of ticket chapter (Ok (end.Entered e)) = by_entry ticket chapter e
answer_of ticket chapter (Ok end.Parked) = about ticket chapter (pos 1)
answer_of ticket chapter (Ok end.Abandoned) = about ticket chapter (pos 4)
answer_of ticket chapter (Err why) = refusal why

-- of the job's task
abbrev pub answer_for : Job → Result End Refused → Answer
answer_for job how = answer_of (number_of_ticket job.ticket) job.chapter how

-- of the task that a call made
abbrev pub answer_called : Result (Job × End) Refused → Answer
answer_called (Ok t) = answer_for t.0 (Ok t.1)
answer_called (Err why) = refusal why

-- of the job that a worker had ended, if it had one
abbrev pub answer_brought : Option Job → Result End Refused → Answer
answer_brought (Some job) how = answer_for job how
answer_brought None how = refusal refused.NotEnded

-- how the task of this ticket stands; a done one with the number of its entry
abbrev pub answer_standing : ℤ → ℕ → Option Standing → Answer
answer_standing ticket chapter (Some standing.Ready) = about ticket chapter (pos 13)
answer_standing ticket chapter (Some standing.Running) = about ticket chapter (pos 14)
answer_standing ticket chapter (Some standing.Parked) = about ticket chapter (pos 1)
answer_standing ticket chapter (Some (standing.Done number)) = record (about ticket chapter (pos 0)) { entry = number }
answer_standing ticket chapter (Some standing.GivenUp) = about ticket chapter (pos 4)
answer_standing ticket chapter None = refusal refused.Gone

-- what the entry of a task that stands so records; or that the journal has none (12)
abbrev pub answer_outcome : ℤ → ℕ → Option Standing → Option Outcome → Answer
answer_outcome ticket chapter (Some (standing.Done number)) (Some o) =
    by_entry ticket chapter (record { number = number; outcome = o })
answer_outcome ticket chapter (Some (standing.Done number)) None = about ticket chapter (pos 12)
answer_outcome ticket chapter (Some standing.Ready) o = about ticket chapter (pos 12)
answer_outcome ticket chapter (Some standing.Running) o = about ticket chapter (pos 12)
answer_outcome ticket chapter (Some standing.Parked) o = about ticket chapter (pos 12)
answer_outcome ticket chapter (Some standing.GivenUp) o = about ticket chapter (pos 12)
answer_outcome ticket chapter None o = refusal refused.Gone

-- how a call would end, of which there is no task; else why that is not known
abbrev pub answer_observed : Result Outcome Refused → Answer
answer_observed (Ok o) = record (bare (code_of_outcome o)) { value = value_of_outcome o }
answer_observed (Err why) = refusal why
