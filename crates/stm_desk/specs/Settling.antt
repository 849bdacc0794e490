-- What is noted and told of a task that had its turn.
use Rattle.std.specs.Prelude.{◌≡◌, ℕ, ◌+◌, None, ◌∷◌, [], ◌++◌, Result, Ok, Err}
use Rattle.stm_store.specs.declared.answers.End.{End}
use Rattle.stm_store.specs.declared.answers.End.TheVariants as end
use Rattle.stm_store.specs.declared.answers.Refused.{Refused}
use Rattle.stm_store.specs.declared.answers.Refused.TheVariants as refused
use Rattle.stm_store.specs.declared.job.Job.{Job}
use Rattle.stm_store.specs.declared.job.Ticket.{Ticket}
use Rattle.stm_desk.specs.declared.answers.Answer.{Answer}
use Rattle.stm_desk.specs.declared.answers.Became.{Became}
use Rattle.stm_desk.specs.declared.answers.Became.TheVariants as became
use Rattle.stm_desk.specs.declared.waiters.Waiters.{Waiters}
use Rattle.stm_desk.specs.Asking.{answer_of, call_of}
use Rattle.stm_desk.specs.History.{History}
use Rattle.stm_desk.specs.Waiting.{IsToldTo, OthersStay, waiting_at}

-- a history, how long it is, and who waits
abbrev pub Noted : Type 0
Noted = History × ℕ × Waiters

-- this became of the task with the ticket, and whoever waited for it is told so
pub record IsNoted
    (old : Noted) (ticket : Ticket) (what : Became) (answer : Result Answer Refused) (new : Noted)
    : Type 0 where
  pub history : new.0 ≡ old.0 ++ (ticket, what) ∷ []
  pub places : new.1 ≡ old.1 + 1
  pub gone : waiting_at new.2 ticket.0 ≡ None
  pub others : OthersStay old.2 new.2 ticket
  pub told : IsToldTo (waiting_at old.2 ticket.0) old.2.told.items ticket answer new.2.told.items

-- what a turn made of the task of the job; nothing is noted where it is parked
abbrev pub Settles : Noted → Job → End → Noted → Type 0
Settles old job (end.Entered e) new =
    IsNoted old job.ticket (became.Entered (call_of job) e.outcome) (Ok (answer_of job e old.1)) new
Settles old job end.Abandoned new = IsNoted old job.ticket became.Left (Err refused.Memory) new
Settles old job end.Parked new = new ≡ old
