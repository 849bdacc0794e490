-- Turns and withdrawals on a desk.
use Rattle.std.specs.Prelude.{◌≡◌, ◌≢◌, ◌<◌, [], ◌∷◌, ◌++◌, All, None, Result, Ok, Err}
use Rattle.book.proofs.Draining.{weight_of}
use Rattle.stm_store.specs.declared.answers.Refused.{Refused}
use Rattle.stm_store.specs.declared.answers.Refused.TheVariants as refused
use Rattle.stm_store.specs.declared.job.Ticket.{Ticket}
use Rattle.stm_store.specs.declared.store.Store.{Store}
use Rattle.stm_desk.specs.declared.answers.Became.TheVariants as became
use Rattle.stm_desk.specs.declared.work.Work.{Work}
use Rattle.stm_desk.specs.History.{History}
use Rattle.stm_desk.specs.Waiting.{OthersStay, waiting_at}

-- fewer turns are left
abbrev pub IsLighter : Store → Store → Type 0
IsLighter old new = weight_of new.book.tasks < weight_of old.book.tasks

-- the task with the ticket is given up: nobody waits for it any more
pub record WasGivenUp (old : Work) (ticket : Ticket) (new : Work) : Type 0 where
  pub history : new.history.items ≡ old.history.items ++ (ticket, became.Left) ∷ []
  pub gone : waiting_at new.waiters ticket.0 ≡ None
  pub others : OthersStay old.waiters new.waiters ticket
  pub told : new.waiters.told.items ≡ old.waiters.told.items
  pub due : new.due.items ≡ old.due.items

-- where anybody waits with the ticket, the task is given up
abbrev pub HasLeft : Work → Ticket → Result (Unit {0}) Refused → Work → Type 0
HasLeft old ticket (Ok done) new = (waiting_at old.waiters ticket.0 ≢ None) × WasGivenUp old ticket new
HasLeft old ticket (Err refused.Gone) new = (waiting_at old.waiters ticket.0 ≡ None) × (new ≡ old)
HasLeft old ticket (Err _) new = ⊥

-- only tasks that were left are behind what was there
abbrev pub OnlyLeft : Work → Work → Type 0
OnlyLeft old new =
    (left : History) × (new.history.items ≡ old.history.items ++ left) × All (λ e. e.1 ≡ became.Left) left
