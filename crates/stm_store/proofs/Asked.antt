-- What is asked by a ticket is answered of the one task that has it.
use Rattle.std.proofs.Common.{◌≡◌, ◌≢◌, ◌∙◌, ℕ, zero, suc, ◌<◌, List, [], ◌∷◌, Option, Some, None, length, map, refl, sym, ap, subst, arith}
use Rattle.std.specs.List.{slice_get}
use Rattle.std.proofs.lemmas.List.{length-set}
use Rattle.std.proofs.lemmas.Option.{same_Some, slice_get_within}
use Rattle.txn_programs.specs.declared.ast.TaskId.{TaskId}
use Rattle.txn_programs.specs.declared.ast.Outcome.{Outcome}
use Rattle.book.specs.Tasks.{Task, Ready, Running, Parked, Done, GivenUp}
use Rattle.book.specs.View.{BookView, stands}
use Rattle.book.specs.Recorded.{IsReady, IsRecorded, told_as}
use Rattle.book.specs.declared.standing.Standing.{Standing}
use Rattle.book.specs.declared.standing.Standing.TheVariants as told
use Rattle.stm_store.specs.Tickets.{IsTaskOf}
use Rattle.stm_store.specs.Asking.{TellsOutcome}
use Rattle.stm_store.specs.declared.job.Ticket.{Ticket}
use Rattle.stm_store.specs.declared.store.Store.{Store}

-- a ready task that is running now is one of the book's
pub claimed_within : (old new : BookView) (task : TaskId) → IsReady old task → new ≡ stands old task Running → task.0 < length new.tasks
claimed_within old new task ready is =
    omega (arith, slice_get_within old.tasks task.0 Ready ready, ap (λ (b : BookView). length b.tasks) is, length-set old.tasks task.0 Running)

pub tells_outcome : (s : Store) (ticket : Ticket) (task : TaskId) (o : Option Outcome) → IsTaskOf s.tickets ticket (Some task) → IsRecorded s.book task o → TellsOutcome s ticket o
tells_outcome s ticket task None of h = λ other has. subst (λ (t : TaskId). IsRecorded s.book t None) (sym (of.1 other has)) h
tells_outcome s ticket task (Some o) of h = (task, of.0, h)

-- a task of which it is told that it runs does
pub told_running : (ts : List Task) (k : ℕ) → slice_get (map told_as ts) k ≡ Some told.Running → slice_get ts k ≡ Some Running
told_running [] k e = absurd (cc)
told_running (t ∷ ts) (suc k) e = told_running ts k e
told_running (t ∷ ts) zero e = ap Some (by t (same_Some (told_as t) told.Running e))
  where
    by : (t : Task) → told_as t ≡ told.Running → t ≡ Running
    by Ready e = absurd (cc)
    by Running e = refl
    by (Parked log) e = absurd (cc)
    by (Done n) e = absurd (cc)
    by GivenUp e = absurd (cc)

-- and no other one
pub told_other : (ts : List Task) (k : ℕ) (how : Standing) → slice_get (map told_as ts) k ≡ Some how → how ≢ told.Running → slice_get ts k ≡ Some Running → ⊥
told_other [] k how e other runs = absurd (cc)
told_other (t ∷ ts) (suc k) how e other runs = told_other ts k how e other runs
told_other (t ∷ ts) zero how e other runs =
    other (sym (same_Some (told_as t) how e) ∙ ap told_as (same_Some t Running runs))
