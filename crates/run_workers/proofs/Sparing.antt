-- No task is given up whose transaction takes no memory: what the times under the lock keep of that, and what a report tells.
use Rattle.std.proofs.Common.{◌≡◌, ◌≢◌, ◌<◌, ◌≤◌, ℕ, zero, suc, Bool, true, false, List, [], ◌∷◌, length, Option, Some, None, refl, sym, ◌∙◌, ap, subst, arith, get_or, pos}
use Rattle.std.specs.List.{All}
use Rattle.std.specs.Prelude.{MatchBool}
use Rattle.std.proofs.lemmas.List.Elements.{All-head}
use Rattle.txn_programs.specs.declared.ast.TaskId.{TaskId}
use Rattle.txn_programs.specs.declared.ast.TxId.{TxId}
use Rattle.txn_programs.specs.Tree.{Transaction, Skip, Int}
use Rattle.txn_programs.specs.Listing.{Listing, task_tx}
use Rattle.txn_programs.specs.Told.{Told}
use Rattle.attempt.specs.Room.{StaysSmall, NeedsNoMemory, TakesMemory, RunsInPlace}
use Rattle.attempt.specs.View.{AttemptView}
use Rattle.book.specs.declared.task.Finish.{Finish}
use Rattle.book.specs.declared.task.Finish.TheVariants as finish
use Rattle.book.specs.declared.task.Serial.{Serial}
use Rattle.book.specs.declared.task.Serial.TheVariants as serial
use Rattle.book.specs.Tasks.{GivenUp}
use Rattle.book.specs.View.{BookView, IsRunning, stands}
use Rattle.book.specs.Turns.{Taken, Finished, Served, kept_short, ReportIs, listed, is_given_up}
use Rattle.book.specs.GivingUp.{GivesUpForMemory}
use Rattle.run_workers.specs.GivingUp.{GaveUpForMemory}
use Rattle.run_workers.proofs.Journals.{Shortens}
use Rattle.book.proofs.GivingUp.{gives_finished, gives_served, gives_kept, listed_takes}

-- behind the end of an attempt, and a checkpoint
pub ended_gives : (every : ℕ) (b : BookView) (task : TaskId) (how : Finish) (turn : Serial) (a : AttemptView) (c d : BookView) → Finished b task a how c → d ≡ kept_short every turn c → GivesUpForMemory b → GivesUpForMemory d
ended_gives every b task how turn a c d f kept h = subst GivesUpForMemory (sym kept) (gives_kept every turn c (gives_finished b task a how c f h))

-- behind a turn, and a checkpoint
pub turned_gives : (every : ℕ) (b : BookView) (task : TaskId) (how : Serial) (c d : BookView) → Served b task how c → (how ≡ serial.Abandoned → TakesMemory b.catalogue (task_tx b.catalogue task)) → d ≡ kept_short every how c → GivesUpForMemory b → GivesUpForMemory d
turned_gives every b task how c d s takes kept h = subst GivesUpForMemory (sym kept) (gives_kept every how c (gives_served b task how c s takes h))

-- what neither commits nor makes a checkpoint leaves the journal as short as it is
pub took_short : (every : ℕ) (a : BookView) (r : Option TaskId) (b : BookView) → Taken a r b → Shortens every a → Shortens every b
took_short every a None b t h = subst (Shortens every) (sym t.1) h
took_short every a (Some task) b t h = subst (Shortens every) (sym t.2) h

pub dropped_short : (every : ℕ) (b : BookView) (task : TaskId) (r : Bool) (c : BookView) → MatchBool r (IsRunning b task × (c ≡ stands b task GivenUp)) (¬ (IsRunning b task) × (c ≡ b)) → Shortens every b → Shortens every c
dropped_short every b task true c m h = subst (Shortens every) (sym m.1) h
dropped_short every b task false c m h = subst (Shortens every) (sym m.1) h

pub finished_short : (every : ℕ) (b : BookView) (task : TaskId) (a : AttemptView) (how : Finish) (c : BookView) → Finished b task a how c → ((n : ℕ) → how ≢ finish.Committed n) → Shortens every b → Shortens every c
finished_short every b task a finish.NotRunning c f other h = subst (Shortens every) (sym f.1) h
finished_short every b task a finish.Stale c f other h = subst (Shortens every) (sym f.2) h
finished_short every b task a finish.Parked c f other h = subst (Shortens every) (sym f.3) h
finished_short every b task a (finish.Committed n) c f other h = absurd (other n refl)

-- the report of a book
pub report_gives : (b : BookView) (r : Told) → ReportIs b r → GivesUpForMemory b → GaveUpForMemory b.catalogue r
report_gives b r is h = subst (All (λ (p : TaskId × TxId). TakesMemory b.catalogue p.1)) (sym is.memory) (listed_takes b h)

-- of a catalogue none of whose transactions has an `orelse`
small_at : (ts : List Transaction) (k : ℕ) → All (λ (t : Transaction). StaysSmall t.body) ts → StaysSmall (get_or ts k (record { name = []; parameters = []; body = Skip; result = Int (pos 0) })).body
small_at [] k h = tt
small_at (t ∷ ts) zero h = All-head (λ (t : Transaction). StaysSmall t.body) t ts h
small_at (t ∷ ts) (suc k) h = small_at ts k (λ i d lt. h (suc i) d (omega (arith, lt)))

takes_none : (l : Listing) (tx : TxId) → RunsInPlace l → TakesMemory l tx → ⊥
takes_none l tx place takes = omega (arith, place.few, takes (small_at l.transactions tx.0 place.no_orelse))

-- no task is told as given up where no transaction takes memory
pub none_told : (l : Listing) (r : Told) → RunsInPlace l → GaveUpForMemory l r → r.memory ≡ []
none_told l r place h = at r.memory h
  where
    at : (xs : List (TaskId × TxId)) → All (λ (p : TaskId × TxId). TakesMemory l p.1) xs → xs ≡ []
    at [] k = refl
    at (p ∷ xs) k = absurd (takes_none l p.1 place (All-head (λ (p : TaskId × TxId). TakesMemory l p.1) p xs k))
