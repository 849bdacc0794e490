-- No task is given up but where memory ran out: what the calls of a book keep of that, and what its report tells.
use Rattle.std.proofs.Common.{◌≡◌, ◌≢◌, inl, inr, ℕ, zero, suc, ◌+◌, Bool, true, false, List, [], ◌∷◌, length, map, Option, Some, None, set, replicate, refl, sym, ◌∙◌, ap, subst, arith}
use Rattle.std.specs.List.{slice_get, All}
use Rattle.std.specs.Prelude.{MatchBool}
use Rattle.std.proofs.lemmas.Bool.{cases_eq, cond_both}
use Rattle.std.proofs.lemmas.List.Elements.{All-cons, All-nil}
use Rattle.std.proofs.lemmas.Option.{same_Some}
use Rattle.txn_programs.specs.declared.ast.TaskId.{TaskId}
use Rattle.txn_programs.specs.declared.ast.TxId.{TxId}
use Rattle.txn_programs.specs.Meaning.{after}
use Rattle.txn_programs.specs.Listing.{Listing, tasks, task_tx, task_program}
use Rattle.attempt.specs.Room.{TakesMemory}
use Rattle.attempt.specs.View.{AttemptView}
use Rattle.cells.specs.Cells.{CellsId}
use Rattle.book.specs.Tasks.{Task}
use Rattle.book.specs.Tasks.{Ready, Running, Parked, Done, GivenUp}
use Rattle.book.specs.declared.task.Finish.{Finish}
use Rattle.book.specs.declared.task.Finish.TheVariants as finish
use Rattle.book.specs.declared.task.Serial.{Serial}
use Rattle.book.specs.declared.task.Serial.TheVariants as serial
use Rattle.book.specs.View.{BookView, IsRunning, opened, stands, woken, committed, checkpointed}
use Rattle.book.specs.Turns.{Taken, Finished, Served, kept_short, is_due, readied, readied_one, listed, is_given_up}
use Rattle.book.specs.GivingUp.{GivesUpForMemory}
use Rattle.book.proofs.Lists.{get_set_same, get_set_other, get_map}
use Rattle.book.proofs.Readying.{readied_given}
use Rattle.book.proofs.Woken.{woken_given}

-- the task takes memory
abbrev Takes : Listing → ℕ → Type 0
Takes l k = TakesMemory l (task_tx l (record { 0 = k }))

-- each that is given up does
abbrev AllTake : Listing → List Task → Type 0
AllTake l ts = (k : ℕ) → slice_get ts k ≡ Some GivenUp → Takes l k

take_set : (l : Listing) (ts : List Task) (k : ℕ) (was is : Task) → slice_get ts k ≡ Some was → (is ≡ GivenUp → Takes l k) → AllTake l ts → AllTake l (set ts k is)
take_set l ts k was is here takes h j e = elim (cases_eq j k) [
  | inl same ↦
      let given : is ≡ GivenUp = same_Some is GivenUp (sym (get_set_same ts k was is here) ∙ (ap (slice_get (set ts k is)) (sym same) ∙ e)) in
      subst (Takes l) (sym same) (takes given)
  | inr apart ↦ h j (sym (get_set_other ts k j is apart) ∙ e)
]

take_map : (l : Listing) (f : Task → Task) (ts : List Task) → ((t : Task) → f t ≡ GivenUp → t ≡ GivenUp) → AllTake l ts → AllTake l (map f ts)
take_map l f ts only h k e = let g = get_map f ts k GivenUp e in h k (g.1 ∙ ap Some (only g.0 g.2))

none_given : (n k : ℕ) → slice_get (replicate n Ready) k ≢ Some GivenUp
none_given zero k e = cc
none_given (suc n) zero e = cc
none_given (suc n) (suc k) e = none_given n k e

-- a book that opens
pub gives_opened : (l : Listing) (cells : CellsId) (spare : ℕ) → GivesUpForMemory (opened l cells spare)
gives_opened l cells spare k e = absurd (none_given (length (tasks l)) k e)

-- a task that was of this standing stands otherwise
pub gives_stands : (b : BookView) (task : TaskId) (was is : Task) → slice_get b.tasks task.0 ≡ Some was → (is ≡ GivenUp → TakesMemory b.catalogue (task_tx b.catalogue task)) → GivesUpForMemory b → GivesUpForMemory (stands b task is)
gives_stands b task was is here takes h = take_set b.catalogue b.tasks task.0 was is here takes h

pub gives_taken : (a : BookView) (task : TaskId) (b : BookView) → Taken a (Some task) b → GivesUpForMemory a → GivesUpForMemory b
gives_taken a task b t h = subst GivesUpForMemory (sym t.2) (gives_stands a task Ready Running t.0 (λ e. absurd (cc)) h)

pub gives_took : (a : BookView) (r : Option TaskId) (b : BookView) → Taken a r b → GivesUpForMemory a → GivesUpForMemory b
gives_took a None b t h = subst GivesUpForMemory (sym t.1) h
gives_took a (Some task) b t h = gives_taken a task b t h

-- a task that takes memory is given up, where it runs
pub gives_dropped : (b : BookView) (task : TaskId) (r : Bool) (c : BookView) → MatchBool r (IsRunning b task × (c ≡ stands b task GivenUp)) (¬ (IsRunning b task) × (c ≡ b)) → TakesMemory b.catalogue (task_tx b.catalogue task) → GivesUpForMemory b → GivesUpForMemory c
gives_dropped b task true c m takes h = subst GivesUpForMemory (sym m.1) (gives_stands b task Running GivenUp m.0 (λ e. takes) h)
gives_dropped b task false c m takes h = subst GivesUpForMemory (sym m.1) h

gives_committed : (b : BookView) (task : TaskId) → IsRunning b task → GivesUpForMemory b → GivesUpForMemory (committed b task)
unfolding committed
gives_committed b task running h =
    let s = after (task_program b.catalogue task) b.present.state in
    let is = Done (b.present.number + 1) in
    take_map b.catalogue (woken b.present.state s) (set b.tasks task.0 is) (woken_given b.present.state s) (take_set b.catalogue b.tasks task.0 Running is running (λ e. absurd (cc)) h)

-- the end of an attempt
pub gives_finished : (b : BookView) (task : TaskId) (a : AttemptView) (how : Finish) (c : BookView) → Finished b task a how c → GivesUpForMemory b → GivesUpForMemory c
gives_finished b task a finish.NotRunning c f h = subst GivesUpForMemory (sym f.1) h
gives_finished b task a finish.Stale c f h = subst GivesUpForMemory (sym f.2) h
gives_finished b task a finish.Parked c f h = subst GivesUpForMemory (sym f.3) (gives_stands b task Running (Parked a.log) f.0 (λ e. absurd (cc)) h)
gives_finished b task a (finish.Committed n) c f h = subst GivesUpForMemory (sym f.4) (gives_committed b task f.0 h)

-- a turn that gives the task up only where memory ran out
pub gives_served : (b : BookView) (task : TaskId) (how : Serial) (c : BookView) → Served b task how c → (how ≡ serial.Abandoned → TakesMemory b.catalogue (task_tx b.catalogue task)) → GivesUpForMemory b → GivesUpForMemory c
gives_served b task serial.NotRunning c s takes h = subst GivesUpForMemory (sym s.1) h
gives_served b task serial.Parked c s takes h = subst GivesUpForMemory (sym s.2.2) (gives_stands b task Running (Parked s.2.0) s.0 (λ e. absurd (cc)) h)
gives_served b task (serial.Committed n) c s takes h = subst GivesUpForMemory (sym s.3) (gives_committed b task s.0 h)
gives_served b task serial.Abandoned c s takes h = subst GivesUpForMemory (sym s.1) (gives_stands b task Running GivenUp s.0 (λ e. takes refl) h)

pub gives_kept : (every : ℕ) (how : Serial) (b : BookView) → GivesUpForMemory b → GivesUpForMemory (kept_short every how b)
gives_kept every how b h = cond_both (is_due every how b) (checkpointed b) b GivesUpForMemory (λ e. h) (λ e. h)

pub gives_readied : (b : BookView) → GivesUpForMemory b → GivesUpForMemory (readied b)
gives_readied b h = take_map b.catalogue readied_one b.tasks readied_given h

-- what is listed as given up
listed_take : (l : Listing) (n : ℕ) (ts : List Task) → ((k : ℕ) → slice_get ts k ≡ Some GivenUp → Takes l (n + k)) → All (λ p. TakesMemory l p.1) (listed is_given_up l n ts)
listed_take l n [] h = All-nil (λ (p : TaskId × TxId). TakesMemory l p.1)
listed_take l n (t ∷ ts) h =
    one t refl (listed_take l (n + 1) ts (λ k e. let same : n + suc k ≡ n + 1 + k = omega arith in subst (Takes l) same (h (suc k) e)))
  where
    one : (u : Task) → t ≡ u → All (λ p. TakesMemory l p.1) (listed is_given_up l (n + 1) ts) → All (λ p. TakesMemory l p.1) (listed is_given_up l n (u ∷ ts))
    one Ready e rest = rest
    one Running e rest = rest
    one (Parked log) e rest = rest
    one (Done k) e rest = rest
    one GivenUp e rest =
        let same : n + zero ≡ n = omega arith in
        All-cons (λ (p : TaskId × TxId). TakesMemory l p.1) (record { 0 = n }, task_tx l (record { 0 = n })) (listed is_given_up l (n + 1) ts) (subst (Takes l) same (h zero (ap Some e))) rest

pub listed_takes : (b : BookView) → GivesUpForMemory b → All (λ p. TakesMemory b.catalogue p.1) (listed is_given_up b.catalogue 0 b.tasks)
listed_takes b h = listed_take b.catalogue 0 b.tasks (λ k e. let same : k ≡ zero + k = omega arith in subst (Takes b.catalogue) same (h k e))
