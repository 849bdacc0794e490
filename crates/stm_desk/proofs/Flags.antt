-- Which tasks of a book are open, whatever a turn leaves of them.
use Rattle.std.proofs.Common.{◌≡◌, ◌≢◌, ◌∙◌, ℕ, zero, suc, ◌+◌, Bool, true, false, if◌then◌else◌, List, [], ◌∷◌, ◌++◌, Some, map, set, refl, sym, ap}
use Rattle.std.specs.List.{slice_get}
use Rattle.std.proofs.lemmas.Option.{same_Some}
use Rattle.txn_programs.specs.declared.ast.TaskId.{TaskId}
use Rattle.txn_programs.specs.Meaning.{State, after}
use Rattle.txn_programs.specs.Listing.{task_program}
use Rattle.book.specs.Tasks.{Task, Ready, Running, Parked, Done, GivenUp}
use Rattle.book.specs.View.{BookView, woken, committed, checkpointed, stands, names_changed}
use Rattle.book.specs.Carrying.{stays}
use Rattle.book.specs.Turns.{is_due, kept_short}
use Rattle.book.specs.declared.task.Serial.{Serial}
use Rattle.book.specs.declared.task.Serial.TheVariants as serial
use Rattle.attempt.specs.Asking.{Known}
use Rattle.stm_store.specs.Entering.{Enters}
use Rattle.stm_store.specs.Turning.{Ends}
use Rattle.stm_store.specs.declared.answers.End.{End}
use Rattle.stm_store.specs.declared.answers.End.TheVariants as end
use Rattle.stm_desk.specs.Open.{open_tasks}

pub map_set : {A B : Type 0} (f : A → B) (xs : List A) (i : ℕ) (v : A) → map f (set xs i v) ≡ set (map f xs) i (f v)
map_set f [] i v = refl
map_set f (x ∷ xs) zero v = refl
map_set f (x ∷ xs) (suc i) v = ap (λ z. f x ∷ z) (map_set f xs i v)

pub set_same : {A : Type 0} (xs : List A) (i : ℕ) (v : A) → slice_get xs i ≡ Some v → set xs i v ≡ xs
set_same [] i v h = refl
set_same (x ∷ xs) zero v h = let e : x ≡ v = cc in ap (λ z. z ∷ xs) (sym e)
set_same (x ∷ xs) (suc i) v h = ap (λ z. x ∷ z) (set_same xs i v h)

pub get_set_other : {A : Type 0} (xs : List A) (i k : ℕ) (v : A) → k ≢ i → slice_get (set xs i v) k ≡ slice_get xs k
get_set_other [] i k v h = refl
get_set_other (x ∷ xs) zero zero v h = absurd (h refl)
get_set_other (x ∷ xs) zero (suc k) v h = refl
get_set_other (x ∷ xs) (suc i) zero v h = refl
get_set_other (x ∷ xs) (suc i) (suc k) v h = get_set_other xs i k v (λ e. h (ap suc e))

pub get_append_left : {A : Type 0} (xs ys : List A) (k : ℕ) (x : A) → slice_get xs k ≡ Some x → slice_get (xs ++ ys) k ≡ Some x
get_append_left [] ys k x h = absurd (cc)
get_append_left (y ∷ xs) ys zero x h = h
get_append_left (y ∷ xs) ys (suc k) x h = get_append_left xs ys k x h

-- what another standing of one task is not was there before
pub not_set : {A : Type 0} (xs : List A) (i k : ℕ) (v w : A) → (v ≡ w → ⊥) → slice_get (set xs i v) k ≡ Some w → slice_get xs k ≡ Some w
not_set [] i k v w apart h = h
not_set (x ∷ xs) zero zero v w apart h = absurd (apart (same_Some v w h))
not_set (x ∷ xs) zero (suc k) v w apart h = h
not_set (x ∷ xs) (suc i) zero v w apart h = h
not_set (x ∷ xs) (suc i) (suc k) v w apart h = not_set xs i k v w apart h

stays_case : (b : Bool) (t : Task) → stays t ≡ true → stays (if b then Ready else t) ≡ true
stays_case true t e = refl
stays_case false t e = e

stays_woken : (old new : State) (t : Task) → stays (woken old new t) ≡ stays t
stays_woken old new Ready = refl
stays_woken old new Running = refl
stays_woken old new (Parked log) = stays_case (names_changed old new log) (Parked log) refl
stays_woken old new (Done n) = refl
stays_woken old new GivenUp = refl

all_woken : (old new : State) (ts : List Task) → map stays (map (woken old new) ts) ≡ map stays ts
all_woken old new [] = refl
all_woken old new (t ∷ ts) = ap (λ (b : Bool). b ∷ map stays (map (woken old new) ts)) (stays_woken old new t) ∙ ap (λ (bs : List Bool). stays t ∷ bs) (all_woken old new ts)

-- with another standing of one task
pub open_stands : (b : BookView) (task : TaskId) (how : Task) → open_tasks (stands b task how) ≡ set (open_tasks b) task.0 (stays how)
open_stands b task how = map_set stays b.tasks task.0 how

open_committed : (b : BookView) (task : TaskId) → open_tasks (committed b task) ≡ set (open_tasks b) task.0 false
unfolding committed
open_committed b task =
    all_woken b.present.state (after (task_program b.catalogue task) b.present.state) (set b.tasks task.0 (Done (b.present.number + 1)))
    ∙ map_set stays b.tasks task.0 (Done (b.present.number + 1))

short_case : {A : Type 0} (of : BookView → A) (due : Bool) (b : BookView) → of (checkpointed b) ≡ of b → of (if due then checkpointed b else b) ≡ of b
short_case of true b e = e
short_case of false b e = refl

pub short_open : (every : ℕ) (how : Serial) (b : BookView) → open_tasks (kept_short every how b) ≡ open_tasks b
short_open every how b = short_case open_tasks (is_due every how b) b refl

pub short_state : (every : ℕ) (how : Serial) (b : BookView) → (kept_short every how b).present.state ≡ b.present.state
short_state every how b = short_case (λ (x : BookView). x.present.state) (is_due every how b) b refl

-- a task is open after its turn only if it is parked
abbrev pub stays_open : End → Bool
stays_open (end.Entered e) = false
stays_open end.Parked = true
stays_open end.Abandoned = false

-- what a turn leaves of the book, whichever way it was given
abbrev pub AsEnds : ℕ → BookView → TaskId → End → BookView → Type 0
AsEnds every old task (end.Entered e) new = Enters every old task e new
AsEnds every old task end.Parked new = (log : Known) × (new ≡ stands old task (Parked log))
AsEnds every old task end.Abandoned new = new ≡ stands old task GivenUp

pub as_ends : (every : ℕ) (b new : BookView) (task : TaskId) (how : End) → Ends every b task how new → AsEnds every b task how new
as_ends every b new task (end.Entered e) h = h
as_ends every b new task end.Parked h = (h.2.0, h.2.2)
as_ends every b new task end.Abandoned h = h.0.1

pub ends_open : (every : ℕ) (b new : BookView) (task : TaskId) (how : End) → AsEnds every b task how new → open_tasks new ≡ set (open_tasks b) task.0 (stays_open how)
ends_open every b new task (end.Entered e) h =
    ap open_tasks h.kept ∙ (short_open every (serial.Committed e.number) (committed b task) ∙ open_committed b task)
ends_open every b new task end.Parked h = ap open_tasks h.1 ∙ open_stands b task (Parked h.0)
ends_open every b new task end.Abandoned h = ap open_tasks h ∙ open_stands b task GivenUp

-- where the others are as they were
pub back_set : (xs : List Bool) (i k : ℕ) (v : Bool) → slice_get xs i ≡ Some true → slice_get (set xs i v) k ≡ Some true → slice_get xs k ≡ Some true
back_set [] i k v here h = h
back_set (x ∷ xs) zero zero v here h = here
back_set (x ∷ xs) zero (suc k) v here h = h
back_set (x ∷ xs) (suc i) zero v here h = h
back_set (x ∷ xs) (suc i) (suc k) v here h = back_set xs i k v here h

pub closed_set : (xs : List Bool) (i : ℕ) → slice_get (set xs i false) i ≡ Some true → ⊥
closed_set [] i h = absurd (cc)
closed_set (x ∷ xs) zero h = absurd (cc)
closed_set (x ∷ xs) (suc i) h = closed_set xs i h

-- a task that can be taken, runs or is parked is open
pub open_at : (ts : List Task) (k : ℕ) (t : Task) → slice_get ts k ≡ Some t → stays t ≡ true → slice_get (map stays ts) k ≡ Some true
open_at [] k t e is = absurd (cc)
open_at (x ∷ xs) zero t e is = ap (λ (u : Task). Some (stays u)) (same_Some x t e) ∙ ap Some is
open_at (x ∷ xs) (suc k) t e is = open_at xs k t e is
