-- Answers of calls, kept by what was read.
use Rattle.std.specs.Prelude.{◌≡◌, ◌⊎◌, ℕ, ◌<◌, List, [], ◌∷◌, ◌++◌, length, slice_index_or, slice_set}
use Rattle.txn_programs.specs.Listing.{Listing}
use Rattle.txn_programs.specs.Meaning.{State, outcome, after}
use Rattle.attempt.specs.Frame.{Agrees, store}
use Rattle.attempt.specs.Order.{AllKnown}
use Rattle.explore_law.specs.declared.instance.InstanceId.{InstanceId}
use Rattle.explore_law.specs.Instances.{instance_program}
use Rattle.explore_search.specs.declared.kept.Answer.{Answer}

-- wherever the variables that were read have these values, a task of the instance ends so, and leaves what is written stored
pub record IsAnswer (l : Listing) (a : Answer) : Type 0 where
  pub read : AllKnown (length l.initial) a.reads.items
  pub written : AllKnown (length l.initial) a.writes.items
  pub ends : (m : State) → length m ≡ length l.initial → Agrees a.reads.items m → outcome (instance_program l a.instance) m ≡ a.outcome
  pub leaves : (m : State) → length m ≡ length l.initial → Agrees a.reads.items m → after (instance_program l a.instance) m ≡ store a.writes.items m

abbrev pub AreAnswers : Listing → List Answer → Type 0
AreAnswers l answers = (i : ℕ) (none : Answer) → i < length answers → IsAnswer l (slice_index_or answers i none)

-- the answer is one of the instance, and the state has the values that were read
pub record HoldsOn (a : Answer) (k : InstanceId) (m : State) : Type 0 where
  pub own : a.instance ≡ k
  pub agrees : Agrees a.reads.items m

-- that, of the answer of number i
pub record HoldsAt (answers : List Answer) (i : ℕ) (k : InstanceId) (m : State) : Type 0 where
  pub low : i < length answers
  pub holds : (none : Answer) → HoldsOn (slice_index_or answers i none) k m

-- with the answer at the number i: behind the others, or in place of one
abbrev pub IsPut : List Answer → ℕ → Answer → List Answer → Type 0
IsPut old i a new = ((i ≡ length old) × (new ≡ old ++ a ∷ [])) ⊎ ((i < length old) × (new ≡ slice_set old i a))
