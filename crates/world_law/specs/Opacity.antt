-- What holds of each reached world.
use Rattle.std.specs.Prelude.{◌≡◌, ◌≢◌, ◌⊎◌, ℕ, ◌-◌, ◌*◌, ◌<◌, length, take, Option, Some, None}
use Rattle.std.specs.List.{slice_get}
use Rattle.txn_programs.specs.Listing.{Listing, task_program}
use Rattle.txn_programs.specs.Meaning.{State, outcome, after}
use Rattle.txn_words.specs.Words.{Commit, WordsMean, state_of, state_value}
use Rattle.txn_words.specs.Loads.{SamplingHolds}
use Rattle.txn_programs.specs.declared.ast.VarId.{VarId}
use Rattle.txn_programs.specs.declared.ast.Outcome.{Outcome}
use Rattle.txn_programs.specs.declared.ast.Outcome.TheVariants.{Retries}
use Rattle.attempt.specs.Asking.{Known, Ends}
use Rattle.attempt.specs.Frame.{Agrees}
use Rattle.world_law.specs.declared.events.Fate.TheVariants as fate
use Rattle.world_law.specs.World.{Check, Started, Committer, World, stand, wanted, bound, version_now, value_now, words_loaded}
use Rattle.world_law.specs.Commits.{IsAsFar}

-- what the attempt read is so in the state m, and it ended, if it did, as its program ends there
abbrev pub IsOf : Listing → State → Started → Type 0
IsOf l m y =
    Agrees y.log m
    × ((o : Outcome) (writes : Known) → stand l y ≡ Ends o writes → o ≡ outcome (task_program l y.task) m)

-- the attempt leads from the state m to m': what it read is so in m, it ended as its program ends there, without a retry,
-- and m' is the state after its program
pub record Explains (l : Listing) (m m' : State) (y : Started) : Type 0 where
  pub agrees : Agrees y.log m
  pub ended : (writes : Known) × (stand l y ≡ Ends (outcome (task_program l y.task) m) writes)
  pub goes_on : outcome (task_program l y.task) m ≢ Retries
  pub leads : m' ≡ after (task_program l y.task) m

-- the attempt at the place i is the committer of the number n, and has stored the clock
abbrev pub IsPast : Option Committer → ℕ → ℕ → Type 0
IsPast None i n = ⊥
IsPast (Some c) i n = (c.place ≡ i) × (c.number ≡ n) × (2 * length c.changes < c.stored)

-- the attempt y, at the place i, made the state n
abbrev pub Makes : World → ℕ → ℕ → Started → Type 0
Makes w n i y = (slice_get w.attempts i ≡ Some y) × ((y.fate ≡ fate.Committed n) ⊎ IsPast w.committer i n)

-- exactly one attempt made the state n, and it leads there from the state before
abbrev pub Made : Listing → World → ℕ → Type 0
Made l w n =
    (i : ℕ) × (y : Started) × Makes w n i y
    × Explains l (state_of w.history (n - 1)) (state_of w.history n) y
    × ((j : ℕ) (z : Started) → Makes w n j z → j ≡ i)

pub record Opaque (l : Listing) (w : World) : Type 0 where
  -- whatever became of an attempt, all that it read since it began is so in one state of the history
  pub reads : (i : ℕ) (y : Started) → slice_get w.attempts i ≡ Some y
      → (y.rv < length w.history) × IsOf l (state_of w.history y.rv) y
  -- each state but the first was made by exactly one attempt
  pub makers : (n : ℕ) → 0 < n → n < length w.history → Made l w n
  -- no task has two attempts that committed
  pub once : (i j m n : ℕ) (y z : Started) → slice_get w.attempts i ≡ Some y → slice_get w.attempts j ≡ Some z
      → y.fate ≡ fate.Committed m → z.fate ≡ fate.Committed n → y.task ≡ z.task → i ≡ j

-- What the words mean, between any two loads and stores. The words are what the commits stored, as far as the committer
-- is; and of the variable that an attempt reads, no version word is below what it loaded of it, and either a greater one
-- is there now, or the value, also the one that it loaded, is that of its state, or of the one that it checks.
pub record WordsFit (l : Listing) (w : World) : Type 0 where
  pub commit : Commit
  pub history : commit.history ≡ w.history
  pub words : WordsMean w.words commit
  pub far : IsAsFar w.committer commit
  pub loads : (i : ℕ) (y : Started) (x : VarId) → slice_get w.attempts i ≡ Some y → wanted l y ≡ Some x
      → SamplingHolds (version_now w x) (value_now w x) (bound y) (state_value (state_of w.history (bound y)) x.0) (words_loaded y.loads)
  -- the state that an attempt checks is one of the history, and so many of the pairs that it read are so in it
  pub checks : (i : ℕ) (y : Started) (c : Check) → slice_get w.attempts i ≡ Some y → y.check ≡ Some c
      → (c.candidate < length w.history) × Agrees (take c.checked y.log) (state_of w.history c.candidate)
