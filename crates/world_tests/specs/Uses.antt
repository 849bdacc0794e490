-- What a caller concludes of a world that is opaque, and of what its words mean.
use Rattle.std.specs.Prelude.{◌≡◌, ◌≢◌, ℕ, ◌-◌, ◌*◌, ◌%◌, ◌<◌, ◌≤◌, [], ◌∷◌, length, ℤ, Some, None}
use Rattle.std.specs.List.{slice_get}
use Rattle.std.specs.Int.{w64, cast_signed}
use Rattle.txn_programs.specs.Listing.{Listing, task_program}
use Rattle.txn_programs.specs.Meaning.{value_at, outcome, after}
use Rattle.txn_programs.specs.declared.ast.VarId.{VarId}
use Rattle.txn_programs.specs.declared.ast.Outcome.{Outcome}
use Rattle.txn_programs.specs.declared.ast.Outcome.TheVariants.{Retries}
use Rattle.txn_words.specs.Words.{state_of, last_state, state_value}
use Rattle.attempt.specs.Asking.{Known, Ends}
use Rattle.attempt.specs.Frame.{Agrees}
use Rattle.world_law.specs.declared.events.Fate.TheVariants as fate
use Rattle.world_law.specs.declared.events.Loads.TheVariants as loads
use Rattle.world_law.specs.World.{Started, Committer, World, stand, wanted, bound, version_now, value_now}

-- both values that an attempt has read of two variables are those of one state of the history
abbrev pub PairsAreOfOneState : World → Type 0
PairsAreOfOneState w = (i : ℕ) (y : Started) (x z : VarId) (u v : ℤ) → slice_get w.attempts i ≡ Some y → y.log ≡ (x, u) ∷ (z, v) ∷ []
    → (n : ℕ) × (n < length w.history) × (value_at (state_of w.history n) x ≡ u) × (value_at (state_of w.history n) z ≡ v)

-- whatever became of it, an attempt that has ended over what it read ended as its program ends on a state of the history
abbrev pub EndsAreOfPrograms : Listing → World → Type 0
EndsAreOfPrograms l w = (i : ℕ) (y : Started) (o : Outcome) (writes : Known) → slice_get w.attempts i ≡ Some y → stand l y ≡ Ends o writes
    → (n : ℕ) × (n < length w.history) × (o ≡ outcome (task_program l y.task) (state_of w.history n))

-- where an attempt committed the state n, its program leads there from the state before, and does not retry there
abbrev pub CommitsAreOfPrograms : Listing → World → Type 0
CommitsAreOfPrograms l w = (i n : ℕ) (y : Started) → slice_get w.attempts i ≡ Some y → y.fate ≡ fate.Committed n → 0 < n → n < length w.history
    → (state_of w.history n ≡ after (task_program l y.task) (state_of w.history (n - 1)))
    × (outcome (task_program l y.task) (state_of w.history (n - 1)) ≢ Retries)

-- while nobody commits, some attempt committed each state but the first: what it read is so in the state before, it ended
-- as its program ends there, and its program leads on
abbrev pub StatesAreCommitted : Listing → World → Type 0
StatesAreCommitted l w = (n : ℕ) → w.committer ≡ None → 0 < n → n < length w.history
    → (i : ℕ) × (y : Started) × (slice_get w.attempts i ≡ Some y) × (y.fate ≡ fate.Committed n)
    × Agrees y.log (state_of w.history (n - 1))
    × ((writes : Known) × (stand l y ≡ Ends (outcome (task_program l y.task) (state_of w.history (n - 1))) writes))
    × (state_of w.history n ≡ after (task_program l y.task) (state_of w.history (n - 1)))

-- once a commit has stored the clock, its state is the one to which its attempt's program leads, though words are left to store
abbrev pub ClocksMakeStates : Listing → World → Type 0
ClocksMakeStates l w = (c : Committer) (y : Started) → w.committer ≡ Some c → 2 * length c.changes < c.stored → slice_get w.attempts c.place ≡ Some y
    → 0 < c.number → c.number < length w.history
    → state_of w.history c.number ≡ after (task_program l y.task) (state_of w.history (c.number - 1))

-- no task has two attempts that committed
abbrev pub TasksCommitOnce : World → Type 0
TasksCommitOnce w = (i j m n : ℕ) (y z : Started) → slice_get w.attempts i ≡ Some y → slice_get w.attempts j ≡ Some z
    → y.fate ≡ fate.Committed m → z.fate ≡ fate.Committed n → y.task ≡ z.task → i ≡ j

-- while nobody commits, no variable is locked, and each value word has the value of the last state
abbrev pub WordsAreTheLastState : World → Type 0
WordsAreTheLastState w = (x : VarId) → w.committer ≡ None → x.0 < length (last_state w.history)
    → (version_now w x % 2 ≡ 0) × (cast_signed w64 (value_now w x) ≡ state_value (last_state w.history) x.0)

-- the value that an attempt has loaded is that of the state that it reads, where the version word was free and no later than
-- that state, and still is what it was
abbrev pub LoadsAreOfTheState : Listing → World → Type 0
LoadsAreOfTheState l w = (i first bits : ℕ) (y : Started) (x : VarId) → slice_get w.attempts i ≡ Some y → wanted l y ≡ Some x
    → y.loads ≡ loads.Value first bits → first % 2 ≡ 0 → first ≤ 2 * bound y → version_now w x ≡ first
    → cast_signed w64 bits ≡ state_value (state_of w.history (bound y)) x.0
