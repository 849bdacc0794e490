-- An attempt that began, as the world keeps it, and what its loads do to it.
use Rattle.std.specs.Prelude.{◌≡◌, ◌≢◌, ◌⊎◌, ℕ, ◌*◌, ◌+◌, ◌%◌, ◌<◌, ◌≤◌, true, false, List, [], ◌∷◌, length, ℤ, Option, Some, None}
use Rattle.txn_programs.specs.Listing.{Listing, task_program}
use Rattle.std.specs.List.{slice_get}
use Rattle.std.specs.Option.{option_map}
use Rattle.std.specs.Int.{w64, cast_signed}
use Rattle.txn_words.specs.Stores.{new_of}
use Rattle.attempt.specs.Asking.{Known}
use Rattle.attempt.specs.Room.{NeedsNoMemory}
use Rattle.attempt.specs.declared.next.Stand.TheVariants as stand
use Rattle.txn_programs.specs.declared.ast.VarId.{VarId}
use Rattle.txn_programs.specs.declared.ast.TaskId.{TaskId}
use Rattle.txn_programs.specs.declared.ast.Outcome.TheVariants.{Returned, Thrown, Retries}
use Rattle.attempt.specs.View.{Answers, supplied}
use Rattle.attempt.specs.declared.next.Next.{Next}
use Rattle.attempt.specs.declared.next.Next.TheVariants as next
use Rattle.world_law.specs.declared.events.Fate.{Fate}
use Rattle.world_law.specs.declared.events.Fate.TheVariants as fate
use Rattle.world_law.specs.declared.events.Seen.{Seen}
use Rattle.world_law.specs.declared.events.Seen.TheVariants as seen
use Rattle.world_law.specs.declared.events.Loads.TheVariants as loads
use Rattle.world_law.specs.World.{Check, Started, bound}
use Rattle.world.specs.declared.trial.Checking.{Checking}
use Rattle.world.specs.declared.trial.Trial.{Trial}
use Rattle.world.specs.KeptAttempts.{shortened}

abbrev pub check_of : Checking → Check
check_of c = record { candidate = c.candidate; checked = c.checked }

-- the attempt of the world
abbrev pub started_of : Trial → Started
started_of y = record {
  task = y.task;
  rv = y.rv;
  log = y.attempt.log;
  loads = y.loads;
  fate = y.fate;
  movable = y.movable;
  check = option_map check_of y.check;
}

-- the variable that it reads: the one that it needs, or, while it checks, that of the pair that it has come to
abbrev pub wanted_at : Next → Known → Option Checking → Option VarId
wanted_at (next.Need x) log None = Some x
wanted_at (next.Need x) log (Some c) = option_map (λ (p : VarId × ℤ). p.0) (slice_get log c.checked)
wanted_at n log o = None

abbrev pub wants : Trial → Option VarId
wants y = wanted_at y.at y.attempt.log y.check

-- it evaluates its task's program, stands at its answer, and does not run where it can't go on
pub record TrialKept (l : Listing) (y : Trial) : Type 0 where
  pub program : y.attempt.program ≡ task_program l y.task
  pub variables : y.attempt.variables ≡ length l.initial
  pub answers : Answers y.at y.attempt
  pub needs : (x : VarId) → y.at ≡ next.Need x → x.0 < length l.initial
  pub over : y.at ≡ next.Memory → y.fate ≢ fate.Running

-- the load of a version word
abbrev pub LoadsFirst : Trial → ℕ → Seen → Trial → Type 0
LoadsFirst y version seen.Idle y' = (y.loads ≢ loads.Nothing) × (y' ≡ y)
LoadsFirst y version seen.Stale y' =
    (y.loads ≡ loads.Nothing) × ((version % 2 ≡ 1) ⊎ (2 * bound (started_of y) < version))
    × (y' ≡ record y { fate = fate.Stale; movable = true })
LoadsFirst y version seen.Loaded y' =
    (y.loads ≡ loads.Nothing) × (version % 2 ≡ 0) × (version ≤ 2 * bound (started_of y))
    × (y' ≡ record y { loads = loads.Version version })
LoadsFirst y version s y' = ⊥

-- the load of a value word
abbrev pub LoadsValue : Trial → ℕ → Seen → Trial → Type 0
LoadsValue y bits seen.Idle y' = ((first : ℕ) → y.loads ≢ loads.Version first) × (y' ≡ y)
LoadsValue y bits seen.Loaded y' = (first : ℕ) × (y.loads ≡ loads.Version first) × (y' ≡ record y { loads = loads.Value first bits })
LoadsValue y bits s y' = ⊥

-- what is seen of an attempt that answers so
abbrev pub answer_seen : Next → Seen
answer_seen (next.Need x) = seen.Needs x
answer_seen (next.Returned v) = seen.Ended (Returned v)
answer_seen (next.Thrown f) = seen.Ended (Thrown f)
answer_seen next.Retry = seen.Ended Retries
answer_seen next.Memory = seen.Spent

-- what becomes of one that was so: it is spent where it ran out of memory
abbrev pub answer_fate : Next → Fate → Fate
answer_fate next.Memory f = fate.Spent
answer_fate n f = f

-- y evaluated as far as it could, and became y'
pub record GoesOn (y : Trial) (s : Seen) (y' : Trial) : Type 0 where
  pub task : y'.task ≡ y.task
  pub rv : y'.rv ≡ y.rv
  pub loads : y'.loads ≡ y.loads
  pub movable : y'.movable ≡ y.movable
  pub check : y'.check ≡ y.check
  pub log : y'.attempt.log ≡ y.attempt.log
  pub program : y'.attempt.program ≡ y.attempt.program
  pub variables : y'.attempt.variables ≡ y.attempt.variables
  pub answers : Answers y'.at y'.attempt
  pub needs : (x : VarId) → y'.at ≡ next.Need x → x.0 < y'.attempt.variables
  pub fate : y'.fate ≡ answer_fate y'.at y.fate
  pub seen : s ≡ answer_seen y'.at
  pub short : NeedsNoMemory y.attempt.program → y.attempt.stand ≢ stand.Spent → y'.at ≢ next.Memory

-- y with its log alone
abbrev pub shortened_trial : Trial → Trial
shortened_trial y = record y { attempt = shortened y.attempt; at = next.Memory }

-- y is told the value of x, whose value word was `bits`
abbrev pub told_value : Trial → VarId → ℕ → Trial
told_value y x bits = record y { attempt = supplied y.attempt x (cast_signed w64 bits); loads = loads.Nothing }

-- it has found so many of the pairs that it read to be so in the state n, of which this is the next
abbrev pub ChecksOnWith : Trial → ℕ → ℕ → Option (VarId × ℤ) → Seen → Trial → Type 0
ChecksOnWith y n checked (Some p) s y' =
    (s ≡ seen.Checks p.0) × (y' ≡ record y { loads = loads.Nothing; check = Some record { candidate = n; checked = checked } })
ChecksOnWith y n checked None s y' = (s ≡ answer_seen y.at) × (y' ≡ record y { rv = n; loads = loads.Nothing; check = None })

abbrev pub ChecksOn : Trial → ℕ → ℕ → Seen → Trial → Type 0
ChecksOn y n checked s y' = ChecksOnWith y n checked (slice_get y.attempt.log checked) s y'

-- it compares a value with the one that it read before
abbrev pub Compares : Trial → Checking → ℤ → Seen → Trial → Type 0
Compares y c v s y' =
    ((v ≡ new_of y.attempt.log c.checked) × ChecksOn y c.candidate (c.checked + 1) s y')
    ⊎ ((v ≢ new_of y.attempt.log c.checked) × (s ≡ seen.Changed) × (y' ≡ record y { fate = fate.Stale }))

-- its read of x, whose value word was `bits`, is good
abbrev pub ReadsOn : Trial → VarId → ℕ → Option Checking → Seen → Trial → Type 0
ReadsOn y x bits None s y' = GoesOn (told_value y x bits) s y'
ReadsOn y x bits (Some c) s y' = Compares y c (cast_signed w64 bits) s y'

-- it may end a read of x
abbrev pub CanEndRead : Trial → VarId → Option Checking → Type 0
CanEndRead y x None = y.attempt.stand ≡ stand.Needs x
CanEndRead y x (Some c) = c.checked < length y.attempt.log

-- the second load of a version word: there was no value, or the read is stale, or good
abbrev pub LoadsSecond : Trial → VarId → ℕ → Seen → Trial → Type 0
LoadsSecond y x version s y' =
    (((first bits : ℕ) → y.loads ≢ loads.Value first bits) × (s ≡ seen.Idle) × (y' ≡ y))
    ⊎ ((first bits : ℕ) × (y.loads ≡ loads.Value first bits)
    × (((version ≢ first) × (s ≡ seen.Stale) × (y' ≡ record y { fate = fate.Stale; movable = true }))
    ⊎ ((version ≡ first) × ReadsOn y x bits y.check s y')))

-- it became stale at a load
abbrev pub CanMove : Trial → Type 0
CanMove y = (y.fate ≡ fate.Stale) × (y.movable ≡ true)

-- .. when it needed a variable
abbrev pub MayGoAgain : Trial → Type 0
MayGoAgain y = (y.fate ≡ fate.Stale) × (y.movable ≡ true) × ((x : VarId) × (y.at ≡ next.Need x))

-- it runs again, with what it loaded of the clock
abbrev pub GoesAgain : Trial → ℕ → Seen → Trial → Type 0
GoesAgain y clock s y' = ChecksOn (record y { fate = fate.Running; movable = false }) clock 0 s y'

-- an attempt of the task a that has gone on with nothing read
pub record Begins (l : Listing) (a : TaskId) (rv : ℕ) (y : Trial) (s : Seen) : Type 0 where
  pub task : y.task ≡ a
  pub number : y.rv ≡ rv
  pub log : y.attempt.log ≡ []
  pub loads : y.loads ≡ loads.Nothing
  pub movable : y.movable ≡ false
  pub check : y.check ≡ None
  pub kept : TrialKept l y
  pub fate : y.fate ≡ answer_fate y.at fate.Running
  pub seen : s ≡ answer_seen y.at
  pub short : NeedsNoMemory (task_program l a) → y.at ≢ next.Memory
