-- What a reader has loaded: the clock when it begins, and for a read the version word, the value word, and the version
-- word again.
use Rattle.std.specs.Prelude.{◌≡◌, ◌≢◌, ◌⊎◌, ℕ, ◌+◌, ◌*◌, ◌%◌, ◌<◌, ◌≤◌, List, [], ◌∷◌, ◌++◌, length, slice_index, ℤ}
use Rattle.std.specs.Int.{w64, cast_signed}
use Rattle.txn_words.specs.Words.{state_value, state_of, version_word, value_word, StartsWith}

-- It is changed by the reader's own loads alone.
pub record PassRecord : Type 0 where
  -- the states that the reader knows of, a beginning of the history
  pub seen : List (List ℤ)
  -- how often it loaded the clock, and how often another word
  pub clock_loads : ℕ
  pub word_loads : ℕ
  -- what the clock load of the last begin or extend gave
  pub rv : ℕ
  -- the variable and the loads of the last read since that begin or extend
  pub variable : ℕ
  pub loads : List ℕ

-- a reader that was told of the history h, and has loaded nothing
abbrev pub enrolled : List (List ℤ) → PassRecord
enrolled h = record { seen = h; clock_loads = 0; word_loads = 0; rv = 0; variable = 0; loads = [] }

-- the clock load of a begin, when the history was h, gave n
abbrev pub begun : List (List ℤ) → ℕ → PassRecord → PassRecord
begun h n r = record r { seen = h; clock_loads = r.clock_loads + 1; rv = n; loads = [] }

-- the first load of a read of x gave n
abbrev pub sampled : ℕ → ℕ → PassRecord → PassRecord
sampled x n r = record r { word_loads = r.word_loads + 1; variable = x; loads = n ∷ [] }

-- the next load of the read gave n
abbrev pub loaded : ℕ → PassRecord → PassRecord
loaded n r = record r { word_loads = r.word_loads + 1; loads = r.loads ++ n ∷ [] }

-- the reader was told of the history h by a load of the clock
abbrev pub met : List (List ℤ) → PassRecord → PassRecord
met h r = record r { seen = h; clock_loads = r.clock_loads + 1 }

-- the value of x in the state of the last begin or extend
abbrev pub seen_value : PassRecord → ℕ → ℤ
seen_value r x = state_value (state_of r.seen r.rv) x

-- the loads of a read show why it is stale: the first sampling was locked, or later than rv, or the two samplings differ
abbrev pub ShowsStale : ℕ → List ℕ → Type 0
ShowsStale rv [] = ⊥
ShowsStale rv (first ∷ more) = (first % 2 ≡ 1) ⊎ (2 * rv < first) ⊎ ((length more ≡ 2) × (slice_index more 1 ≢ first))

-- the value that was loaded, if there is one, is z
abbrev pub LoadedIs : ℤ → List ℕ → Type 0
LoadedIs z [] = Unit {0}
LoadedIs z (value ∷ more) = cast_signed w64 value ≡ z

-- Of the variable that was read last, whose words are now `version` and `value`, and whose value in the state rv is z:
-- the version word is not below what the reader loaded of it; and where the first sampling is free and no later than
-- rv, either the version word is greater now,
-- or the value word, and the value that was loaded if there is one, is z.
abbrev pub SamplingHolds : ℕ → ℕ → ℕ → ℤ → List ℕ → Type 0
SamplingHolds version value rv z [] = Unit {0}
SamplingHolds version value rv z (first ∷ more) =
    (first ≤ version)
    × (slice_index more 1 ≤ version)
    × (first % 2 ≡ 0 → first ≤ 2 * rv → (first < version) ⊎ ((cast_signed w64 value ≡ z) × LoadedIs z more))

-- What a reader knows while the words are these and the history is h.
pub record ReaderHolds (words : List ℕ) (h : List (List ℤ)) (r : PassRecord) : Type 0 where
  pub seen : StartsWith h r.seen
  pub began : r.rv < length r.seen
  pub sampling : SamplingHolds (slice_index words (version_word r.variable)) (slice_index words (value_word r.variable))
      r.rv (seen_value r r.variable) r.loads
