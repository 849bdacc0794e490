-- What the shared words mean: a clock, and for each variable a version word and a value word.
-- Word 0 is the clock. Word 2 x + 1 is the version word of the variable x, and word 2 x + 2 its value word, as the 64
-- bits of a signed number.
use Rattle.std.specs.Prelude.{◌≡◌, ◌≢◌, ℕ, ◌+◌, ◌-◌, ◌*◌, ◌<◌, ◌≤◌, Bool, false, if◌then◌else◌, List, [], ◌++◌, length, slice_index, slice_index_or, ℤ, pos}
use Rattle.std.specs.Int.{w64, cast_signed}

-- A state has a value for each variable. A history is the list of its states, the oldest first: the state of number n
-- is the one at place n.
abbrev pub state_value : List ℤ → ℕ → ℤ
state_value m x = slice_index_or m x (pos 0)

abbrev pub state_of : List (List ℤ) → ℕ → List ℤ
state_of h n = slice_index_or h n []

abbrev pub last_state : List (List ℤ) → List ℤ
last_state h = state_of h (length h - 1)

-- the history h begins with s
abbrev pub StartsWith : List (List ℤ) → List (List ℤ) → Type 0
StartsWith h s = (rest : List (List ℤ)) × (h ≡ s ++ rest)

-- v is the number of the last state at which x changed, 0 if it never did
pub record IsLastChange (h : List (List ℤ)) (x v : ℕ) : Type 0 where
  pub within : v < length h
  pub since : (n : ℕ) → v ≤ n → n < length h → state_value (state_of h n) x ≡ state_value (state_of h v) x
  pub changed : 0 < v → state_value (state_of h v) x ≢ state_value (state_of h (v - 1)) x

abbrev pub version_word : ℕ → ℕ
version_word x = 2 * x + 1

abbrev pub value_word : ℕ → ℕ
value_word x = 2 * x + 2

-- What the one that commits has stored. A commit is pending from its first store to its last.
pub record Commit : Type 0 where
  -- each state, the oldest first: a state is added when the clock moves
  pub history : List (List ℤ)
  -- the number that each value word holds
  pub values : List ℤ
  -- the number of the last state at which each variable changed; for a locked one the last before the pending commit
  pub versions : List ℕ
  -- whether each version word has its lock bit
  pub locked : List Bool
  -- whether a value was stored that is in no state yet
  pub storing : Bool
  -- whether a lock was taken after a value was stored and before the clock moved, which is never to be
  pub late : Bool
  -- how many words were stored so far
  pub stores : ℕ

-- Of the variable x: its version word is `stamp`, its value word `bits`; the commit has it `locked` or not, keeps the
-- number `at` for it, and stored the value `now` last. The version word is twice that number, and odd exactly where x is
-- locked. Of a free variable it is the number of the last change, and the value word is its value in the last state.
pub record VariableMeans (stamp bits at : ℕ) (locked : Bool) (now : ℤ) (h : List (List ℤ)) (x : ℕ) : Type 0 where
  pub version : stamp ≡ 2 * at + (if locked then 1 else 0)
  pub value : cast_signed w64 bits ≡ now
  pub free : locked ≡ false → IsLastChange h x at × (now ≡ state_value (last_state h) x)

-- The clock is the number of the last state, and each other word holds what the commit stored there last.
-- Unless a value is stored that is in no state yet, every value word, also of a locked variable, is in the last state.
pub record WordsMean (words : List ℕ) (c : Commit) : Type 0 where
  pub wide : length words ≡ 2 * length c.values + 1
  pub sized : (length c.versions ≡ length c.values) × (length c.locked ≡ length c.values)
  pub clock : slice_index words 0 + 1 ≡ length c.history
  pub states : (n : ℕ) → n < length c.history → length (state_of c.history n) ≡ length c.values
  pub in_order : c.late ≡ false
  pub settled : c.storing ≡ false → c.values ≡ last_state c.history
  pub each : (x : ℕ) → x < length c.values
      → VariableMeans (slice_index words (version_word x)) (slice_index words (value_word x)) (slice_index c.versions x)
      (slice_index_or c.locked x false) (state_value c.values x) c.history x
