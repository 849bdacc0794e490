-- Which numbers are in a set of flags.
use Rattle.std.specs.Int.{bit_at}
use Rattle.std.specs.Prelude.{◌≡◌, ◌≢◌, ℕ, ◌+◌, ◌%◌, ◌<◌, ◌≤◌, ◌↔◌, Bool, true, List, Some, slice_get}

abbrev pub HasNone : List Bool → Type 0
HasNone set = (k : ℕ) → slice_get set k ≢ Some true

abbrev pub IsLowest : List Bool → ℕ → Type 0
IsLowest set n = (slice_get set n ≡ Some true) × ((k : ℕ) → k < n → slice_get set k ≢ Some true)

-- no number from this one on is in the set
abbrev pub HasNoneFrom : List Bool → ℕ → Type 0
HasNoneFrom set from = (k : ℕ) → from ≤ k → slice_get set k ≢ Some true

-- the lowest number of the set from this one on
pub record IsLowestFrom (set : List Bool) (from n : ℕ) : Type 0 where
  pub here : slice_get set n ≡ Some true
  pub behind : from ≤ n
  pub before : (k : ℕ) → from ≤ k → k < n → slice_get set k ≢ Some true

-- a word with a bit for each of 64 numbers from `first` on, a multiple of 64, whether it is in the set; one is, and no number before them
pub record IsLowestWord (set : List Bool) (first word : ℕ) : Type 0 where
  pub whole : first % 64 ≡ 0
  pub some : word ≢ 0
  pub bits : (i : ℕ) → i < 64 → (bit_at word i ≡ 1) ↔ (slice_get set (first + i) ≡ Some true)
  pub before : (k : ℕ) → k < first → slice_get set k ≢ Some true
