-- A row of bits in words of 64, and the row above it.
use Rattle.std.specs.Prelude.{◌≡◌, ◌≢◌, ℕ, ◌-◌, ◌*◌, min, ◌/◌, ◌%◌, ◌^◌, ◌<◌, ◌≤◌, Bool, true, false, nat_eq, List, slice_index, slice_set, bit_and, bit_or}
use Rattle.std.specs.Int.{bit_at, bit_not, w64}

-- bit k of the row
unfoldable pub has : List ℕ → ℕ → Bool
has words k = nat_eq (bit_at (slice_index words (k / 64)) (k % 64)) 1

unfoldable pub with_bit : List ℕ → ℕ → List ℕ
with_bit words k = slice_set words (k / 64) (bit_or (slice_index words (k / 64)) (2 ^ (k % 64)))

unfoldable pub without_bit : List ℕ → ℕ → List ℕ
without_bit words k = slice_set words (k / 64) (bit_and (slice_index words (k / 64)) (bit_not w64 (2 ^ (k % 64))))

-- bit w of the row above is set exactly where word w of the row below is not 0
pub record Covers (above below : List ℕ) : Type 0 where
  pub set : (w : ℕ) → has above w ≡ true → slice_index below w ≢ 0
  pub clear : (w : ℕ) → has above w ≡ false → slice_index below w ≡ 0

pub record IsFirstWord (words : List ℕ) (w : ℕ) : Type 0 where
  pub here : slice_index words w ≢ 0
  pub before : (k : ℕ) → k < w → slice_index words k ≡ 0

pub record IsFirstBit (words : List ℕ) (b : ℕ) : Type 0 where
  pub here : has words b ≡ true
  pub before : (k : ℕ) → k < b → has words k ≡ false

-- no bit of its word is set from this one on
abbrev pub IsBareFrom : List ℕ → ℕ → Type 0
IsBareFrom words from = slice_index words (from / 64) / 2 ^ (from % 64) ≡ 0

-- the first bit that is set from this one on
pub record IsNextBit (words : List ℕ) (from b : ℕ) : Type 0 where
  pub here : has words b ≡ true
  pub behind : from ≤ b
  pub before : (k : ℕ) → from ≤ k → k < b → has words k ≡ false

-- no bit is set from this one on
abbrev pub HasNoBitFrom : List ℕ → ℕ → Type 0
HasNoBitFrom words from = (k : ℕ) → from ≤ k → has words k ≡ false

-- the first so many bits of the row are set, and no other
abbrev pub AreFirst : ℕ → List ℕ → Type 0
AreFirst count words = (w : ℕ) → slice_index words w ≡ 2 ^ min (count - w * 64) 64 - 1
