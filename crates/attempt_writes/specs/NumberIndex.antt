-- Numbers in buckets: the head of a bucket leads to its newest number, and a link from each to the one before it.
use Rattle.std.specs.Prelude.{◌≡◌, ◌≢◌, ◌<◌, ◌≤◌, ◌-◌, ℕ, List, Some, length, slice_get, slice_index, bit_and, max}

-- the number is not in the list
abbrev pub IsAbsent : List ℕ → ℕ → Type 0
IsAbsent numbers n = (k : ℕ) → slice_get numbers k ≢ Some n

-- the bucket of a number, by its low bits
abbrev pub bucket_of : ℕ → ℕ → ℕ
bucket_of buckets n = bit_and n (buckets - 1)

-- `at` is one more than the place of the newest of the first so many numbers in bucket b, or 0 where none is in it
pub record IsNewest (buckets : ℕ) (numbers : List ℕ) (count b at : ℕ) : Type 0 where
  pub within : at ≤ count
  pub here : 0 < at → bucket_of buckets (slice_index numbers (at - 1)) ≡ b
  pub no_newer : (k : ℕ) → at ≤ k → k < count → bucket_of buckets (slice_index numbers k) ≢ b

-- the head is one more than the place of the newest of the first so many numbers in the bucket of the number at k
pub record IsHead (buckets : ℕ) (numbers : List ℕ) (count k head : ℕ) : Type 0 where
  pub newer : k < head
  pub within : head ≤ count
  pub same : bucket_of buckets (slice_index numbers (head - 1)) ≡ bucket_of buckets (slice_index numbers k)

-- the heads of the buckets that the first so many numbers are in; a bucket with none of them may have any head
abbrev pub AreHeads : ℕ → List ℕ → ℕ → List ℕ → Type 0
AreHeads buckets numbers count heads =
    (k : ℕ) → k < count → IsHead buckets numbers count k (slice_index heads (bucket_of buckets (slice_index numbers k)))

-- a link from each of the first so many numbers to the one before it in its bucket
abbrev pub AreLinked : ℕ → List ℕ → ℕ → List ℕ → Type 0
AreLinked buckets numbers count links =
    (k : ℕ) → k < count → IsNewest buckets numbers k (bucket_of buckets (slice_index numbers k)) (slice_index links k)

-- the first so many numbers are found by heads and links, if there are heads
pub record IsFound (numbers : List ℕ) (count : ℕ) (heads links : List ℕ) : Type 0 where
  pub room : count ≤ max 8 (length heads)
  pub many : 0 < length heads → 8 ≤ length heads
  pub wide : length links ≡ length heads
  pub headed : 0 < length heads → AreHeads (length heads) numbers count heads
  pub linked : 0 < length heads → AreLinked (length heads) numbers count links
