-- What each load and store tells its thread: kinds 1 to 4 are the loads of a reader, 5 to 8 the
-- stores of the publisher, and 9 is its one load. In each, s is the step, n the word that was loaded or stored, and m and m' the seat before
-- and after.
use Rattle.std.specs.Prelude.{◌≡◌, ℕ, ◌+◌, ◌-◌, ◌*◌, ◌%◌, ◌/◌, ◌<◌, ◌≤◌, false, if◌then◌else◌, List, [], ◌∷◌, length, slice_index, slice_index_or, ℤ}
use Rattle.std.specs.Int.{w64, cast_signed}
use Rattle.atomic_table.specs.Table.{Me, Step}
use Rattle.txn_words.specs.Words.{Commit, state_of, last_state, StartsWith}
use Rattle.txn_words.specs.Stores.{after_lock, after_value, after_clock, after_release}
use Rattle.txn_words.specs.Loads.{PassRecord, begun, sampled, loaded, met, seen_value}
use Rattle.cells.specs.Sight.{Sight, publishing, reading, meeting}

-- a seat, with the slots that it holds: here none
abbrev pub Seated : Type 0
Seated = Me Unit Sight

-- 1. LoadClock, for a begin: n is the number of the last state of some history h, which begins with all that was seen
-- before
abbrev pub begins : Step Unit → Seated → ℕ → Seated → Type 0
begins s m n m' = (r : PassRecord) → m.0 ≡ reading r
    → (h : List (List ℤ)) × (m'.0 ≡ reading (begun h n r)) × StartsWith h r.seen × (length h ≡ n + 1)
    × (length (last_state h) ≡ length (state_of r.seen r.rv))

-- 1. LoadClock, for a meeting: the reader's record, which lies in the publisher's seat, gets the publisher's whole
-- history, which begins with all that was seen before
abbrev pub meets : Step Unit → Seated → ℕ → Seated → Type 0
meets s m n m' = (c : Commit) (r : PassRecord) → m.0 ≡ meeting c r
    → (m'.0 ≡ meeting c (met c.history r)) × StartsWith c.history r.seen × (r.rv < length r.seen)

-- 2. LoadVersion: a version word is loaded
abbrev pub samples : Step Unit → Seated → ℕ → Seated → Type 0
samples s m n m' = (r : PassRecord) → m.0 ≡ reading r → m'.0 ≡ reading (sampled (s.word / 2) n r)

-- 3. LoadValue: a value word is loaded
abbrev pub loads_value : Step Unit → Seated → ℕ → Seated → Type 0
loads_value s m n m' = (r : PassRecord) → m.0 ≡ reading r → m'.0 ≡ reading (loaded n r)

-- 4. LoadVersionAgain: the version word is loaded again. Where both samplings are n, free and no later than rv, the
-- value that was loaded between them is that in the state rv
abbrev pub samples_again : Step Unit → Seated → ℕ → Seated → Type 0
samples_again s m n m' = (r : PassRecord) → m.0 ≡ reading r
    → (m'.0 ≡ reading (loaded n r))
    × ((value : ℕ) → r.loads ≡ n ∷ value ∷ [] → n % 2 ≡ 0 → n ≤ 2 * r.rv
    → cast_signed w64 value ≡ seen_value r r.variable)

-- a store of the publisher, that changes what was stored by `f`
abbrev pub Moves : (Commit → Commit) → Seated → Seated → Type 0
Moves f m m' = (c : Commit) → m.0 ≡ publishing c → m'.0 ≡ publishing (f c)

-- 5. LockVersion: a version word gets its lock bit
abbrev pub locks : Step Unit → Seated → ℕ → Seated → Type 0
locks s m n m' = Moves (after_lock (s.word / 2)) m m'

-- 6. StoreValue: a value word gets a value
abbrev pub stores_value : Step Unit → Seated → ℕ → Seated → Type 0
stores_value s m n m' = Moves (after_value ((s.word - 1) / 2) (cast_signed w64 s.first)) m m'

-- 7. StoreClock: the clock moves
abbrev pub stores_clock : Step Unit → Seated → ℕ → Seated → Type 0
stores_clock s m n m' = Moves after_clock m m'

-- 8. ReleaseVersion: a version word gets the last number, and no lock bit
abbrev pub releases : Step Unit → Seated → ℕ → Seated → Type 0
releases s m n m' = Moves (after_release (s.word / 2)) m m'

-- 9. LoadOwnVersion: a version word is loaded, which is what the publisher stored there last
abbrev pub loads_own : Step Unit → Seated → ℕ → Seated → Type 0
loads_own s m n m' =
    (m'.0 ≡ m.0)
    × ((c : Commit) → m.0 ≡ publishing c
    → n ≡ 2 * slice_index c.versions (s.word / 2) + (if slice_index_or c.locked (s.word / 2) false then 1 else 0))
