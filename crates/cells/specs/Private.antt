-- What the private parts of the cells say to one another.
use Rattle.std.specs.Prelude.{◌≡◌, ℕ, ◌+◌, ◌*◌, ◌%◌, ◌<◌, ◌≤◌, Bool, true, false, List, [], ◌∷◌, fold, length, slice_index, slice_index_or, slice_set, ℤ}
use Rattle.std.specs.Int.{w64, cast_signed}
use Rattle.atomic_table.specs.Seated.{TableId}
use Rattle.atomic_table.specs.declared.shared.Seat.{Seat}
use Rattle.txn_words.specs.Words.{Commit, state_value, state_of, last_state, version_word, value_word, StartsWith}
use Rattle.txn_words.specs.Stores.{Change, id_of, with_changes}
use Rattle.txn_words.specs.Loads.{PassRecord, begun, loaded, seen_value}
use Rattle.cells.specs.Cells.{CellsId}
use Rattle.cells.specs.Sight.{Sight, publishing, reading, commit_of, record_of}

abbrev pub CellsSeat : Type 0
CellsSeat = Seat Unit Sight

-- the publisher's seat
abbrev pub IsPublisher : CellsSeat → Type 0
IsPublisher p = p.me.0 ≡ publishing (commit_of p.me.0)

-- the publisher's seat at the table z
abbrev pub IsSeated : CellsSeat → TableId → Type 0
IsSeated p z = (p.table_id ≡ z) × (p.me.0 ≡ publishing (commit_of p.me.0))

-- a reader's seat
abbrev pub IsReader : CellsSeat → Type 0
IsReader p = p.me.0 ≡ reading (record_of p.me.0)

-- the cells that a reader's seat is of
abbrev pub reader_cells : CellsSeat → CellsId
reader_cells p = record { table = p.table_id; variables = length (state_of (record_of p.me.0).seen (record_of p.me.0).rv); are_read = true }

-- a reader's seat, at a clock load that gave rv
abbrev pub IsReading : CellsSeat → ℕ → Type 0
IsReading p rv = (p.me.0 ≡ reading (record_of p.me.0)) × ((record_of p.me.0).rv ≡ rv) × (rv < length (record_of p.me.0).seen)

abbrev pub IsSameSeat : CellsSeat → CellsSeat → Type 0
IsSameSeat p q = (q.table_id ≡ p.table_id) × (q.id ≡ p.id)

-- what a load of the clock tells: n is the number of the last state of some history h, which begins with all that the
-- seat p knew, and which the seat q knows
abbrev pub HasBegun : CellsSeat → CellsSeat → ℕ → Type 0
HasBegun p q n = let r = record_of p.me.0 in
    (h : List (List ℤ)) × (q.me.0 ≡ reading (begun h n r)) × StartsWith h r.seen × (length h ≡ n + 1)
    × (length (last_state h) ≡ length (state_of r.seen r.rv))

-- what loading the version word again tells: where both times it was n, free and no later than rv, the value that was
-- loaded between is that in the state rv
abbrev pub HasSampled : CellsSeat → CellsSeat → ℕ → Type 0
HasSampled p q n = let r = record_of p.me.0 in
    (q.me.0 ≡ reading (loaded n r))
    × ((value : ℕ) → r.loads ≡ n ∷ value ∷ [] → n % 2 ≡ 0 → n ≤ 2 * r.rv → cast_signed w64 value ≡ seen_value r r.variable)

-- the reader has loaded the version word of x, and nothing since
abbrev pub HasVersion : PassRecord → ℕ → Type 0
HasVersion r x = (r.variable ≡ x) × ((first : ℕ) × (r.loads ≡ first ∷ []))

-- and then its value word, and nothing since
abbrev pub HasValue : PassRecord → ℕ → Type 0
HasValue r x = (r.variable ≡ x) × ((first : ℕ) × (value : ℕ) × (r.loads ≡ first ∷ value ∷ []))

-- the lock bits, with that of each change's variable
abbrev pub locked_by : Bool → List Bool → List Change → List Bool
locked_by b l changes = fold (λ (l : List Bool) (c : Change). slice_set l c.0.0 b) l changes

-- the versions, with n for each change's variable
abbrev pub numbered_by : ℕ → List ℕ → List Change → List ℕ
numbered_by n l changes = fold (λ (l : List ℕ) (c : Change). slice_set l c.0.0 n) l changes

-- what was stored once each change's variable is locked
abbrev pub all_locked : List Change → Commit → Commit
all_locked changes c = record c { locked = locked_by true c.locked changes; stores = c.stores + length changes }

-- and once each new value is stored; b says whether there was one
abbrev pub all_stored : Bool → List Change → Commit → Commit
all_stored b changes c = record c { values = with_changes c.values changes; storing = b; stores = c.stores + length changes }

-- and once each variable is released, with the number n
abbrev pub all_released : ℕ → List Change → Commit → Commit
all_released n changes c = record c {
  locked = locked_by false c.locked changes;
  versions = numbered_by n c.versions changes;
  stores = c.stores + length changes;
}

-- each change's variable exists, and is locked
abbrev pub AreLocked : Commit → List Change → Type 0
AreLocked c changes = (i : ℕ) → i < length changes
    → (id_of changes i < length c.values) × (slice_index_or c.locked (id_of changes i) false ≡ true)

-- the words at the start: the clock and the versions are 0, and the first k values are those of m
pub record AreFirstWords (m : List ℤ) (words : List ℕ) (k : ℕ) : Type 0 where
  pub wide : length words ≡ 2 * length m + 1
  pub clock : slice_index words 0 ≡ 0
  pub versions : (x : ℕ) → slice_index words (version_word x) ≡ 0
  pub values : (x : ℕ) → x < k → cast_signed w64 (slice_index words (value_word x)) ≡ state_value m x
