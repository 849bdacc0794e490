-- What a caller sees of the publisher: its cells, and the history of the states that it published.
use Rattle.std.specs.Prelude.{◌≡◌, ℕ, ◌+◌, ◌*◌, ◌<◌, ◌≤◌, Bool, false, true, if◌then◌else◌, List, filter, not, length, slice_index, slice_index_or, ℤ}
use Rattle.std.specs.Ordering.{int_eq}
use Rattle.atomic_table.specs.Seated.{TableId}
use Rattle.txn_words.specs.Words.{Commit, state_value, last_state}
use Rattle.txn_words.specs.Stores.{Change, id_of}
use Rattle.cells.specs.Cells.{CellsId}

pub record Publishing : Type 0 where
  pub cells : CellsId
  -- each state, the oldest first
  pub history : List (List ℤ)
  -- how many words the publisher has stored
  pub stores : ℕ

-- the variables exist in the state m, and ascend
pub record AreWrites (m : List ℤ) (writes : List Change) : Type 0 where
  pub exist : (i : ℕ) → i < length writes → id_of writes i < length m
  pub ascend : (i j : ℕ) → i < j → j < length writes → id_of writes i < id_of writes j

-- whether the write's value is another than the one in the state m
abbrev pub is_change : List ℤ → Change → Bool
is_change m write = not (int_eq (state_value m write.0.0) write.1)

-- those of the writes that change the state m
abbrev pub changes_of : List ℤ → List Change → List Change
changes_of m writes = filter (is_change m) writes

-- how many words a publish of so many changes stores: none where nobody reads
abbrev pub stores_of : CellsId → ℕ → ℕ
stores_of z changes = if z.are_read then 3 * changes + 1 else 0

abbrev pub published : TableId → Commit → Publishing
published table c = record { cells = record { table = table; variables = length c.values; are_read = true }; history = c.history; stores = c.stores }

-- No commit is pending: no version word is locked, the value words are the last state, and `number` is its number.
pub record IsResting (c : Commit) (number : ℕ) : Type 0 where
  pub counted : number + 1 ≡ length c.history
  pub past : (x : ℕ) → slice_index c.versions x ≤ number
  pub free : (x : ℕ) → slice_index_or c.locked x false ≡ false
  pub in_order : c.late ≡ false
  pub settled : (c.storing ≡ false) × (c.values ≡ last_state c.history)
  pub sized : (length c.versions ≡ length c.values) × (length c.locked ≡ length c.values)

-- Nobody reads the cells z, and `number` is that of the last state of the history.
pub record IsUnread (z : CellsId) (history : List (List ℤ)) (number : ℕ) : Type 0 where
  pub unread : z.are_read ≡ false
  pub counted : number + 1 ≡ length history
