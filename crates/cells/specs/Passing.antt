-- What a caller sees of a pass: its cells, whether it is open, and what it has loaded.
use Rattle.std.specs.Prelude.{◌≡◌, ℕ, ◌+◌, ◌*◌, ◌≤◌, Bool, false, true, List, length, ℤ}
use Rattle.atomic_table.specs.Seated.{TableId}
use Rattle.txn_words.specs.Words.{state_of, StartsWith}
use Rattle.txn_words.specs.Stores.{Change}
use Rattle.txn_words.specs.Loads.{PassRecord, enrolled}
use Rattle.cells.specs.Cells.{CellsId}

pub record Passing : Type 0 where
  pub cells : CellsId
  pub open_now : Bool
  -- the states that it knows of, a beginning of the history
  pub seen : List (List ℤ)
  -- how often it loaded the clock, and how often another word
  pub clock_loads : ℕ
  pub word_loads : ℕ
  -- what the clock load of the last begin or extension gave
  pub rv : ℕ
  -- the variable and the loads of the last read since that load
  pub variable : ℕ
  pub loads : List ℕ

abbrev pub passing : TableId → Bool → PassRecord → Passing
passing table b r = record {
  cells = record { table = table; variables = length (state_of r.seen r.rv); are_read = true };
  open_now = b;
  seen = r.seen;
  clock_loads = r.clock_loads;
  word_loads = r.word_loads;
  rv = r.rv;
  variable = r.variable;
  loads = r.loads;
}

-- a pass that was told of the history h, and has loaded nothing
abbrev pub new_pass : TableId → List (List ℤ) → Passing
new_pass table h = passing table false (enrolled h)

-- the state of the last begin or extension
abbrev pub at : Passing → List ℤ
at p = state_of p.seen p.rv

-- A begin is one load of the clock. The pass is open, sees a history that begins with what it saw, and is at that
-- history's last state, whose number the load gave.
pub record BeginsBy (p q : Passing) : Type 0 where
  pub cells : q.cells ≡ p.cells
  pub is_open : q.open_now ≡ true
  pub seen : StartsWith q.seen p.seen
  pub clock_loads : q.clock_loads ≡ p.clock_loads + 1
  pub word_loads : q.word_loads ≡ p.word_loads
  pub rv : length q.seen ≡ q.rv + 1

-- A read of x changes only the record of the last read, and whether the pass is open. Its loads are at most three.
pub record ReadsBy (p q : Passing) (x : ℕ) : Type 0 where
  pub cells : q.cells ≡ p.cells
  pub seen : q.seen ≡ p.seen
  pub clock_loads : q.clock_loads ≡ p.clock_loads
  pub word_loads : q.word_loads ≡ p.word_loads + length q.loads
  pub rv : q.rv ≡ p.rv
  pub variable : q.variable ≡ x
  pub few : length q.loads ≤ 3

-- An extension by a log is one load of the clock, and at most three loads for each pair. The pass sees a history that
-- begins with what it saw, and is at that history's last state, whose number the clock's load gave.
pub record ExtendsBy (p q : Passing) (log : List Change) : Type 0 where
  pub cells : q.cells ≡ p.cells
  pub seen : StartsWith q.seen p.seen
  pub clock_loads : q.clock_loads ≡ p.clock_loads + 1
  pub word_loads : q.word_loads ≤ p.word_loads + 3 * length log
  pub rv : length q.seen ≡ q.rv + 1

-- A meeting shows the pass the history h by one load of the clock, and closes it. The last begin or extension and the
-- last read stay.
pub record MeetsBy (p q : Passing) (h : List (List ℤ)) : Type 0 where
  pub cells : q.cells ≡ p.cells
  pub is_closed : q.open_now ≡ false
  pub seen : q.seen ≡ h
  pub extends : StartsWith h p.seen
  pub clock_loads : q.clock_loads ≡ p.clock_loads + 1
  pub word_loads : q.word_loads ≡ p.word_loads
  pub rv : q.rv ≡ p.rv
  pub last_read : (q.variable ≡ p.variable) × (q.loads ≡ p.loads)
