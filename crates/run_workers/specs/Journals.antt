-- How short a run keeps its journal.
use Rattle.std.specs.Prelude.{◌≡◌, ℕ, ◌%◌, ◌<◌, length}
use Rattle.txn_programs.specs.Told.{Told}

-- of a base with so many entries behind it, where the base moves after each `every` entries, 0 for never
pub record IsShort (every base count : ℕ) : Type 0 where
  pub never : every ≡ 0 → base ≡ 0
  pub fewer : 0 < every → count < every
  pub whole : 0 < every → base % every ≡ 0

-- the journal of a report is so short
abbrev pub KeepsShort : ℕ → Told → Type 0
KeepsShort every r = IsShort every r.base (length r.entries)
