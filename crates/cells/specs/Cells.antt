-- Whose cells these are.
use Rattle.std.specs.Prelude.{ℕ, Bool}
use Rattle.atomic_table.specs.Seated.{TableId}

-- the shared words, by their name, how many variables they have, and whether there may be passes of them
pub record CellsId : Type 0 where
  pub table : TableId
  pub variables : ℕ
  pub are_read : Bool
