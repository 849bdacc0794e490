-- What a caller sees of cells that are lent or counted: which cells they are.
use Rattle.std.specs.Arc.{arc_value}
use Rattle.cells.specs.Cells.{CellsId}
use Rattle.cells.specs.declared.sharing.Held.{Held}
use Rattle.cells.specs.declared.sharing.Held.TheVariants.{Lent, Counted}

abbrev pub held_cells : Held → CellsId
held_cells (Lent cells) = cells.now
held_cells (Counted cells) = arc_value cells
