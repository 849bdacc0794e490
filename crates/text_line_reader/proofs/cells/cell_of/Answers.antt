use Rattle.std.proofs.Common.{arith}
use Rattle.text_line_reader.proofs.Numbers.{below_gives}
use Rattle.text_line_reader.proofs.CellPlaces.{cell_of_number, no_cell_of}
use Rattle.text_line_reader.proofs.cells.cell_of.Goals as goal

pub overflow_cast-result : goal.overflow_cast-result
overflow_cast-result c =
    let lt = (below_gives _ _ c.in-Ok.number c.in-Ok.ensures.value).1 in
    omega (arith, lt, c.requires)

pub overflow_add-result : goal.overflow_add-result
overflow_add-result c =
    let lt = (below_gives _ _ c.in-Ok.number c.in-Ok.ensures.value).1 in
    omega (arith, lt, c.requires)

pub returns-in-Ok : goal.returns-in-Ok
returns-in-Ok c = cell_of_number c.args.span _ c.in-Ok.number c.in-Ok.ensures.value

pub returns-in-Err : goal.returns-in-Err
returns-in-Err c = no_cell_of c.args.span _ c.in-Err.field-0 c.in-Err.ensures.kind c.in-Err.ensures.value
