use Rattle.std.proofs.Common.{length, ap, arith}
use Rattle.text_line_reader.proofs.CellPlaces.{place_known, few_spans, span_inside}
use Rattle.text_line_reader.proofs.cells.cell_named.Goals as goal

pub offset_bounds-tables-place : goal.offset_bounds-tables-place
offset_bounds-tables-place c =
    let l = c.args.catalogue.now in
    let lt = place_known l c.args.table.now c.in-Some.place c.in-Some.ensures in
    let few = few_spans l c.rules.ensures.limits in
    omega (arith, lt, few)

pub bounds-tables-place : goal.bounds-tables-place
bounds-tables-place c =
    let lt = place_known c.args.catalogue.now c.args.table.now c.in-Some.place c.in-Some.ensures in
    let same = ap length c.requires in
    omega (arith, lt, same)

pub cell_of-requires : goal.cell_of-requires
cell_of-requires c = span_inside c.args.catalogue.now c.args.tables.now c.in-Some.place c.rules.ensures.limits c.requires
