use Rattle.std.proofs.Common.{arith}
use Rattle.text_line_reader.proofs.CellPlaces.{place_known, few_spans}
use Rattle.stm_c.proofs.reading.table.Goals as goal

pub overflow_cast-place : goal.overflow_cast-place
overflow_cast-place c =
    let l = c.args.catalogue.now in
    let lt = place_known l c.in-Ok.name.now c.in-Some.place c.in-Some.ensures in
    let few = few_spans l c.rules.ensures.limits in
    omega (arith, lt, few)
