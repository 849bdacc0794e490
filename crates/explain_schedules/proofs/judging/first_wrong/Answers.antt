use Rattle.std.proofs.Common.{length, arith}
use Rattle.text_line_reader.specs.Reports.{knows_cells}
use Rattle.explain_schedules.specs.Walking.{right_of, place_of, said_of}
use Rattle.explain_schedules.proofs.Walks.{begins_going, is_read, told_wrong, told_right, found_line, goes_on, none_left, wrong_within, read_by, stops_by}
use Rattle.explain_schedules.proofs.judging.first_wrong.Goals as goal

pub lines-init : goal.lines-init
lines-init c = begins_going c.args.catalogue.now (right_of c.args.catalogue.now c.args.judged) c.args.bytes.now c.requires.uneven

pub unreachable-requires : goal.unreachable-requires
unreachable-requires c =
    let l = c.args.catalogue.now in
    let wrong = c.in_default-line_of.field-0 in
    is_read l (right_of l c.args.judged) c.args.bytes.now c.lines.rest.now c.in-Some.line.now c.in-Some.after.now wrong.at wrong.wanted c.lines.invariant c.in-Some.ensures.some
    (stops_by c.knows_cells-cells.result (knows_cells l) c.in-Some.line.now wrong.at wrong.wanted c.knows_cells-cells.ensures c.in_default-line_of.ensures.stop)

pub returns-in-Some-wrong_in-clause-place : goal.returns-in-Some-wrong_in-clause-place
returns-in-Some-wrong_in-clause-place c =
    let l = c.args.catalogue.now in
    let judged = c.args.judged in
    let line = c.in-Ok.ensures.line in
    let at = c.in-Some-wrong_in.at in
    let finding = c.in-Some-wrong_in.finding in
    let told = told_wrong (right_of l judged line.raw) (place_of judged line.raw) (said_of l judged line.raw) c.wrong_in.result (at, finding) (c.wrong_in.ensures line.raw line.says) c.in-Some-wrong_in.is in
    found_line l (right_of l judged) (place_of judged) (said_of l judged) c.args.bytes.now c.lines.rest.now c.in-Some.line.now c.in-Some.after.now line.raw c.gone.result at finding
    c.lines.invariant c.in-Some.ensures.some (read_by c.knows_cells-cells.result (knows_cells l) c.in-Some.line.now line.raw c.knows_cells-cells.ensures line.read) told.not_so told.at_is told.finding_is c.gone.ensures

pub returns-in-Some-wrong_in-clause-bound : goal.returns-in-Some-wrong_in-clause-bound
returns-in-Some-wrong_in-clause-bound c =
    let line = c.in-Ok.ensures.line in
    wrong_within c.knows_cells-cells.result c.args.catalogue.now c.args.judged c.in-Some.line.now line.raw c.wrong_in.result (c.in-Some-wrong_in.at, c.in-Some-wrong_in.finding)
    c.gone.result (length c.in-Some.after.now) (length c.lines.rest.now) (length c.args.bytes.now) line.read (c.wrong_in.ensures line.raw line.says) c.in-Some-wrong_in.is c.in-Some.ensures.len c.gone.ensures

pub overflow_add-result : goal.overflow_add-result
overflow_add-result c =
    let line = c.in-Ok.ensures.line in
    let le = wrong_within c.knows_cells-cells.result c.args.catalogue.now c.args.judged c.in-Some.line.now line.raw c.wrong_in.result (c.in-Some-wrong_in.at, c.in-Some-wrong_in.finding)
    c.gone.result (length c.in-Some.after.now) (length c.lines.rest.now) (length c.args.bytes.now) line.read (c.wrong_in.ensures line.raw line.says) c.in-Some-wrong_in.is c.in-Some.ensures.len c.gone.ensures in
    let short = c.requires.uneven.written.short in
    omega (arith, le, short)

pub lines-preserved : goal.lines-preserved
lines-preserved c =
    let l = c.args.catalogue.now in
    let judged = c.args.judged in
    let line = c.in-Ok.ensures.line in
    goes_on l (right_of l judged) c.args.bytes.now c.lines.rest.now c.in-Some.line.now c.in-Some.after.now line.raw c.lines.invariant c.in-Some.ensures.some
    (read_by c.knows_cells-cells.result (knows_cells l) c.in-Some.line.now line.raw c.knows_cells-cells.ensures line.read)
    (told_right (right_of l judged line.raw) (place_of judged line.raw) (said_of l judged line.raw) c.wrong_in.result (c.wrong_in.ensures line.raw line.says) c.in_default-wrong_in.is)

pub unreachable-requires-2 : goal.unreachable-requires-2
unreachable-requires-2 c = none_left c.args.catalogue.now (right_of c.args.catalogue.now c.args.judged) c.args.bytes.now c.lines.rest.now c.lines.invariant (c.split_once.ensures.none c.in_default.is)
