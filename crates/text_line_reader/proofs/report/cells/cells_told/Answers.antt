use Rattle.std.proofs.Common.{◌≡◌, ◌++◌, ◌∷◌, []}
use Rattle.text_line_reader.specs.ReportResolving.{cell_told}
use Rattle.text_line_reader.specs.ReportView.{view_cell}
use Rattle.text_line_reader.proofs.Each.{loop_more}
use Rattle.text_line_reader.proofs.report.cells.cells_told.Goals as goal

pub cells-preserved : goal.cells-preserved
cells-preserved c =
    let made = c.cells.made.items in
    let told = c.in_ok-cell_told.field-0 in
    let e : c.push.new.self.items ≡ made ++ told ∷ [] = c.in_ok-push.ensures.items in
    rw e (loop_more (cell_told c.args.catalogue.now) view_cell made c.args.cells.now c.cells.c-index c.c-item.result told _ c.cells-test.true c.c-item.is c.in_ok-cell_told.ensures.value c.cells.invariant)
