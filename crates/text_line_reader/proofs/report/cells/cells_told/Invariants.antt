use Rattle.std.proofs.Common.{◌≡◌, drop}
use Rattle.text_line_reader.specs.Rows.{each}
use Rattle.text_line_reader.specs.ReportResolving.{cell_told}
use Rattle.text_line_reader.specs.ReportView.{view_cells}
use Rattle.text_line_reader.proofs.Each.{joined}
use Rattle.text_line_reader.proofs.report.cells.cells_told.Given as goal

abbrev pub invariant-cells : goal.invariant-cells
invariant-cells l = joined l.made.items (each (cell_told l.catalogue) (view_cells (drop l.c-index l.cells))) ≡ each (cell_told l.catalogue) (view_cells l.cells)
