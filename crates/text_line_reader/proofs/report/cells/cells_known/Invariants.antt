use Rattle.std.proofs.Common.{◌≡◌, drop}
use Rattle.text_line_reader.specs.ReportResolving.{in_order}
use Rattle.text_line_reader.specs.ReportView.{view_cells}
use Rattle.text_line_reader.proofs.report.cells.cells_known.Given as goal

abbrev pub invariant-cells : goal.invariant-cells
invariant-cells l = in_order l.catalogue l.least (view_cells (drop l.c-index l.cells)) ≡ in_order l.catalogue 0 (view_cells l.cells)
