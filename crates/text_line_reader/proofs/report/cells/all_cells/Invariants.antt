use Rattle.std.proofs.Common.{◌≡◌, length}
use Rattle.text_line_reader.specs.Lines.{lines}
use Rattle.text_line_reader.specs.Rows.{all_by}
use Rattle.text_line_reader.specs.Words.{is_bracketed}
use Rattle.text_line_reader.specs.ReportReading.{cell_line_in}
use Rattle.text_line_reader.specs.ReportView.{view_cells}
use Rattle.text_line_reader.proofs.Rows.{with_front}
use Rattle.text_line_reader.proofs.report.cells.all_cells.Given as goal

abbrev pub invariant-cells : goal.invariant-cells
invariant-cells l = with_front (view_cells l.cells.items) (all_by is_bracketed cell_line_in (lines l.rest)) ≡ all_by is_bracketed cell_line_in (lines l.fn.bytes)

abbrev pub decreases-cells : goal.decreases-cells
decreases-cells l = length l.rest
