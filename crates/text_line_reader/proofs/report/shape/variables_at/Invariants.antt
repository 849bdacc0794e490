use Rattle.std.proofs.Common.{◌≡◌, ◌-◌}
use Rattle.text_line_reader.specs.Lines.{lines}
use Rattle.text_line_reader.specs.Rows.{lines_at}
use Rattle.text_line_reader.specs.ReportReading.{variable_in}
use Rattle.text_line_reader.specs.ReportView.{view_variables}
use Rattle.text_line_reader.proofs.Rows.{with_front}
use Rattle.text_line_reader.proofs.report.shape.variables_at.Given as goal

abbrev pub invariant-variables : goal.invariant-variables
invariant-variables l = with_front (view_variables l.variables.items) (lines_at variable_in (l.count - l._place) (lines l.rest)) ≡ lines_at variable_in l.count (lines l.fn.bytes)
