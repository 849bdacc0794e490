use Rattle.std.proofs.Common.{◌≡◌, length}
use Rattle.std.specs.Prelude.{codes}
use Rattle.text_line_reader.specs.Lines.{lines}
use Rattle.text_line_reader.specs.Rows.{all_at}
use Rattle.text_line_reader.specs.ReportReading.{entry_in}
use Rattle.text_line_reader.specs.ReportView.{view_entries}
use Rattle.text_line_reader.proofs.Rows.{with_front}
use Rattle.text_line_reader.proofs.report.shape.entries_at.Given as goal

abbrev pub invariant-entries : goal.invariant-entries
invariant-entries l = with_front (view_entries l.entries.items) (all_at (codes "entry") (entry_in l.fn.cells) (lines l.rest)) ≡ all_at (codes "entry") (entry_in l.fn.cells) (lines l.fn.bytes)

abbrev pub decreases-entries : goal.decreases-entries
decreases-entries l = length l.rest
