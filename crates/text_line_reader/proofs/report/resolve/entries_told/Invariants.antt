use Rattle.std.proofs.Common.{◌≡◌, drop}
use Rattle.text_line_reader.specs.Rows.{each}
use Rattle.text_line_reader.specs.ReportResolving.{entry_told}
use Rattle.text_line_reader.specs.ReportView.{view_entries}
use Rattle.text_line_reader.proofs.Each.{joined}
use Rattle.text_line_reader.proofs.report.resolve.entries_told.Given as goal

abbrev pub invariant-entries : goal.invariant-entries
invariant-entries l = joined l.made.items (each (entry_told l.catalogue) (view_entries (drop l.e-index l.entries))) ≡ each (entry_told l.catalogue) (view_entries l.entries)
