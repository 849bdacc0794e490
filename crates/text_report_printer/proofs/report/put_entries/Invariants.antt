use Rattle.std.proofs.Common.{◌≡◌, ◌≤◌, ◌+◌, ◌*◌, ◌++◌, take, string_bytes}
use Rattle.std.specs.Prelude.{string_len, string_capacity}
use Rattle.std.specs.List.{flat_map}
use Rattle.text_report_printer.specs.ReportFits.{OutcomesFit}
use Rattle.text_report_printer.specs.ReportText.{entry_line}
use Rattle.text_report_printer.proofs.report.put_entries.Given as goal

abbrev pub invariant-entries : goal.invariant-entries
invariant-entries l = record {
  text : string_bytes l.out ≡ string_bytes l.fn.out ++ flat_map (entry_line l.catalogue) (take l.entry-index l.entries);
  fits : OutcomesFit (take l.entry-index l.entries);
  len : string_len l.out ≤ string_len l.fn.out + 128 * l.entry-index;
  capacity : string_capacity l.fn.out ≤ string_capacity l.out;
}
