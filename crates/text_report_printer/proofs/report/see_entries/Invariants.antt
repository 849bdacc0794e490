use Rattle.std.proofs.Common.{take}
use Rattle.text_report_printer.specs.ReportFits.{OutcomesFit}
use Rattle.text_report_printer.proofs.report.see_entries.Given as goal

abbrev pub invariant-entries : goal.invariant-entries
invariant-entries l = OutcomesFit (take l.entry-index l.entries)
