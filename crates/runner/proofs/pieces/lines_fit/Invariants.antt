use Rattle.std.proofs.Common.{take}
use Rattle.text_report_printer.specs.ReportFits.{OutcomesFit}
use Rattle.runner.proofs.pieces.lines_fit.Given as goal

abbrev pub invariant-lines : goal.invariant-lines
invariant-lines l = OutcomesFit (take l.line-index l.lines)
