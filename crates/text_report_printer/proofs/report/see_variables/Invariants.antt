use Rattle.std.proofs.Common.{take}
use Rattle.text_report_printer.specs.ReportFits.{ValuesFit}
use Rattle.text_report_printer.proofs.report.see_variables.Given as goal

abbrev pub invariant-vars : goal.invariant-vars
invariant-vars l = ValuesFit (take l.variable-index l.vars)
