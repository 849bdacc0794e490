use Rattle.std.proofs.Common.{◌≡◌, drop}
use Rattle.text_line_reader.specs.ReportResolving.{named_as}
use Rattle.text_line_reader.specs.ReportView.{view_variables}
use Rattle.text_line_reader.proofs.report.resolve.named_as.Given as goal

abbrev pub invariant-vars : goal.invariant-vars
invariant-vars l = named_as (drop l.i l.catalogue.names) (view_variables (drop l.i l.vars)) ≡ named_as l.catalogue.names (view_variables l.vars)
