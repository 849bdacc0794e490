use Rattle.std.proofs.Common.{◌≡◌, drop}
use Rattle.text_line_reader.specs.Rows.{each}
use Rattle.text_line_reader.specs.ReportResolving.{variable_told}
use Rattle.text_line_reader.specs.ReportView.{view_variables}
use Rattle.text_line_reader.proofs.Each.{joined}
use Rattle.text_line_reader.proofs.report.resolve.variables_told.Given as goal

abbrev pub invariant-vars : goal.invariant-vars
invariant-vars l = joined l.made.items (each variable_told (view_variables (drop l.v-index l.vars))) ≡ each variable_told (view_variables l.vars)
