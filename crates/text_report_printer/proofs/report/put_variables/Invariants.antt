use Rattle.std.proofs.Common.{◌≡◌, ◌≤◌, ◌+◌, ◌*◌, ◌++◌, take, string_bytes}
use Rattle.std.specs.Prelude.{string_len, string_capacity}
use Rattle.text_report_printer.specs.ReportText.{variable_lines}
use Rattle.text_report_printer.specs.ReportFits.{ValuesFit}
use Rattle.text_report_printer.proofs.report.put_variables.Given as goal

abbrev pub invariant-vars : goal.invariant-vars
invariant-vars l = record {
  text : string_bytes l.out ≡ string_bytes l.fn.out ++ variable_lines l.catalogue.names (take l.i l.vars);
  fits : ValuesFit (take l.i l.vars);
  len : string_len l.out ≤ string_len l.fn.out + 128 * l.i;
  capacity : string_capacity l.fn.out ≤ string_capacity l.out;
}
