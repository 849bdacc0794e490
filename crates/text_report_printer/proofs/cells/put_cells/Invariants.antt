use Rattle.std.proofs.Common.{◌≡◌, ◌≤◌, ◌+◌, ◌*◌, ◌++◌, take, string_bytes}
use Rattle.std.specs.Prelude.{string_len, string_capacity}
use Rattle.text_report_printer.specs.ReportText.{cell_lines}
use Rattle.text_report_printer.proofs.cells.put_cells.Given as goal

abbrev pub invariant-cells : goal.invariant-cells
invariant-cells l = record {
  text : string_bytes l.out ≡ string_bytes l.fn.out ++ cell_lines l.table l.first (take l.i l.cells);
  len : string_len l.out ≤ string_len l.fn.out + 128 * l.i;
  capacity : string_capacity l.fn.out ≤ string_capacity l.out;
}
