use Rattle.std.proofs.Common.{◌≡◌, ◌≤◌, ◌+◌, ◌*◌, ◌++◌, take, string_bytes}
use Rattle.std.specs.Prelude.{string_len, string_capacity}
use Rattle.std.specs.List.{flat_map}
use Rattle.text_report_printer.specs.ReportText.{entry_line}
use Rattle.runner.proofs.pieces.put_lines.Given as goal

abbrev pub invariant-lines : goal.invariant-lines
invariant-lines l = record {
  text : string_bytes l.text ≡ string_bytes l.fn.text ++ flat_map (entry_line l.catalogue) (take l.line-index l.lines);
  len : string_len l.text ≤ string_len l.fn.text + 128 * l.line-index;
  capacity : string_capacity l.fn.text ≤ string_capacity l.text;
}
