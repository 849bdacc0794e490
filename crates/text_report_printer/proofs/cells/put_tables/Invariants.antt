use Rattle.std.proofs.Common.{◌≡◌, ◌≤◌, ◌++◌, drop, length, map, sum_by, string_bytes}
use Rattle.txn_declarations.specs.Counted.{counted}
use Rattle.text_report_printer.specs.ReportText.{table_lines}
use Rattle.text_report_printer.proofs.cells.put_tables.Given as goal

abbrev pub invariant-loop-name : goal.invariant-loop-name
invariant-loop-name l = record {
  text : string_bytes l.out ++ table_lines (map counted (drop l.name-index l.tables)) l.rest
      ≡ string_bytes l.fn.out ++ table_lines (map counted l.tables) l.vars;
  left : sum_by (λ t. t.1) (drop l.name-index l.tables) ≡ length l.rest;
  few : length l.rest ≤ 1048576;
}
