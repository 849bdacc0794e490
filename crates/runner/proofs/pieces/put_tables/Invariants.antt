use Rattle.std.proofs.Common.{◌≡◌, ◌≤◌, drop, length, map, string_bytes, sum_by}
use Rattle.std.specs.Prelude.{string_capacity}
use Rattle.txn_declarations.specs.Counted.{counted}
use Rattle.text_report_printer.specs.ReportText.{table_lines}
use Rattle.runner.proofs.Gathering.{Puts}
use Rattle.runner.proofs.pieces.put_tables.Given as goal

abbrev pub invariant-loop-name : goal.invariant-loop-name
invariant-loop-name g l = record {
  puts : Puts (g.S.Sink.bytes l.initial.sink) (string_bytes l.initial.text) (g.S.Sink.bytes l.sink) (string_bytes l.text)
      (table_lines (map counted l.tables) l.vars) (table_lines (map counted (drop l.name-index l.tables)) l.rest);
  left : sum_by (λ t. t.1) (drop l.name-index l.tables) ≡ length l.rest;
  few : length l.rest ≤ 1048576;
  none_failed : g.S.Sink.failed l.sink ≡ g.S.Sink.failed l.initial.sink;
  capacity : string_capacity l.initial.text ≤ string_capacity l.text;
}
