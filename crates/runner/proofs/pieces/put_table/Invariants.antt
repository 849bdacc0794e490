use Rattle.std.proofs.Common.{◌≡◌, ◌≤◌, ◌+◌, length, string_bytes}
use Rattle.std.specs.Prelude.{string_capacity}
use Rattle.text_report_printer.specs.ReportText.{cell_lines}
use Rattle.runner.proofs.Gathering.{Puts}
use Rattle.runner.proofs.pieces.put_table.Given as goal

abbrev pub invariant-loop-rest : goal.invariant-loop-rest
invariant-loop-rest g l = record {
  puts : Puts (g.S.Sink.bytes l.initial.sink) (string_bytes l.initial.text) (g.S.Sink.bytes l.sink) (string_bytes l.text) (cell_lines l.table 0 l.cells) (cell_lines l.table l.first l.rest);
  within : l.first + length l.rest ≤ 1048576;
  none_failed : g.S.Sink.failed l.sink ≡ g.S.Sink.failed l.initial.sink;
  capacity : string_capacity l.initial.text ≤ string_capacity l.text;
}

abbrev pub decreases-loop-rest : goal.decreases-loop-rest
decreases-loop-rest g l = length l.rest
