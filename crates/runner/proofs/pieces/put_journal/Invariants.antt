use Rattle.std.proofs.Common.{◌≡◌, ◌<◌, ◌≤◌, length, string_bytes}
use Rattle.std.specs.Prelude.{All, string_capacity}
use Rattle.text_report_printer.specs.ReportText.{entry_line}
use Rattle.runner.specs.Pieces.{Lines}
use Rattle.runner.proofs.pieces.put_journal.Given as goal

abbrev pub invariant-loop-rest : goal.invariant-loop-rest
invariant-loop-rest g l = record {
  lines : Lines (entry_line l.catalogue) (g.S.Sink.bytes l.initial.sink) (string_bytes l.initial.text) (g.S.Sink.bytes l.sink) (string_bytes l.text) l.lines l.rest;
  none_failed : g.S.Sink.failed l.sink ≡ g.S.Sink.failed l.initial.sink;
  known : All (λ e. e.tx.0 < length l.catalogue.transactions) l.rest;
  capacity : string_capacity l.initial.text ≤ string_capacity l.text;
}

abbrev pub decreases-loop-rest : goal.decreases-loop-rest
decreases-loop-rest g l = length l.rest
