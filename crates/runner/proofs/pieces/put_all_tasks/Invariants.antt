use Rattle.std.proofs.Common.{◌≡◌, ◌<◌, ◌≤◌, length, string_bytes}
use Rattle.std.specs.Prelude.{All, string_capacity}
use Rattle.text_report_printer.specs.ReportText.{task_line}
use Rattle.runner.specs.Pieces.{Lines}
use Rattle.runner.proofs.pieces.put_all_tasks.Given as goal

abbrev pub invariant-loop-rest : goal.invariant-loop-rest
invariant-loop-rest g l = record {
  lines : Lines (task_line l.catalogue l.kind) (g.S.Sink.bytes l.initial.sink) (string_bytes l.initial.text) (g.S.Sink.bytes l.sink) (string_bytes l.text) l.tasks l.rest;
  none_failed : g.S.Sink.failed l.sink ≡ g.S.Sink.failed l.initial.sink;
  known : All (λ p. p.1.0 < length l.catalogue.transactions) l.rest;
  capacity : string_capacity l.initial.text ≤ string_capacity l.text;
}

abbrev pub decreases-loop-rest : goal.decreases-loop-rest
decreases-loop-rest g l = length l.rest
