use Rattle.std.proofs.Common.{◌≡◌, ◌≤◌, ◌+◌, ◌*◌, ◌++◌, take, string_bytes}
use Rattle.std.specs.Prelude.{string_len, string_capacity}
use Rattle.std.specs.List.{flat_map}
use Rattle.text_report_printer.specs.ReportText.{task_line}
use Rattle.text_report_printer.proofs.report.put_tasks.Given as goal

abbrev pub invariant-tasks : goal.invariant-tasks
invariant-tasks l = record {
  text : string_bytes l.out ≡ string_bytes l.fn.out ++ flat_map (task_line l.catalogue l.kind) (take l.task-index l.tasks);
  len : string_len l.out ≤ string_len l.fn.out + 128 * l.task-index;
  capacity : string_capacity l.fn.out ≤ string_capacity l.out;
}
