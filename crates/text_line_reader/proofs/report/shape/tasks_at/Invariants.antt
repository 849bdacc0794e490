use Rattle.std.proofs.Common.{◌≡◌, length}
use Rattle.text_line_reader.specs.Lines.{lines}
use Rattle.text_line_reader.specs.Rows.{all_at}
use Rattle.text_line_reader.specs.ReportReading.{task_in}
use Rattle.text_line_reader.specs.ReportView.{view_tasks}
use Rattle.text_line_reader.proofs.Rows.{with_front}
use Rattle.text_line_reader.proofs.report.shape.tasks_at.Given as goal

abbrev pub invariant-tasks : goal.invariant-tasks
invariant-tasks l = with_front (view_tasks l.tasks.items) (all_at l.fn.word (task_in l.fn.word) (lines l.rest)) ≡ all_at l.fn.word (task_in l.fn.word) (lines l.fn.bytes)

abbrev pub decreases-tasks : goal.decreases-tasks
decreases-tasks l = length l.rest
