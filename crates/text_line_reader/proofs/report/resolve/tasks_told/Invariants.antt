use Rattle.std.proofs.Common.{◌≡◌, drop}
use Rattle.text_line_reader.specs.Rows.{each}
use Rattle.text_line_reader.specs.ReportResolving.{task_told}
use Rattle.text_line_reader.specs.ReportView.{view_tasks}
use Rattle.text_line_reader.proofs.Each.{joined}
use Rattle.text_line_reader.proofs.report.resolve.tasks_told.Given as goal

abbrev pub invariant-tasks : goal.invariant-tasks
invariant-tasks l = joined l.made.items (each (task_told l.catalogue) (view_tasks (drop l.t-index l.tasks))) ≡ each (task_told l.catalogue) (view_tasks l.tasks)
