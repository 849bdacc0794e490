use Rattle.std.proofs.Common.{◌≡◌, ◌++◌, ◌∷◌, []}
use Rattle.text_line_reader.specs.ReportResolving.{task_told}
use Rattle.text_line_reader.specs.ReportView.{view_task}
use Rattle.text_line_reader.proofs.Each.{loop_more}
use Rattle.text_line_reader.proofs.report.resolve.tasks_told.Goals as goal

pub tasks-preserved : goal.tasks-preserved
tasks-preserved c =
    let made = c.tasks.made.items in
    let told = c.in_ok-task_told.field-0 in
    let e : c.push.new.self.items ≡ made ++ told ∷ [] = c.in_ok-push.ensures.items in
    rw e (loop_more (task_told c.args.catalogue.now) view_task made c.args.tasks.now c.tasks.t-index c.t-item.result told _ c.tasks-test.true c.t-item.is c.in_ok-task_told.ensures.value c.tasks.invariant)
