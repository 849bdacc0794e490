use Rattle.std.proofs.Common.{◌≡◌, ◌∙◌, ◌++◌, ◌∷◌, ℕ, List, [], Bor, Option, Some, Ok, ap}
use Rattle.std.proofs.lemmas.List.{map_push}
use Rattle.text_words.proofs.Steps.{done}
use Rattle.text_line_reader.specs.Lines.{lines}
use Rattle.text_line_reader.specs.Words.{begins}
use Rattle.text_line_reader.specs.Rows.{next_at}
use Rattle.text_line_reader.specs.ReportReading.{task_in}
use Rattle.text_line_reader.specs.ReportView.{view_task, view_tasks}
use Rattle.text_line_reader.specs.View.{view_next}
use Rattle.text_line_reader.specs.declared.report.raw.RawTask.{RawTask}
use Rattle.text_line_reader.proofs.Rows.{all_more}
use Rattle.text_line_reader.proofs.report.shape.tasks_at.Goals as goal

pub tasks-preserved : goal.tasks-preserved
tasks-preserved c =
    let word = c.args.word.now in
    let task = c.in-Some.task in
    let ls = lines c.tasks.rest.now in
    let more = lines c.in-Some.after.now in
    let is : next_at word (task_in word) ls ≡ Ok (Some (view_task task, more)) = c.in_ok-task.ensures.value ∙ ap (λ (o : Option (RawTask × Bor (List ℕ))). done (view_next view_task o)) c.in-Some.is in
    let e : view_tasks c.push.new.self.items ≡ view_tasks c.tasks.tasks.items ++ view_task task ∷ [] = rw c.in_ok-push.ensures.items (map_push view_task c.tasks.tasks.items task) in
    rw e (all_more (begins word) (task_in word) (view_tasks c.tasks.tasks.items) ls (view_task task, more) _ is c.tasks.invariant)
