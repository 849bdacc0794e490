use Rattle.std.proofs.Common.{refl}
use Rattle.text_line_reader.specs.ScheduleRaw.{OfTask}
use Rattle.explain_schedules.proofs.Lines.{task_line, task_stops, fails_shape}
use Rattle.explain_schedules.proofs.line.of_task.Goals as goal

pub returns-in-Ok-clause-line : goal.returns-in-Ok-clause-line
returns-in-Ok-clause-line c cells =
    let t = task_line cells c.args.verb.now c.args.rest.now c.in-Ok.task.text.now c.requires.spaceless c.requires.verb c.in-Ok.ensures.value in
    record { raw = OfTask t.kind c.in-Ok.task.text.now; read = t.read; says = (t.at, refl) }

pub returns-in-Err-clause-stop : goal.returns-in-Err-clause-stop
returns-in-Err-clause-stop c cells = task_stops cells c.args.verb.now c.args.rest.now c.requires.spaceless c.requires.verb (fails_shape c.in-Err.field-0 _ c.in-Err.ensures.value c.in-Err.ensures.kind)
