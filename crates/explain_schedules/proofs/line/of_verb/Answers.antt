use Rattle.std.proofs.Common.{sym, ◌∙◌}
use Rattle.explain_schedules.proofs.Lines.{verb_stops}
use Rattle.explain_schedules.proofs.line.of_verb.Goals as goal

pub returns-else-is_variable_verb-clause-stop : goal.returns-else-is_variable_verb-clause-stop
returns-else-is_variable_verb-clause-stop c = verb_stops c.args.cells c.args.verb.now c.args.rest.now c.requires.spaceless (sym c.is_task_verb.ensures ∙ c.if-is_task_verb.false) (sym c.is_variable_verb.ensures ∙ c.if-is_variable_verb.false)
