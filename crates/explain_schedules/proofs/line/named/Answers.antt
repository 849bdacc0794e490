use Rattle.std.proofs.Common.{ℕ, ◌+◌, ◌∷◌, ◌++◌, length, refl, sym, ap, subst, ◌∙◌}
use Rattle.text_line_reader.specs.ScheduleRaw.{OfVariable, OfCell}
use Rattle.explain_schedules.specs.Lines.{StopsAt}
use Rattle.explain_schedules.specs.declared.line.Wanted.TheVariants as want
use Rattle.explain_schedules.proofs.Lines.{variable_line, cell_line, number_stops, value_stops, neither_cell, neither_name, fails_shape}
use Rattle.explain_schedules.proofs.line.named.Goals as goal

pub returns-in_default-clause-stop : goal.returns-in_default-clause-stop
returns-in_default-clause-stop c =
    subst (λ (n : ℕ). StopsAt c.args.cells (c.args.verb.now ++ 32 ∷ (c.args.first.now ++ 32 ∷ c.args.second.now)) n want.TaskAndVariable) (sym c.requires.at)
    (number_stops c.args.cells c.args.verb.now c.args.first.now c.args.second.now c.requires.spaceless c.requires.verb c.requires.other c.requires.first (fails_shape c.in_default.field-0 _ c.in_default.ensures.value c.in_default.ensures.kind))

pub returns-in-Ok-cell_in-clause-line : goal.returns-in-Ok-cell_in-clause-line
returns-in-Ok-cell_in-clause-line c =
    let task = c.in-Ok.task.text.now in
    let table = c.in-Ok-cell_in.table.now in
    let index = c.in-Ok-cell_in.index.text.now in
    let t = cell_line c.args.cells c.args.verb.now c.args.first.now c.args.second.now task table index c.requires.spaceless c.requires.verb c.requires.other c.requires.first c.in-Ok.ensures.value
    (sym c.is_cell.ensures ∙ c.if-is_cell.true) c.in-Ok-cell_in.ensures.value in
    record {
      raw = OfCell t.kind task table index;
      read = t.read;
      says = (c.requires.at ∙ t.at, refl, ap (λ (n : ℕ). n + (length c.args.first.now + 1)) c.requires.at ∙ t.name_at, refl, refl);
    }

pub returns-in-Err-clause-stop : goal.returns-in-Err-clause-stop
returns-in-Err-clause-stop c =
    subst (λ (n : ℕ). StopsAt c.args.cells (c.args.verb.now ++ 32 ∷ (c.args.first.now ++ 32 ∷ c.args.second.now)) (n + (length c.args.first.now + 1)) want.Variable) (sym c.requires.at)
    (value_stops c.args.cells c.args.verb.now c.args.first.now c.args.second.now c.in-Ok.task.text.now c.requires.spaceless c.requires.verb c.requires.other c.requires.first c.in-Ok.ensures.value
    (neither_cell _ c.args.second.now (sym c.is_cell.ensures ∙ c.if-is_cell.true) (fails_shape c.in-Err.field-0 _ c.in-Err.ensures.value c.in-Err.ensures.kind)))

pub returns-in-Ok-name_in-clause-line : goal.returns-in-Ok-name_in-clause-line
returns-in-Ok-name_in-clause-line c =
    let task = c.in-Ok.task.text.now in
    let name = c.in-Ok-name_in.name.now in
    let t = variable_line c.args.cells c.args.verb.now c.args.first.now c.args.second.now task name c.requires.spaceless c.requires.verb c.requires.other c.requires.first c.in-Ok.ensures.value
    (sym c.is_cell.ensures ∙ c.if-is_cell.false) c.in-Ok-name_in.ensures.value in
    record {
      raw = OfVariable t.kind task name;
      read = t.read;
      says = (c.requires.at ∙ t.at, refl, ap (λ (n : ℕ). n + (length c.args.first.now + 1)) c.requires.at ∙ t.name_at, refl);
    }

pub returns-in-Err-name_in-clause-stop : goal.returns-in-Err-name_in-clause-stop
returns-in-Err-name_in-clause-stop c =
    subst (λ (n : ℕ). StopsAt c.args.cells (c.args.verb.now ++ 32 ∷ (c.args.first.now ++ 32 ∷ c.args.second.now)) (n + (length c.args.first.now + 1)) want.Variable) (sym c.requires.at)
    (value_stops c.args.cells c.args.verb.now c.args.first.now c.args.second.now c.in-Ok.task.text.now c.requires.spaceless c.requires.verb c.requires.other c.requires.first c.in-Ok.ensures.value
    (neither_name _ c.args.second.now (sym c.is_cell.ensures ∙ c.if-is_cell.false) (fails_shape c.in-Err-name_in.field-0 _ c.in-Err-name_in.ensures.value c.in-Err-name_in.ensures.kind)))
