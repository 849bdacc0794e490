use Rattle.std.proofs.Common.{◌≡◌, ◌∙◌, ◌++◌, ◌∷◌, [], suc, ◌-◌, ◌+◌, ℕ, ap, sym, arith}
use Rattle.std.proofs.lemmas.List.{map_push}
use Rattle.std.proofs.lemmas.Result.{err_from_is_err_and}
use Rattle.text_line_reader.specs.Lines.{lines}
use Rattle.text_line_reader.specs.Rows.{lines_at}
use Rattle.text_line_reader.specs.ReportReading.{variable_in}
use Rattle.text_line_reader.specs.ReportView.{view_variable, view_variables}
use Rattle.text_line_reader.proofs.Rows.{with_front, lines_more, lines_fail}
use Rattle.text_line_reader.proofs.report.shape.variables_at.Goals as goal

pub returns-in_err-variable : goal.returns-in_err-variable
returns-in_err-variable c =
    let p = err_from_is_err_and c.from_residual.result c.from_residual.ensures.1 in
    let front = view_variables c.variables.variables.items in
    let ls = lines c.variables.rest.now in
    let left = c.args.count - (c.variables._place + 1) in
    let step : c.args.count - c.variables._place ≡ suc left = omega arith in
    let so_far = ap (λ (n : ℕ). with_front front (lines_at variable_in n ls)) (sym step) ∙ c.variables.invariant in
    rw (p.1, p.2) (lines_fail c.in_err-variable.field-0.0 variable_in left front ls _ c.in_err-variable.ensures.value so_far)

pub variables-preserved : goal.variables-preserved
variables-preserved c =
    let variable = c.in_ok-variable.variable in
    let front = view_variables c.variables.variables.items in
    let ls = lines c.variables.rest.now in
    let left = c.args.count - (c.variables._place + 1) in
    let step : c.args.count - c.variables._place ≡ suc left = omega arith in
    let so_far = ap (λ (n : ℕ). with_front front (lines_at variable_in n ls)) (sym step) ∙ c.variables.invariant in
    let e : view_variables c.push.new.self.items ≡ front ++ view_variable variable ∷ [] = rw c.in_ok-push.ensures.items (map_push view_variable c.variables.variables.items variable) in
    rw e (lines_more variable_in left front ls (view_variable variable, lines c.in_ok-variable.after.now) _ c.in_ok-variable.ensures.value so_far)
