use Rattle.std.proofs.Common.{◌≡◌, ◌++◌, ◌∷◌, []}
use Rattle.text_line_reader.specs.ReportResolving.{variable_told}
use Rattle.text_line_reader.specs.ReportView.{view_variable}
use Rattle.text_line_reader.proofs.Each.{loop_more}
use Rattle.text_line_reader.proofs.report.resolve.variables_told.Goals as goal

pub vars-preserved : goal.vars-preserved
vars-preserved c =
    let made = c.vars.made.items in
    let told = c.in_ok-variable_told.field-0 in
    let e : c.push.new.self.items ≡ made ++ told ∷ [] = c.in_ok-push.ensures.items in
    rw e (loop_more variable_told view_variable made c.args.vars.now c.vars.v-index c.v-item.result told _ c.vars-test.true c.v-item.is c.in_ok-variable_told.ensures.value c.vars.invariant)
