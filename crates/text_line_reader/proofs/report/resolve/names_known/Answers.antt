use Rattle.std.proofs.Common.{◌∙◌, sym}
use Rattle.text_line_reader.proofs.ReportKnown.{names_are}
use Rattle.text_line_reader.proofs.report.resolve.names_known.Goals as goal

pub returns : goal.returns
returns c =
    names_are c.args.catalogue.now c.args.report.now c.deref.result.now c.conditions_known.result c.deref.ensures.value c.conditions_known.ensures
    (sym c.variables_known.ensures ∙ c.if-not-variables_known.false) (sym c.transactions_known.ensures ∙ c.if-not-transactions_known.false)
