use Rattle.std.proofs.Common.{◌∙◌, subst}
use Rattle.std.proofs.lemmas.List.Elements.{All-more}
use Rattle.txn_programs.specs.declared.report.Entry.{Entry}
use Rattle.text_report_printer.specs.ReportFits.{OutcomeFits}
use Rattle.runner.proofs.pieces.lines_fit.Goals as goal

pub lines-preserved : goal.lines-preserved
lines-preserved c =
    let Fits : Entry → Type 0 = λ e. OutcomeFits e.outcome in
    All-more Fits c.args.lines.now c.lines.line-index c.line-item.result c.lines-test.true c.lines.invariant
    (subst Fits (c.entry.ensures ∙ c.line-item.is) c.value_fits.ensures)
