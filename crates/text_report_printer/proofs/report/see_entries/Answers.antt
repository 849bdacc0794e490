use Rattle.std.proofs.Common.{pos}
use Rattle.std.proofs.lemmas.List.Elements.{All-more}
use Rattle.txn_programs.specs.declared.ast.Outcome.TheVariants.{Returned}
use Rattle.txn_programs.specs.declared.report.Entry.{Entry}
use Rattle.text_report_printer.specs.ReportFits.{OutcomeFits}
use Rattle.text_report_printer.proofs.report.see_entries.Goals as goal

abbrev none : Entry
none = record { number = 0; task = record { 0 = 0 }; tx = record { 0 = 0 }; outcome = Returned (pos 0) }

pub entries-preserved : goal.entries-preserved
entries-preserved c = All-more (λ (e : Entry). OutcomeFits e.outcome) c.args.entries.now c.entries.entry-index none c.entries-test.true c.entries.invariant c.value_fits.ensures
