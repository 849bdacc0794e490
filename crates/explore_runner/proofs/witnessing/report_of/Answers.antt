use Rattle.std.proofs.Common.{◌≡◌, string_bytes}
use Rattle.std.specs.declared.alloc.Global.{Global}
use Rattle.std.specs.declared.string.String.{String}
use Rattle.txn_programs.specs.Told.{told}
use Rattle.text_report_printer.specs.ReportText.{report_text}
use Rattle.explore_law.specs.Orders.{Config, Leads, first_config}
use Rattle.explore_runner.specs.Witness.{IsReportTo}
use Rattle.explore_runner.proofs.Worded.{if_ok}
use Rattle.explore_runner.proofs.witnessing.report_of.Goals as goal

pub print_report-requires : goal.print_report-requires
print_report-requires c = (c.in_ok-report.ensures.ends c.requires.config c.requires.leads).lawful.fits

pub returns : goal.returns
returns c =
    let l = c.args.catalogue.now in
    let turns = c.args.turns.now in
    let r = told c.in_ok-report.report in
    if_ok c.print_report.result (λ (s : String Global). string_bytes s ≡ report_text l r)
    (λ (s : String Global). (p : Config) → Leads l (first_config l) turns p → IsReportTo l turns p (string_bytes s))
    (λ s e p leads. record { report = r; ends = c.in_ok-report.ensures.ends p leads; entered = c.in_ok-report.ensures.turns; printed = e })
    c.print_report.ensures.text
