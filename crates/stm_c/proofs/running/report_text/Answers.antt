use Rattle.txn_programs.specs.Told.{told}
use Rattle.run_workers.proofs.Sparing.{none_told}
use Rattle.stm_c.proofs.running.report_text.Goals as goal

pub returns-in-Ok-print_report-clause-report : goal.returns-in-Ok-print_report-clause-report
returns-in-Ok-print_report-clause-report c = record {
  of = record {
    file = c.args.catalogue.now;
    spelled = c.requires;
    report = told c.in-Ok.report;
    lawful = c.in-Ok.ensures.lawful;
    reached = c.in-Ok.ensures.reached;
    values = c.in-Ok-print_report.ensures.fits;
    printed = c.in-Ok-print_report.ensures.text;
  };
  short = c.in-Ok.ensures.short;
  memory = c.in-Ok.ensures.memory;
  kept = λ place. none_told c.args.catalogue.now (told c.in-Ok.report) place c.in-Ok.ensures.memory;
}
