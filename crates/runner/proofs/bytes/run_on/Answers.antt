use Rattle.std.proofs.Common.{refl}
use Rattle.book_storage.specs.PackedEntries.{told_run}
use Rattle.text_report_printer.specs.ReportText.{report_text}
use Rattle.run_workers.proofs.Sparing.{none_told}
use Rattle.runner.proofs.Answering.{ran_of}
use Rattle.runner.proofs.bytes.run_on.Goals as goal

pub returns-clause-ran : goal.returns-clause-ran
returns-clause-ran g c file spelled =
    ran_of _ _ file (report_text c.args.catalogue.now (told_run c.in-Ok.report)) _ _ c.write_report.result
    (record {
      by = record {
        of = record {
          file = c.args.catalogue.now;
          spelled = spelled;
          report = told_run c.in-Ok.report;
          lawful = c.in-Ok.ensures.lawful;
          reached = c.in-Ok.ensures.reached;
          values = c.run_values_fit.ensures;
          printed = refl;
        };
        short = c.in-Ok.ensures.short;
        memory = c.in-Ok.ensures.memory;
        kept = λ place. none_told c.args.catalogue.now (told_run c.in-Ok.report) place c.in-Ok.ensures.memory;
      };
      order = c.in-Ok.ensures.order;
    }) c.write_report.ensures.wrote
