use Rattle.std.proofs.lemmas.Result.{IfOk-weaker}
use Rattle.book_storage.specs.declared.run_report.RunReport.{RunReport}
use Rattle.book_storage.specs.PackedEntries.{told_run}
use Rattle.txn_programs.specs.LawfulReport.{LawfulReport, BaseReached}
use Rattle.book.specs.View.{BookView}
use Rattle.book.specs.Turns.{ReportIs}
use Rattle.book.proofs.Accounts.{report_lawful, report_reached}
use Rattle.run_workers.proofs.shared.report.Goals as goal

pub returns-clause-lawful : goal.returns-clause-lawful
returns-clause-lawful c =
    let b : BookView = c.args.book in
    IfOk-weaker c.into_run_report.result (λ (r : RunReport). ReportIs b (told_run r)) (λ (r : RunReport). LawfulReport b.catalogue (told_run r))
    (λ (r : RunReport) (is : ReportIs b (told_run r)). report_lawful b (told_run r) c.law.ensures.lawful c.law.ensures.fits c.requires is) c.into_run_report.ensures

pub returns-clause-reached : goal.returns-clause-reached
returns-clause-reached c =
    let b : BookView = c.args.book in
    IfOk-weaker c.into_run_report.result (λ (r : RunReport). ReportIs b (told_run r)) (λ (r : RunReport). BaseReached b.catalogue (told_run r))
    (λ (r : RunReport) (is : ReportIs b (told_run r)). report_reached b (told_run r) c.law.ensures.lawful c.law.ensures.fits c.requires is) c.into_run_report.ensures
