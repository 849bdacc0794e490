use Rattle.std.proofs.Common.{◌∙◌, subst}
use Rattle.std.proofs.lemmas.Result.{IfOk-weaker}
use Rattle.std.specs.Prelude.{IfOk}
use Rattle.txn_programs.specs.Listing.{Listing}
use Rattle.book_storage.specs.declared.run_report.RunReport.{RunReport}
use Rattle.book_storage.specs.PackedEntries.{told_run}
use Rattle.txn_programs.specs.LawfulReport.{LawfulReport, BaseReached}
use Rattle.book.specs.Turns.{ReportIs}
use Rattle.run_workers.specs.Journals.{KeepsShort}
use Rattle.run_workers.proofs.Journals.{drain_short, report_short}
use Rattle.run_workers.proofs.Sparing.{report_gives}
use Rattle.run_workers.specs.GivingUp.{GaveUpForMemory}
use Rattle.run_workers.proofs.shared.settle.Goals as goal

pub returns-clause-lawful : goal.returns-clause-lawful
returns-clause-lawful g c =
    subst (λ (l : Listing). IfOk c.report.result (λ r. LawfulReport l (told_run r))) (c.drain.ensures.catalogue ∙ c.args.named.of_catalogue) c.report.ensures.lawful

pub returns-clause-reached : goal.returns-clause-reached
returns-clause-reached g c =
    subst (λ (l : Listing). IfOk c.report.result (λ r. BaseReached l (told_run r))) (c.drain.ensures.catalogue ∙ c.args.named.of_catalogue) c.report.ensures.reached

pub returns-clause-short : goal.returns-clause-short
returns-clause-short g c =
    let named = c.args.named in
    let short = drain_short c.args.every g.N.Naming.every c.requires.every named.book c.law.ensures.lawful named.short c.drain.new.self c.drain.ensures.turns in
    IfOk-weaker c.report.result (λ (r : RunReport). ReportIs c.drain.new.self (told_run r)) (λ (r : RunReport). KeepsShort g.N.Naming.every (told_run r))
    (λ (r : RunReport) (is : ReportIs c.drain.new.self (told_run r)). report_short g.N.Naming.every c.drain.new.self (told_run r) is short) c.report.ensures.is

pub returns-clause-memory : goal.returns-clause-memory
returns-clause-memory g c =
    let b = c.drain.new.self in
    subst (λ (l : Listing). IfOk c.report.result (λ r. GaveUpForMemory l (told_run r))) (c.drain.ensures.catalogue ∙ c.args.named.of_catalogue)
    (IfOk-weaker c.report.result (λ (r : RunReport). ReportIs b (told_run r)) (λ (r : RunReport). GaveUpForMemory b.catalogue (told_run r))
    (λ (r : RunReport) (is : ReportIs b (told_run r)). report_gives b (told_run r) is (c.drain.ensures.memory c.args.named.given_up)) c.report.ensures.is)
