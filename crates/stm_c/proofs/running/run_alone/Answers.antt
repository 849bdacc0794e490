use Rattle.std.proofs.Common.{refl, sym, subst, rules, arith, ap, ◌∙◌}
use Rattle.std.specs.Prelude.{IfOk}
use Rattle.std.proofs.lemmas.Result.{IfOk-weaker}
use Rattle.txn_programs.specs.declared.report.Report.{Report}
use Rattle.txn_programs.specs.Told.{told}
use Rattle.txn_programs.specs.LawfulReport.{LawfulReport, BaseReached}
use Rattle.book.specs.View.{BookView, opened}
use Rattle.book.specs.Turns.{ReportIs}
use Rattle.txn_programs.specs.Listing.{Listing}
use Rattle.book.specs.GivingUp.{GivesUpForMemory}
use Rattle.book.proofs.GivingUp.{gives_opened}
use Rattle.run_workers.specs.GivingUp.{GaveUpForMemory}
use Rattle.run_workers.specs.Journals.{KeepsShort}
use Rattle.run_workers.proofs.Sparing.{report_gives}
use Rattle.run_workers.proofs.Journals.{Shortens, drain_short, report_short}
use Rattle.stm_c.proofs.running.run_alone.Goals as goal

pub returns-clause-lawful : goal.returns-clause-lawful
returns-clause-lawful c =
    subst (λ (k : Listing). IfOk c.report.result (λ (r : Report). LawfulReport k (told r))) (c.drain.ensures.catalogue ∙ ap (λ (x : BookView). x.catalogue) c.in_ok-book.ensures) c.report.ensures.lawful

pub returns-clause-reached : goal.returns-clause-reached
returns-clause-reached c =
    subst (λ (k : Listing). IfOk c.report.result (λ (r : Report). BaseReached k (told r))) (c.drain.ensures.catalogue ∙ ap (λ (x : BookView). x.catalogue) c.in_ok-book.ensures) c.report.ensures.reached

pub returns-clause-short : goal.returns-clause-short
returns-clause-short c =
    let every = c.args.checkpoint in
    let at_first : Shortens every (opened c.args.catalogue.now c.in_ok-cells.cells 0) = record { never = λ _. refl; fewer = λ some. some; whole = λ _. search rules } in
    let short : Shortens every c.in_ok-book.book = subst (Shortens every) (sym c.in_ok-book.ensures) at_first in
    let b : BookView = c.drain.new.self in
    let kept = drain_short every every refl c.in_ok-book.book c.law.ensures.lawful short b c.drain.ensures.turns in
    IfOk-weaker c.report.result (λ (r : Report). ReportIs b (told r)) (λ (r : Report). KeepsShort every (told r)) (λ (r : Report) (is : ReportIs b (told r)). report_short every b (told r) is kept) c.report.ensures.is

pub returns-clause-memory : goal.returns-clause-memory
returns-clause-memory c =
    let l = c.args.catalogue.now in
    let b : BookView = c.drain.new.self in
    let at_first : GivesUpForMemory c.in_ok-book.book = subst GivesUpForMemory (sym c.in_ok-book.ensures) (gives_opened l c.in_ok-cells.cells 0) in
    subst (λ (k : Listing). IfOk c.report.result (λ (r : Report). GaveUpForMemory k (told r))) (c.drain.ensures.catalogue ∙ ap (λ (x : BookView). x.catalogue) c.in_ok-book.ensures)
    (IfOk-weaker c.report.result (λ (r : Report). ReportIs b (told r)) (λ (r : Report). GaveUpForMemory b.catalogue (told r)) (λ (r : Report) (is : ReportIs b (told r)). report_gives b (told r) is (c.drain.ensures.memory at_first)) c.report.ensures.is)
