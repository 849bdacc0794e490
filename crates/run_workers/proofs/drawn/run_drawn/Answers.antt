use Rattle.std.proofs.Common.{◌≢◌, ℕ, Some, sym, ◌∙◌, ap, subst, slice_get, IfOk}
use Rattle.std.proofs.lemmas.Result.{IfOk-weaker}
use Rattle.txn_programs.specs.Listing.{Listing}
use Rattle.txn_programs.specs.LawfulReport.{LawfulReport, BaseReached}
use Rattle.book_storage.specs.declared.run_report.RunReport.{RunReport}
use Rattle.book_storage.specs.PackedEntries.{told_run}
use Rattle.book.specs.Tasks.{Running}
use Rattle.book.specs.View.{BookView}
use Rattle.book.specs.Turns.{ReportIs}
use Rattle.book.specs.GivingUp.{GivesUpForMemory}
use Rattle.book.proofs.GivingUp.{gives_opened}
use Rattle.run_workers.specs.Drawing.{DrawnTurns}
use Rattle.run_workers.specs.GivingUp.{GaveUpForMemory}
use Rattle.run_workers.specs.Journals.{KeepsShort}
use Rattle.run_workers.proofs.Drawing.{opened_idle, drawn_short}
use Rattle.run_workers.proofs.Journals.{report_short}
use Rattle.run_workers.proofs.Sparing.{report_gives}
use Rattle.run_workers.proofs.drawn.run_drawn.Goals as goal

pub returns-clause-lawful : goal.returns-clause-lawful
returns-clause-lawful c =
    subst (λ (l : Listing). IfOk c.report.result (λ r. LawfulReport l (told_run r))) (c.give_drawn.ensures.catalogue ∙ ap (λ (b : BookView). b.catalogue) c.in_ok-book.ensures) c.report.ensures.lawful

pub returns-clause-reached : goal.returns-clause-reached
returns-clause-reached c =
    subst (λ (l : Listing). IfOk c.report.result (λ r. BaseReached l (told_run r))) (c.give_drawn.ensures.catalogue ∙ ap (λ (b : BookView). b.catalogue) c.in_ok-book.ensures) c.report.ensures.reached

pub give_drawn-requires-clause-none_runs : goal.give_drawn-requires-clause-none_runs
give_drawn-requires-clause-none_runs c =
    subst (λ (b : BookView). (k : ℕ) → slice_get b.tasks k ≢ Some Running) (sym c.in_ok-book.ensures) (opened_idle c.args.catalogue.now c.in_ok-cells.cells)

pub returns-clause-short : goal.returns-clause-short
returns-clause-short c =
    let b = c.give_drawn.new.book in
    let drawn = c.give_drawn.ensures.turns in
    let turns = subst (λ (a : BookView). DrawnTurns c.args.every c.args.seed a drawn.0 b) c.in_ok-book.ensures drawn.1 in
    let short = drawn_short c.args.every c.args.seed c.args.catalogue.now c.in_ok-cells.cells drawn.0 b turns in
    IfOk-weaker c.report.result (λ (r : RunReport). ReportIs b (told_run r)) (λ (r : RunReport). KeepsShort c.args.every (told_run r))
    (λ (r : RunReport) (is : ReportIs b (told_run r)). report_short c.args.every b (told_run r) is short) c.report.ensures.is

pub returns-clause-memory : goal.returns-clause-memory
returns-clause-memory c =
    let b = c.give_drawn.new.book in
    let opened = subst GivesUpForMemory (sym c.in_ok-book.ensures) (gives_opened c.args.catalogue.now c.in_ok-cells.cells 0) in
    subst (λ (l : Listing). IfOk c.report.result (λ r. GaveUpForMemory l (told_run r))) (c.give_drawn.ensures.catalogue ∙ ap (λ (b : BookView). b.catalogue) c.in_ok-book.ensures)
    (IfOk-weaker c.report.result (λ (r : RunReport). ReportIs b (told_run r)) (λ (r : RunReport). GaveUpForMemory b.catalogue (told_run r))
    (λ (r : RunReport) (is : ReportIs b (told_run r)). report_gives b (told_run r) is (c.give_drawn.ensures.memory opened)) c.report.ensures.is)
