use Rattle.std.proofs.Common.{◌∙◌, ap, subst}
use Rattle.txn_programs.specs.Listing.{Listing}
use Rattle.txn_programs.specs.Replay.{Snapshot}
use Rattle.txn_programs.specs.Told.{told}
use Rattle.txn_programs.specs.LawfulReport.{LawfulReport}
use Rattle.book.specs.Turns.{readied}
use Rattle.book.proofs.Accounts.{report_lawful}
use Rattle.explore_runner.proofs.Closing.{drains_on, readied_on}
use Rattle.explore_runner.proofs.turns.close.Goals as goal

pub returns-clause-lawful : goal.returns-clause-lawful
returns-clause-lawful c =
    let r = told c.in_ok-report.report in
    subst (λ (l : Listing). LawfulReport l r) c.drain.ensures.catalogue
    (report_lawful c.drain.new.self r c.law.ensures.lawful c.law.ensures.fits c.drain.ensures.idle c.in_ok-report.ensures)

pub returns-clause-opens : goal.returns-clause-opens
returns-clause-opens c =
    let old = c.args.book.now in
    let goes = readied_on old c.drain.new.self (drains_on (readied old) c.drain.new.self c.drain.ensures.turns) in
    ap (λ (s : Snapshot). s.number) (c.in_ok-report.ensures.base ∙ (goes.base ∙ c.requires))

pub returns-clause-entries : goal.returns-clause-entries
returns-clause-entries c =
    let old = c.args.book.now in
    let goes = readied_on old c.drain.new.self (drains_on (readied old) c.drain.new.self c.drain.ensures.turns) in
    (goes.more, c.in_ok-report.ensures.entries ∙ goes.journal)
