use Rattle.txn_programs.specs.declared.report.Report.{Report}
use Rattle.txn_programs.specs.Told.{told}
use Rattle.book.specs.Turns.{ReportIs}
use Rattle.explore_runner.specs.Stopping.{StopsAfter}
use Rattle.explore_runner.proofs.Putting.{stops}
use Rattle.explore_runner.proofs.Worded.{if_ok}
use Rattle.explore_runner.proofs.stopping.report_behind.Goals as goal

pub returns : goal.returns
returns c =
    let l = c.args.catalogue.now in
    let turns = c.args.turns.now in
    let a = c.take_turns.new.book in
    let b = c.stop.new.book in
    if_ok c.report.result (λ (r : Report). ReportIs b (told r)) (λ (r : Report). StopsAfter l turns (told r))
    (λ r is. stops l turns a b c.in_ok-take_turns.ensures c.in_ok-stop.ensures c.law.ensures.lawful c.law.ensures.fits (told r) is)
    c.report.ensures
