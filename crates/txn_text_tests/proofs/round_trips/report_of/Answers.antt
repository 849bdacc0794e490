use Rattle.txn_programs.specs.Told.{told}
use Rattle.txn_text_tests.proofs.Late.{report_back, report_fails}
use Rattle.txn_text_tests.proofs.round_trips.report_of.Goals as goal

pub returns-clause-same : goal.returns-clause-same
returns-clause-same c =
    report_back told c.args.catalogue.now c.args.bytes.now (told c.args.report.now) c.read_report.result c.requires c.read_report.ensures.found c.read_report.ensures.only

pub returns-clause-fault : goal.returns-clause-fault
returns-clause-fault c =
    report_fails told c.args.catalogue.now c.args.bytes.now (told c.args.report.now) c.read_report.result c.requires c.read_report.ensures.only c.read_report.ensures.fault
