use Rattle.txn_programs.specs.Told.{told}
use Rattle.text_line_reader.proofs.Reading.{rules_of}
use Rattle.text_line_reader.proofs.ReportReading.{is_found, is_only, is_fault}
use Rattle.text_line_reader.proofs.report.read.read_report.Goals as goal

pub returns-clause-found : goal.returns-clause-found
returns-clause-found c =
    let e = c.rules.ensures in
    is_found told c.args.catalogue.now c.args.bytes.now c.read.result (rules_of c.args.catalogue.now e.valued e.names e.limits) c.read.ensures.fit c.read.ensures.value

pub returns-clause-only : goal.returns-clause-only
returns-clause-only c t is =
    let e = c.rules.ensures in
    is_only told c.args.catalogue.now c.args.bytes.now c.read.result t (rules_of c.args.catalogue.now e.valued e.names e.limits) c.read.ensures.value is

pub returns-clause-fault : goal.returns-clause-fault
returns-clause-fault c =
    let e = c.rules.ensures in
    is_fault told c.args.catalogue.now c.args.bytes.now c.read.result (rules_of c.args.catalogue.now e.valued e.names e.limits) c.read.ensures.value
