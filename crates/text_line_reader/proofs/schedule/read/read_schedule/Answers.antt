use Rattle.text_line_reader.proofs.Reading.{rules_of}
use Rattle.text_line_reader.proofs.ScheduleReading.{is_found, is_only, is_fault}
use Rattle.text_line_reader.proofs.schedule.read.read_schedule.Goals as goal

pub returns-clause-found : goal.returns-clause-found
returns-clause-found c =
    let e = c.rules.ensures in
    is_found (λ x. x.items) c.args.catalogue.now c.args.bytes.now c.read.result (rules_of c.args.catalogue.now e.valued e.names e.limits) c.read.ensures

pub returns-clause-only : goal.returns-clause-only
returns-clause-only c moves is =
    let e = c.rules.ensures in
    is_only (λ x. x.items) c.args.catalogue.now c.args.bytes.now c.read.result moves (rules_of c.args.catalogue.now e.valued e.names e.limits) c.read.ensures is

pub returns-clause-fault : goal.returns-clause-fault
returns-clause-fault c =
    let e = c.rules.ensures in
    is_fault (λ x. x.items) c.args.catalogue.now c.args.bytes.now c.read.result (rules_of c.args.catalogue.now e.valued e.names e.limits) c.read.ensures
