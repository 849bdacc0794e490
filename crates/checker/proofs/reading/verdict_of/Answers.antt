use Rattle.std.proofs.Common.{◌≡◌}
use Rattle.txn_programs.specs.Told.{Told, told}
use Rattle.text_line_reader.specs.Reports.{IsReport}
use Rattle.checker.proofs.Only.{only_on_bytes}
use Rattle.checker.proofs.reading.verdict_of.Goals as goal

pub returns-in_ok-verdict_on-in-Ok-clause-alone : goal.returns-in_ok-verdict_on-in-Ok-clause-alone
returns-in_ok-verdict_on-in-Ok-clause-alone c w a =
    let l = c.args.catalogue.now in
    let bytes = c.args.report.now in
    let r = told c.in-Ok.report in
    let alone : (t : Told) → IsReport l bytes t → t ≡ r = λ t is. cc (c.in-Ok.ensures.only t is) in
    only_on_bytes l bytes r c.in_ok-verdict_on-in-Ok.field-0 w c.in-Ok.ensures.found alone c.in_ok-verdict_on-in-Ok.ensures a
