use Rattle.std.proofs.Common.{◌≡◌, ◌∙◌, sym}
use Rattle.txn_programs.specs.Told.{Told, told}
use Rattle.text_line_reader.specs.Reports.{IsReport}
use Rattle.checker.proofs.Only.{only_on_bytes}
use Rattle.checker.proofs.judging.judged.Goals as goal

pub returns-in-Ok-Good-clause-alone : goal.returns-in-Ok-Good-clause-alone
returns-in-Ok-Good-clause-alone c w a =
    let l = c.args.catalogue.now in
    let bytes = c.args.bytes.now in
    let r = told c.in-Ok.report in
    let alone : (t : Told) → IsReport l bytes t → t ≡ r = λ t is. cc (c.in-Ok.ensures.only t is) in
    sym c.in-Ok-Good.field-0-is ∙ only_on_bytes l bytes r c.in-Ok-Good.field-0 w c.in-Ok.ensures.found alone c.in-Ok-Good.ensures a

pub returns-in-Ok-Bad-clause-alone : goal.returns-in-Ok-Bad-clause-alone
returns-in-Ok-Bad-clause-alone c w a =
    let l = c.args.catalogue.now in
    let bytes = c.args.bytes.now in
    let r = told c.in-Ok.report in
    let alone : (t : Told) → IsReport l bytes t → t ≡ r = λ t is. cc (c.in-Ok.ensures.only t is) in
    sym c.in-Ok-Bad.field-0-is ∙ only_on_bytes l bytes r c.in-Ok-Bad.field-0 w c.in-Ok.ensures.found alone c.in-Ok-Bad.ensures a
