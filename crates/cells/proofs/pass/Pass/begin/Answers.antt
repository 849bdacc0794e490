use Rattle.std.proofs.Common.{sym, ap, ◌∙◌, arith}
use Rattle.txn_words.specs.Loads.{PassRecord}
use Rattle.cells.specs.Sight.{record_of}
use Rattle.cells.specs.Cells.{CellsId}
use Rattle.cells.proofs.Readers.{still_reading, begins_by}
use Rattle.cells.proofs.pass.Pass.begin.Goals as goal

pub load_clock-number-requires-clause-own : goal.load_clock-number-requires-clause-own
load_clock-number-requires-clause-own c =
    ap (λ (z : CellsId). z.table) (ap (λ v. v.cells) c.self.view_is ∙ (c.requires.own ∙ sym c.cells.view_is))

pub invariant_of-self : goal.invariant_of-self
invariant_of-self c =
    let t = c.load_clock-number.ensures.told in let count = t.3 in still_reading _ _ _ t.1 (λ _. c.load_clock-number.result) (omega arith)

pub returns : goal.returns
returns c =
    let r : PassRecord = record_of c.self.inside.seat.me.0 in let t = c.load_clock-number.ensures.told in
    begins_by _ _ _ _ r _ t.0 c.load_clock-number.result c.self.view_is c.load_clock-number.ensures.seat.0 t.1 t.2 t.3 t.4
