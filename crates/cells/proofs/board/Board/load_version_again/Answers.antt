use Rattle.std.proofs.Common.{sym, ap, ◌∙◌, arith}
use Rattle.cells.specs.Sight.{record_of}
use Rattle.cells.specs.Cells.{CellsId}
use Rattle.cells.proofs.Readers.{versions_read}
use Rattle.cells.proofs.board.Board.load_version_again.Goals as goal

pub load-requires : goal.load-requires
load-requires c =
    let ids = c.requires.own ∙ sym c.self.view_is in let table = ap (λ (z : CellsId). z.table) ids in let count = ap (λ (z : CellsId). z.variables) ids in
    let wide = c.self.invariant.1 (sym (ap (λ (z : CellsId). z.are_read) (c.requires.own ∙ sym c.self.view_is))) in let exists = c.requires.exists in let all = ap (λ (z : CellsId). z.variables) (sym c.self.view_is) in
    let after = c.requires.after in
    (table, omega arith, versions_read _ _ _ (record_of c.args.seat.now.me.0) c.args.x after.1.0 after.1.1 c.requires.reader after.0 after.1.2)

pub returns-clause-told : goal.returns-clause-told
returns-clause-told c = c.load.ensures.2 (record_of c.args.seat.now.me.0) c.requires.reader
