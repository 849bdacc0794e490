use Rattle.std.proofs.Common.{sym, ap, ◌∙◌, arith}
use Rattle.cells.specs.Sight.{record_of}
use Rattle.cells.specs.Cells.{CellsId}
use Rattle.cells.proofs.Readers.{begins_kept}
use Rattle.cells.proofs.board.Board.load_clock.Goals as goal

pub load-requires : goal.load-requires
load-requires c =
    let table = c.requires.own ∙ sym (ap (λ (z : CellsId). z.table) c.self.view_is) in let wide = c.self.invariant.0 in
    (table, omega arith, begins_kept _ _ _ (record_of c.args.seat.now.me.0) c.requires.reader)

pub returns-clause-told : goal.returns-clause-told
returns-clause-told c = c.load.ensures.2 (record_of c.args.seat.now.me.0) c.requires.reader
