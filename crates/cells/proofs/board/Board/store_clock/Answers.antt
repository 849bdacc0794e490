use Rattle.std.proofs.Common.{sym, ap, ◌∙◌, arith}
use Rattle.cells.specs.Sight.{commit_of}
use Rattle.cells.specs.Cells.{CellsId}
use Rattle.cells.proofs.Commits.{clock_kept}
use Rattle.cells.proofs.board.Board.store_clock.Goals as goal

pub store-requires : goal.store-requires
store-requires c =
    let table = c.requires.own ∙ sym (ap (λ (z : CellsId). z.table) c.self.view_is) in let wide = c.self.invariant.0 in
    (table, omega arith, clock_kept _ _ _ (commit_of c.args.seat.now.me.0) _ c.requires.publisher c.requires.number)

pub returns-clause-told : goal.returns-clause-told
returns-clause-told c = c.store.ensures.2 (commit_of c.args.seat.now.me.0) c.requires.publisher
