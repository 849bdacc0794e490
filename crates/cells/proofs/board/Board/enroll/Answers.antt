use Rattle.std.proofs.Common.{sym, ap, ◌∙◌, arith}
use Rattle.cells.specs.Sight.{commit_of}
use Rattle.cells.specs.Cells.{CellsId}
use Rattle.cells.proofs.Starts.{enrolls}
use Rattle.cells.proofs.board.Board.enroll.Goals as goal

pub split_seat-requires : goal.split_seat-requires
split_seat-requires c =
    let table = c.requires.own ∙ sym (ap (λ (z : CellsId). z.table) c.self.view_is) in let wide = c.self.invariant.0 in
    (table, omega arith, enrolls _ _ (commit_of c.args.publisher.now.me.0) c.requires.publisher)
