use Rattle.std.proofs.Common.{ℕ, sym, ap, ◌∙◌, arith}
use Rattle.txn_words.specs.Loads.{PassRecord, sampled}
use Rattle.cells.specs.Sight.{reading, record_of}
use Rattle.cells.specs.Cells.{CellsId}
use Rattle.cells.proofs.Commits.{half_version}
use Rattle.cells.proofs.Readers.{samples_kept}
use Rattle.cells.proofs.board.Board.load_version.Goals as goal

pub load-requires : goal.load-requires
load-requires c =
    let ids = c.requires.own ∙ sym c.self.view_is in let table = ap (λ (z : CellsId). z.table) ids in let count = ap (λ (z : CellsId). z.variables) ids in
    let wide = c.self.invariant.1 (sym (ap (λ (z : CellsId). z.are_read) (c.requires.own ∙ sym c.self.view_is))) in let exists = c.requires.exists in let all = ap (λ (z : CellsId). z.variables) (sym c.self.view_is) in
    (table, omega arith, samples_kept _ _ _ (record_of c.args.seat.now.me.0) c.args.x c.requires.reader (omega arith))

pub returns-clause-told : goal.returns-clause-told
returns-clause-told c =
    let r : PassRecord = record_of c.args.seat.now.me.0 in
    c.load.ensures.2 r c.requires.reader ∙ ap (λ (v : ℕ). reading (sampled v c.load.result r)) (half_version c.args.x)
