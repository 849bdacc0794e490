use Rattle.std.proofs.Common.{ℕ, ◌*◌, sym, ap, ◌∙◌, arith}
use Rattle.txn_words.specs.Words.{Commit}
use Rattle.txn_words.specs.Stores.{after_release}
use Rattle.cells.specs.Sight.{publishing, commit_of}
use Rattle.cells.specs.Cells.{CellsId}
use Rattle.cells.proofs.Commits.{releases_kept, half_version}
use Rattle.cells.proofs.board.Board.release_version.Goals as goal

pub store-requires : goal.store-requires
store-requires c =
    let table = c.requires.own ∙ sym (ap (λ (z : CellsId). z.table) c.self.view_is) in let wide = c.self.invariant.1 (ap (λ (z : CellsId). z.are_read) c.self.view_is ∙ c.requires.read) in
    let exists = c.requires.exists in let all = ap (λ (z : CellsId). z.variables) (sym c.self.view_is) in
    let many = c.requires.number.0 in
    (table, omega arith, releases_kept _ _ _ (commit_of c.args.seat.now.me.0) c.args.x _ c.requires.publisher c.requires.may (ap (λ (z : ℕ). 2 * z) (omega arith)))

pub returns-clause-told : goal.returns-clause-told
returns-clause-told c =
    let r : Commit = commit_of c.args.seat.now.me.0 in
    c.store.ensures.2 r c.requires.publisher ∙ ap (λ (z : ℕ). publishing (after_release z r)) (half_version c.args.x)
