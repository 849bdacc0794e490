use Rattle.std.proofs.Common.{◌≡◌, ℕ, ℤ, sym, ap, ◌∙◌, arith}
use Rattle.std.specs.Int.{w64, cast_signed}
use Rattle.std.proofs.lemmas.Int.{to_z-of_z}
use Rattle.txn_words.specs.Words.{Commit}
use Rattle.txn_words.specs.Stores.{after_value}
use Rattle.cells.specs.Sight.{publishing, commit_of}
use Rattle.cells.specs.Cells.{CellsId}
use Rattle.cells.proofs.Commits.{values_kept, half_value}
use Rattle.cells.proofs.board.Board.store_value.Goals as goal

pub store-requires : goal.store-requires
store-requires c =
    let table = c.requires.own ∙ sym (ap (λ (z : CellsId). z.table) c.self.view_is) in let wide = c.self.invariant.1 (ap (λ (z : CellsId). z.are_read) c.self.view_is ∙ c.requires.read) in
    let exists = c.requires.exists in let all = ap (λ (z : CellsId). z.variables) (sym c.self.view_is) in
    (table, omega arith, values_kept _ _ _ (commit_of c.args.seat.now.me.0) c.args.x _ c.requires.publisher c.requires.may)

pub returns-clause-told : goal.returns-clause-told
returns-clause-told c =
    let r : Commit = commit_of c.args.seat.now.me.0 in let x : ℕ = c.args.x in
    let is : cast_signed w64 c.cast_unsigned.result ≡ c.args.value = grind (arith, to_z-of_z) in
    c.store.ensures.2 r c.requires.publisher ∙ (ap (λ (z : ℕ). publishing (after_value z (cast_signed w64 c.cast_unsigned.result) r)) (half_value x)
    ∙ ap (λ (z : ℤ). publishing (after_value x z r)) is)
