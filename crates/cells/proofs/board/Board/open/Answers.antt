use Rattle.std.proofs.Common.{rules, ◌≡◌, List, [], ◌∷◌, ℤ, sym, subst}
use Rattle.atomic_table.specs.Table.{opening}
use Rattle.txn_words.specs.Words.{last_state}
use Rattle.txn_words.specs.Stores.{opened}
use Rattle.cells.specs.Sight.{publishing}
use Rattle.cells.specs.Rule.{WordsHold}
use Rattle.cells.proofs.Starts.{starts}
use Rattle.cells.proofs.board.Board.open.Goals as goal

pub of_words-requires : goal.of_words-requires
of_words-requires c =
    let m = c.args.values.now in let words = c.args.words.now in
    let values : c.open.result ≡ m ∷ [] = search rules in
    subst (λ (h : List (List ℤ)). WordsHold (opening words [] (publishing (opened (last_state h))))) (sym values) (starts m words c.requires.words)
