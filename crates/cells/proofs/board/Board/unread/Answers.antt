use Rattle.std.proofs.Common.{rules, ◌≡◌, List, [], ◌∷◌, ℤ, sym, subst, refl}
use Rattle.atomic_table.specs.Table.{opening}
use Rattle.txn_words.specs.Words.{last_state}
use Rattle.txn_words.specs.Stores.{opened}
use Rattle.cells.specs.Sight.{publishing}
use Rattle.cells.specs.Rule.{WordsHold}
use Rattle.cells.proofs.Starts.{starts, first_blank}
use Rattle.cells.proofs.board.Board.unread.Goals as goal

pub of_words-requires : goal.of_words-requires
of_words-requires c =
    let none : c.open.result ≡ [] ∷ [] = search rules in
    subst (λ (h : List (List ℤ)). WordsHold (opening (0 ∷ []) [] (publishing (opened (last_state h))))) (sym none) (starts [] (0 ∷ []) (first_blank [] (0 ∷ []) refl))
