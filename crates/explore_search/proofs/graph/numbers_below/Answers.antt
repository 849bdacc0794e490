use Rattle.std.proofs.Common.{ℕ, List, [], ◌∷◌, ◌++◌, sym, ◌∙◌, ap}
use Rattle.explore_search.proofs.Graphing.{range_push}
use Rattle.explore_search.proofs.graph.numbers_below.Goals as goal

pub numbers-preserved : goal.numbers-preserved
numbers-preserved c =
    let i = c.numbers.i in
    c.in_ok-push.ensures.items ∙ ap (λ (xs : List ℕ). xs ++ i ∷ []) c.numbers.invariant ∙ sym (range_push i)
