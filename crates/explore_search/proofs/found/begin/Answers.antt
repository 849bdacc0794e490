use Rattle.std.proofs.Common.{ℕ, List, [], replicate, sym, ◌∙◌, ap, subst, arith}
use Rattle.explore_law.specs.Explored.{ReachesMore}
use Rattle.explore_search.specs.Shelf.{Shelf}
use Rattle.explore_search.specs.Noting.{none_seen}
use Rattle.explore_search.specs.Searching.{IsUnderWay}
use Rattle.explore_search.proofs.Ending.{one_reached, at_start}
use Rattle.explore_search.proofs.found.begin.Goals as goal

pub returns-then-limit-eq0-clause-more : goal.returns-then-limit-eq0-clause-more
returns-then-limit-eq0-clause-more c = λ same. subst (ReachesMore c.args.catalogue.now) (sym c.if-limit-eq0.true) (one_reached c.args.catalogue.now)

pub returns-clause-at_start : goal.returns-clause-at_start
returns-clause-at_start c =
    let l = c.args.catalogue.now in
    let kinds = c.in_ok-kinds.kinds.items in
    let none = c.in_ok-kinds.ensures ∙ ap (λ (n : ℕ). replicate n none_seen) c.tx_count.ensures in
    let start = at_start l c.args.limit kinds (omega (arith, c.if-limit-eq0.false)) c.requires.limit none in
    let listed = subst (λ (s : Shelf). IsUnderWay l c.args.limit s kinds [] 0 0) (sym c.in_ok-configs.ensures) start in
    subst (λ (ends : List ℕ). IsUnderWay l c.args.limit c.in_ok-configs.configs kinds ends 0 0) (sym c.new-3.ensures.items) listed
