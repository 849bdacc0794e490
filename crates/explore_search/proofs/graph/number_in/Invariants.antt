use Rattle.std.proofs.Common.{◌≡◌, ℕ, ◌<◌}
use Rattle.explore_law.specs.Explored.{end_config}
use Rattle.explore_search.specs.Graphing.{configs}
use Rattle.explore_search.specs.Indexed.{config_at}
use Rattle.explore_search.proofs.graph.number_in.Given as goal

-- it is none of those before
abbrev pub invariant-states : goal.invariant-states
invariant-states l = (j : ℕ) → j < l.k → config_at (configs l.states) j ≡ end_config l.state → ⊥
