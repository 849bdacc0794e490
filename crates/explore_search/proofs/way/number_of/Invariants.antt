use Rattle.std.proofs.Common.{◌≢◌, ℕ, take}
use Rattle.std.specs.Prelude.{All}
use Rattle.explore_law.specs.Explored.{end_config}
use Rattle.explore_search.specs.Indexed.{config_at}
use Rattle.explore_search.proofs.way.number_of.Given as goal

abbrev pub invariant-numbers : goal.invariant-numbers
invariant-numbers l = All (λ (i : ℕ). config_at l.configs.configs i ≢ end_config l.end) (take l.i-index l.numbers)
