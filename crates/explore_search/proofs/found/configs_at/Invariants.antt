use Rattle.std.proofs.Common.{◌≡◌, map, take}
use Rattle.explore_law.specs.Explored.{end_config}
use Rattle.explore_search.specs.Indexed.{config_at}
use Rattle.explore_search.proofs.found.configs_at.Given as goal

abbrev pub invariant-ends : goal.invariant-ends
invariant-ends l = map end_config l.list.items ≡ map (config_at l.configs.configs) (take l.i-index l.ends)
