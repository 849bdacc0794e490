use Rattle.std.proofs.Common.{List, map, subst}
use Rattle.std.specs.List.Sorted.{IsPermutation}
use Rattle.explore_law.specs.Orders.{Config}
use Rattle.explore_law.specs.Explored.{end_config}
use Rattle.std.proofs.lemmas.List.Sorted.{IsPermutation-map}
use Rattle.explore_search.proofs.Ending.{sorted_configs}
use Rattle.explore_search.proofs.found.end_configs.Goals as goal

pub returns-clause-same : goal.returns-clause-same
returns-clause-same c = subst (λ (ps : List Config). IsPermutation ps (map end_config c.sort.new.self.items)) c.in_ok-list.ensures (IsPermutation-map end_config c.in_ok-list.list.items c.sort.new.self.items c.in_ok-sort.ensures.permutation)

pub returns-clause-ascending : goal.returns-clause-ascending
returns-clause-ascending c = sorted_configs c.sort.new.self.items c.in_ok-sort.ensures.sorted
