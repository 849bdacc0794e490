use Rattle.explore_law.specs.Explored.{end_config}
use Rattle.explore_search.specs.Graphing.{configs, ListsTurnsBelow}
use Rattle.explore_search.proofs.graph.turns_of.Given as goal

abbrev pub invariant-turns : goal.invariant-turns
invariant-turns l = ListsTurnsBelow l.catalogue (configs l.states) (end_config l.state) l.k l.turns.items
