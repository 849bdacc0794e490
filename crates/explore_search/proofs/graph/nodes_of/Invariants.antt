use Rattle.std.proofs.Common.{take}
use Rattle.explore_search.specs.Graphing.{configs, AreNodesOf}
use Rattle.explore_search.proofs.graph.nodes_of.Given as goal

abbrev pub invariant-states : goal.invariant-states
invariant-states l = AreNodesOf l.catalogue (configs l.states) (take l.k (configs l.states)) l.nodes.items
