use Rattle.std.proofs.Common.{List, length, sym, ap, subst, arith}
use Rattle.std.specs.List.Sorted.{IsSorted}
use Rattle.std.proofs.lemmas.List.{length-map}
use Rattle.explore_law.specs.declared.found.End.{End}
use Rattle.explore_law.specs.Explored.{ListsReached, end_config, config_cmp}
use Rattle.explore_law.specs.Graphs.{node_config}
use Rattle.explore_search.specs.Graphing.{configs, IsSized}
use Rattle.explore_search.proofs.Graphing.{graph_made}
use Rattle.explore_search.proofs.graph.graph_of.Goals as goal

pub nodes_of-requires-clause-reached : goal.nodes_of-requires-clause-reached
nodes_of-requires-clause-reached c = subst (λ (es : List End). ListsReached c.args.catalogue.now (configs es)) (sym c.as_slice-2.ensures.value) c.in_ok-states.ensures.reached

pub nodes_of-requires-clause-sized : goal.nodes_of-requires-clause-sized
nodes_of-requires-clause-sized c = subst (λ (es : List End). IsSized c.args.catalogue.now (configs es)) (sym c.as_slice-2.ensures.value) c.in_ok-states.ensures.sized

pub nodes_of-requires-clause-few : goal.nodes_of-requires-clause-few
nodes_of-requires-clause-few c = omega (arith, ap length c.as_slice-2.ensures.value, c.in_ok-states.ensures.few, c.requires)

pub returns-clause-graph : goal.returns-clause-graph
returns-clause-graph c =
    let l = c.args.catalogue.now in
    let es = c.as_slice-2.result.now in
    let reached = subst (λ (es : List End). ListsReached l (configs es)) (sym c.as_slice-2.ensures.value) c.in_ok-states.ensures.reached in
    let sorted = subst (λ (es : List End). IsSorted config_cmp (configs es)) (sym c.as_slice-2.ensures.value) c.in_ok-states.ensures.ascend in
    graph_made l (configs es) (record { nodes = c.in_ok-nodes.nodes }) reached sorted c.in_ok-nodes.ensures

pub returns-clause-few : goal.returns-clause-few
returns-clause-few c =
    let es = c.as_slice-2.result.now in
    let ns = c.in_ok-nodes.nodes.items in
    omega (arith, length-map ns node_config, ap length c.in_ok-nodes.ensures.same, length-map es end_config, ap length c.as_slice-2.ensures.value, c.in_ok-states.ensures.few)
