use Rattle.std.proofs.Common.{◌<◌, ◌+◌, List, length, take, sym, ◌∙◌, subst, arith}
use Rattle.std.proofs.lemmas.List.{length-map}
use Rattle.explore_law.specs.declared.graph.Node.{Node}
use Rattle.explore_law.specs.Orders.{Config}
use Rattle.explore_law.specs.Explored.{end_config}
use Rattle.explore_law.specs.Graphs.{ListsTurns}
use Rattle.explore_search.specs.Graphing.{configs, AreNodesOf}
use Rattle.explore_search.specs.Indexed.{config_at}
use Rattle.explore_search.proofs.Indexing.{contains_at}
use Rattle.explore_search.proofs.Graphing.{config_of_end, nodes_start, nodes_more, nodes_all}
use Rattle.explore_search.proofs.graph.nodes_of.Goals as goal

pub states-init : goal.states-init
states-init c =
    let ps = configs c.args.states.now in
    subst (AreNodesOf c.args.catalogue.now ps (take 0 ps)) (sym c.in_ok-nodes.ensures.items) (nodes_start c.args.catalogue.now ps)

pub node_of-requires-clause-listed : goal.node_of-requires-clause-listed
node_of-requires-clause-listed c =
    let es = c.args.states.now in
    let k = c.states.k in
    let e = c.index-states-k.result in
    contains_at (configs es) k (end_config e) (omega (arith, c.states-test.true, length-map es end_config)) (config_of_end es k e c.states-test.true c.index-states-k.is)

pub states-preserved : goal.states-preserved
states-preserved c =
    let l = c.args.catalogue.now in
    let es = c.args.states.now in
    let ps = configs es in
    let k = c.states.k in
    let e = c.index-states-k.result in
    let n = c.in_ok-node.node in
    let at = config_of_end es k e c.states-test.true c.index-states-k.is in
    let turns : ListsTurns l ps (config_at ps k) n.turns.items = subst (λ (p : Config). ListsTurns l ps p n.turns.items) (sym at) c.in_ok-node.ensures.turns in
    let low : k < length ps = omega (arith, c.states-test.true, length-map es end_config) in
    let more = nodes_more l ps c.states.nodes.items n k low (c.in_ok-node.ensures.config ∙ sym at) turns c.states.invariant in
    subst (λ (ns : List Node). AreNodesOf l ps (take (k + 1) ps) ns) (sym c.in_ok-push.ensures.items) more

pub returns : goal.returns
returns c =
    let es = c.args.states.now in
    nodes_all c.args.catalogue.now (configs es) c.states.nodes.items c.states.k (omega (arith, c.states-test.false, length-map es end_config)) c.states.invariant
