use Rattle.std.proofs.Common.{◌≡◌, drop}
use Rattle.explore_runner.specs.GraphText.{shares_values}
use Rattle.explore_runner.proofs.graph_printer.shares_values.Given as goal

abbrev pub invariant-nodes : goal.invariant-nodes
invariant-nodes l = shares_values (drop l.other-index l.nodes) l.node ≡ shares_values l.nodes l.node
