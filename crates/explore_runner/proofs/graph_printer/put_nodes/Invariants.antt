use Rattle.std.proofs.Common.{◌≡◌, ◌++◌, string_bytes}
use Rattle.std.specs.Prelude.{slice_get}
use Rattle.explore_runner.specs.FoundText.{each_below}
use Rattle.explore_runner.specs.GraphText.{node_line}
use Rattle.explore_runner.proofs.graph_printer.put_nodes.Given as goal

abbrev pub invariant-nodes : goal.invariant-nodes
invariant-nodes l = string_bytes l.out ≡ string_bytes l.fn.out ++ each_below (λ n. node_line l.catalogue l.calls l.nodes n (slice_get l.nodes n)) l.k
