use Rattle.std.proofs.Common.{◌≡◌, ◌++◌, string_bytes}
use Rattle.std.specs.Prelude.{slice_get}
use Rattle.explore_runner.specs.FoundText.{each_below}
use Rattle.explore_runner.specs.GraphText.{turn_lines}
use Rattle.explore_runner.proofs.graph_printer.put_turns.Given as goal

abbrev pub invariant-nodes : goal.invariant-nodes
invariant-nodes l = string_bytes l.out ≡ string_bytes l.fn.out ++ each_below (λ n. turn_lines l.catalogue l.calls n (slice_get l.nodes n)) l.k
