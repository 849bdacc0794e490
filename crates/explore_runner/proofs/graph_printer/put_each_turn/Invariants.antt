use Rattle.std.proofs.Common.{◌≡◌, ◌++◌, take, string_bytes}
use Rattle.std.specs.List.{flat_map}
use Rattle.explore_runner.specs.GraphText.{turn_line}
use Rattle.explore_runner.proofs.graph_printer.put_each_turn.Given as goal

abbrev pub invariant-turns : goal.invariant-turns
invariant-turns l = string_bytes l.out ≡ string_bytes l.fn.out ++ flat_map (turn_line l.catalogue l.calls l.k) (take l.turn-index l.turns)
