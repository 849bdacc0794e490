use Rattle.std.proofs.Common.{◌≡◌, ◌++◌, string_bytes}
use Rattle.explore_runner.specs.FoundText.{each_below}
use Rattle.explore_runner.specs.GraphText.{value_row}
use Rattle.explore_runner.proofs.graph_printer.put_values.Given as goal

abbrev pub invariant-values : goal.invariant-values
invariant-values l = string_bytes l.out ≡ string_bytes l.fn.out ++ each_below (value_row l.catalogue l.values) l.k
