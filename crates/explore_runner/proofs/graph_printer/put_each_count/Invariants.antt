use Rattle.std.proofs.Common.{◌≡◌, ◌++◌, string_bytes}
use Rattle.explore_runner.specs.FoundText.{each_below}
use Rattle.explore_runner.specs.GraphText.{count_row}
use Rattle.explore_runner.proofs.graph_printer.put_each_count.Given as goal

abbrev pub invariant-counts : goal.invariant-counts
invariant-counts l = string_bytes l.out ≡ string_bytes l.fn.out ++ each_below (count_row l.catalogue l.calls l.word l.counts) l.k
