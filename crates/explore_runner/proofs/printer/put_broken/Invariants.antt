use Rattle.std.proofs.Common.{◌≡◌, ◌++◌, string_bytes}
use Rattle.explore_runner.specs.FoundText.{each_below, broke_word}
use Rattle.explore_runner.proofs.printer.put_broken.Given as goal

abbrev pub invariant-conditions : goal.invariant-conditions
invariant-conditions l = string_bytes l.out ≡ string_bytes l.fn.out ++ each_below (broke_word l.catalogue l.kinds) l.k
