use Rattle.std.proofs.Common.{◌≡◌, ◌++◌, string_bytes}
use Rattle.explore_runner.specs.FoundText.{each_below, waiting_words}
use Rattle.explore_runner.proofs.printer.put_waiting.Given as goal

abbrev pub invariant-waiting : goal.invariant-waiting
invariant-waiting l = string_bytes l.out ≡ string_bytes l.fn.out ++ each_below (waiting_words l.catalogue l.calls l.waiting) l.k
