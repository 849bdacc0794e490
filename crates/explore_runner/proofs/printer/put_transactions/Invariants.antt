use Rattle.std.proofs.Common.{◌≡◌, ◌++◌, string_bytes}
use Rattle.explore_runner.specs.FoundText.{each_below, tx_part}
use Rattle.explore_runner.proofs.printer.put_transactions.Given as goal

abbrev pub invariant-transactions : goal.invariant-transactions
invariant-transactions l = string_bytes l.out ≡ string_bytes l.fn.out ++ each_below (tx_part l.catalogue l.calls l.found) l.k
