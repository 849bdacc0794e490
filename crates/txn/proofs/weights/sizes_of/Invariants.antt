use Rattle.std.proofs.Common.{◌≡◌, length}
use Rattle.txn.proofs.weights.sizes_of.Given as goal

abbrev pub invariant-sizes : goal.invariant-sizes
invariant-sizes l = length l.sizes.items ≡ l.place
