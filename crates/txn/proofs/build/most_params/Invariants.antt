use Rattle.std.proofs.Common.{◌≡◌, drop, map, max}
use Rattle.txn_programs.specs.Tree.{transaction_of}
use Rattle.txn.specs.Arities.{most_arity}
use Rattle.txn.proofs.build.most_params.Given as goal

abbrev pub invariant-loop-tx : goal.invariant-loop-tx
invariant-loop-tx l = max l.most (most_arity (map transaction_of (drop l.tx-index l.txs))) ≡ most_arity (map transaction_of l.txs)
