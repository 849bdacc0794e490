use Rattle.std.proofs.Common.{◌≡◌, map, take}
use Rattle.txn_programs.specs.Tree.{transaction_of}
use Rattle.txn_declarations.proofs.copy.transactions_of.Given as goal

abbrev pub invariant-loop-tx : goal.invariant-loop-tx
invariant-loop-tx l = map transaction_of l.copies.items ≡ map transaction_of (take l.tx-index l.txs)
