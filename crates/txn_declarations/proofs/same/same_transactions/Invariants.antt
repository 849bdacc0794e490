use Rattle.std.proofs.Common.{◌≡◌, ◌↔◌, drop, map}
use Rattle.txn_programs.specs.Tree.{transaction_of}
use Rattle.txn_declarations.proofs.same.same_transactions.Given as goal

-- the lists are equal where what is left of them is
abbrev pub invariant-loop-tx : goal.invariant-loop-tx
invariant-loop-tx l = (map transaction_of (drop l.tx-index l.txs) ≡ map transaction_of l.rest) ↔ (map transaction_of l.txs ≡ map transaction_of l.others)
