use Rattle.std.proofs.Common.{◌≡◌, ◌++◌, drop, map}
use Rattle.txn_programs.specs.Tree.{transaction_of}
use Rattle.txn.proofs.parts.transactions.Given as goal

abbrev pub invariant-txs : goal.invariant-txs
invariant-txs l = map transaction_of l.made.items ++ drop l.i l.catalogue.transactions ≡ l.catalogue.transactions
