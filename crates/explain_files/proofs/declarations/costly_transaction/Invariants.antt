use Rattle.std.proofs.Common.{◌≡◌, true, map, take}
use Rattle.std.specs.List.{list_all}
use Rattle.txn_programs.specs.Tree.{transaction_of}
use Rattle.txn_declarations.specs.Beside.{fits_beside}
use Rattle.explain_files.proofs.declarations.costly_transaction.Given as goal

abbrev pub invariant-transactions : goal.invariant-transactions
invariant-transactions l = list_all (fits_beside l.always) (take l.number (map transaction_of l.txs)) ≡ true
