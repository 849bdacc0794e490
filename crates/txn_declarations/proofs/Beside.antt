-- To keep the limits beside the conditions' cost is to keep them with the conditions.
use Rattle.std.proofs.Common.{◌≡◌, List, map}
use Rattle.std.specs.List.{list_all}
use Rattle.std.proofs.lemmas.List.Folds.{list_all-map}
use Rattle.txn_programs.specs.declared.ast.Tx.{Tx}
use Rattle.txn_programs.specs.Tree.{Condition, transaction_of, under}
use Rattle.txn_programs.specs.Cost.{conditions_cost}
use Rattle.txn_programs.specs.Limits.{program_fits}
use Rattle.txn_declarations.specs.Beside.{fits_beside}

pub all_fit_beside : (cs : List Condition) (txs : List Tx) → list_all (λ t. program_fits (under cs t)) (map transaction_of txs) ≡ list_all (λ tx. fits_beside (conditions_cost cs) (transaction_of tx)) txs
all_fit_beside cs txs = list_all-map (λ t. program_fits (under cs t)) transaction_of txs
