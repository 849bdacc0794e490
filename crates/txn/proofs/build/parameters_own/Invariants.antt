use Rattle.std.proofs.Common.{◌≡◌, ℕ, List, drop}
use Rattle.std.specs.List.{list_all}
use Rattle.txn_programs.specs.Names.{has_own_parameters}
use Rattle.txn_programs.specs.Tree.{transaction_of}
use Rattle.txn.specs.NamePlaces.{TellsPlaces}
use Rattle.txn.proofs.build.parameters_own.Given as goal

abbrev pub invariant-loop-tx : goal.invariant-loop-tx
invariant-loop-tx l =
    (variables : List (List ℕ)) → TellsPlaces l.places variables
    → list_all (λ t. has_own_parameters variables (transaction_of t)) (drop l.tx-index l.txs) ≡ list_all (λ t. has_own_parameters variables (transaction_of t)) l.txs
