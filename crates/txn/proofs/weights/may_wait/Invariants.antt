use Rattle.std.proofs.Common.{◌≡◌, false, take}
use Rattle.std.specs.List.{list_any}
use Rattle.txn_programs.specs.Tree.{Transaction}
use Rattle.txn_programs.specs.Fused.{own_code}
use Rattle.txn.specs.Weighing.{is_back}
use Rattle.txn.proofs.weights.may_wait.Given as goal

abbrev pub invariant-transactions : goal.invariant-transactions
invariant-transactions l = list_any (λ (t : Transaction). list_any is_back (own_code t.body t.result)) (take l.place l.catalogue.transactions) ≡ false
