use Rattle.std.proofs.Common.{◌≡◌, ◌+◌, ◌≤◌, drop, map, nat_le}
use Rattle.std.specs.List.{list_all}
use Rattle.txn_programs.specs.Tree.{condition_of}
use Rattle.txn_programs.specs.Cost.{conditions_cost}
use Rattle.txn_programs.specs.Depth.{condition_depth}
use Rattle.txn_programs.specs.Limits.{deepest, highest_cost}
use Rattle.txn_declarations.proofs.limits.always_cost.Given as goal

abbrev pub invariant-loop-holds : goal.invariant-loop-holds
invariant-loop-holds l = record {
  cost : l.total + conditions_cost (map (λ a. condition_of a.1) (drop l.holds-index l.always)) ≡ conditions_cost (map (λ a. condition_of a.1) l.always);
  shallow : list_all (λ c. nat_le (condition_depth c) deepest) (map (λ a. condition_of a.1) (drop l.holds-index l.always)) ≡ list_all (λ c. nat_le (condition_depth c) deepest) (map (λ a. condition_of a.1) l.always);
  small : l.total ≤ highest_cost;
}
