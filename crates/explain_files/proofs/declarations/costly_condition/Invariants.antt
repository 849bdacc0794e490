use Rattle.std.proofs.Common.{◌≡◌, true, map, take}
use Rattle.txn_programs.specs.Tree.{condition_of}
use Rattle.txn_programs.specs.Limits.{conditions_fit}
use Rattle.explain_files.proofs.declarations.costly_condition.Given as goal

abbrev pub invariant-conditions : goal.invariant-conditions
invariant-conditions l = conditions_fit (map (λ a. condition_of a.1) (take l.number l.always)) ≡ true
