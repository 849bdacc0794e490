use Rattle.std.proofs.Common.{◌↔◌, length, drop}
use Rattle.txn_programs.specs.Scope.{ConditionsKnown}
use Rattle.txn_programs.specs.Standing.{AllTrue}
use Rattle.txn_evaluator.specs.Always.{conditions_of}
use Rattle.checker.proofs.opening.are_true.Given as goal

abbrev pub invariant-conditions : goal.invariant-conditions
invariant-conditions l = record {
  rest : AllTrue (conditions_of (drop l.condition-index l.always)) l.values ↔ AllTrue (conditions_of l.always) l.values;
  known : ConditionsKnown (length l.values) (conditions_of (drop l.condition-index l.always));
}
