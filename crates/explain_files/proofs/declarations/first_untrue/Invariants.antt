use Rattle.std.proofs.Common.{◌≡◌, true, length, map, take, drop}
use Rattle.std.specs.List.{list_all}
use Rattle.txn_programs.specs.Scope.{ConditionsKnown}
use Rattle.txn_evaluator.specs.Always.{conditions_of}
use Rattle.text_resolver.specs.Parts.{view_condition}
use Rattle.explain_files.proofs.Costly.{true_of}
use Rattle.explain_files.proofs.declarations.first_untrue.Given as goal

abbrev pub invariant-conditions : goal.invariant-conditions
invariant-conditions l = ConditionsKnown (length l.state) (conditions_of (drop l.number l.always)) × (list_all (true_of l.state) (take l.number (map view_condition l.always)) ≡ true)
