use Rattle.std.proofs.Common.{length, drop}
use Rattle.txn_programs.specs.Scope.{ConditionsKnown}
use Rattle.txn_evaluator.specs.Always.{conditions_of}
use Rattle.explain_reports.specs.First.{RightBefore}
use Rattle.explain_reports.specs.Parts.{IsTrueOf}
use Rattle.explain_reports.proofs.base.first_untrue.Given as goal

abbrev pub invariant-conditions : goal.invariant-conditions
invariant-conditions l = record {
  before : RightBefore (IsTrueOf l.values) (conditions_of l.always) l.i;
  known : ConditionsKnown (length l.values) (conditions_of (drop l.i l.always));
}
