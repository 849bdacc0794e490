use Rattle.std.proofs.Common.{◌∙◌, ap, sym, subst, length}
use Rattle.txn_programs.specs.Scope.{ConditionsKnown}
use Rattle.txn_evaluator.specs.Always.{conditions_of}
use Rattle.checker.proofs.opening.conditions_hold.Goals as goal

pub are_true-requires : goal.are_true-requires
are_true-requires c =
    subst (λ n. ConditionsKnown n (conditions_of c.always.result.now)) (sym (ap length c.deref.ensures.value ∙ c.requires)) c.always.ensures.known
