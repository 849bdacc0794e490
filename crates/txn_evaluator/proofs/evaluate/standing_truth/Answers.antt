use Rattle.std.proofs.Common.{[], length, sym, ap, ◌∙◌, subst}
use Rattle.txn_programs.specs.Meaning.{truth}
use Rattle.txn_programs.specs.Scope.{ConditionKnown}
use Rattle.txn_programs.specs.Tree.{Condition, condition_of}
use Rattle.txn_programs.proofs.Instances.{condition_same}
use Rattle.txn_evaluator.proofs.evaluate.standing_truth.Goals as goal

pub truth-requires : goal.truth-requires
truth-requires c =
    let n = length c.args.state.now in
    let asked = condition_of c.args.c.now in
    subst (ConditionKnown n) (sym (condition_same n [] asked c.requires)) c.requires

pub returns : goal.returns
returns c =
    c.truth.ensures ∙ ap (λ (d : Condition). truth d c.args.state.now) (condition_same (length c.args.state.now) [] (condition_of c.args.c.now) c.requires)
