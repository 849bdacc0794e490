use Rattle.std.proofs.Common.{◌≡◌, true, arith}
use Rattle.std.proofs.lemmas.Grind.{common_steps}
use Rattle.text_resolver.specs.Parts.{view_condition}
use Rattle.explain_files.proofs.Costly.{true_of, all_more}
use Rattle.explain_files.proofs.declarations.first_untrue.Goals as goal

pub conditions-preserved : goal.conditions-preserved
conditions-preserved c =
    let holds : true_of c.args.state.now (view_condition c.index-always-number.result) ≡ true = grind (arith, common_steps) in
    (grind (arith, common_steps), all_more (true_of c.args.state.now) view_condition c.args.always.now c.conditions.number c.index-always-number.result c.conditions-test.true c.index-always-number.is c.conditions.invariant.1 holds)
