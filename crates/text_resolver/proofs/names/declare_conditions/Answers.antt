use Rattle.std.proofs.lemmas.Result.{err_from_is_err_and}
use Rattle.text_grammar.specs.Resolving.{condition_name}
use Rattle.text_grammar.specs.View.{view_always}
use Rattle.text_resolver.specs.Texts.{texts}
use Rattle.text_resolver.proofs.Texts.{names_fail}
use Rattle.text_resolver.proofs.names.declare_conditions.Goals as goal

pub returns-in_err-declare : goal.returns-in_err-declare
returns-in_err-declare c =
    let p = err_from_is_err_and c.from_residual.result c.from_residual.ensures.1 in
    rw (p.1, p.2) (names_fail _ condition_name view_always (texts c.conditions.names.keys) c.args.conditions.now c.conditions.condition-index c.condition-item.result _ c.conditions-test.true c.condition-item.is c.in_err-declare.ensures c.conditions.invariant)
