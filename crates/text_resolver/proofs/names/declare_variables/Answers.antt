use Rattle.std.proofs.lemmas.Result.{err_from_is_err_and}
use Rattle.text_grammar.specs.Resolving.{pair_name}
use Rattle.text_grammar.specs.View.{view_pair}
use Rattle.text_resolver.specs.Texts.{texts}
use Rattle.text_resolver.proofs.Texts.{names_fail}
use Rattle.text_resolver.proofs.names.declare_variables.Goals as goal

pub returns-in_err-declare : goal.returns-in_err-declare
returns-in_err-declare c =
    let p = err_from_is_err_and c.from_residual.result c.from_residual.ensures.1 in
    rw (p.1, p.2) (names_fail _ pair_name view_pair (texts c.pairs.names.keys) c.args.pairs.now c.pairs.pair-index c.pair-item.result _ c.pairs-test.true c.pair-item.is c.in_err-declare.ensures c.pairs.invariant)
