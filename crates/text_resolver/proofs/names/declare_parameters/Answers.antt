use Rattle.std.proofs.Common.{◌∙◌, sym}
use Rattle.std.proofs.lemmas.Result.{err_from_is_err_and}
use Rattle.text_resolver.specs.Texts.{texts}
use Rattle.text_grammar.specs.View.{view_names}
use Rattle.text_resolver.proofs.Texts.{own_more, own_variable, own_twice}
use Rattle.text_resolver.proofs.names.declare_parameters.Goals as goal

pub returns-then-is_known : goal.returns-then-is_known
returns-then-is_known c =
    own_variable (texts c.args.vars.now.keys) (texts c.params.names.keys) c.args.params.now c.params.name-index _ (view_names c.args.params.now) c.params-test.true
    (sym c.is_known.ensures ∙ c.if-is_known.true) c.params.invariant

pub returns-in_err-declare : goal.returns-in_err-declare
returns-in_err-declare c =
    let p = err_from_is_err_and c.from_residual.result c.from_residual.ensures.1 in
    rw (p.1, p.2) (own_twice _ (texts c.args.vars.now.keys) (texts c.params.names.keys) c.args.params.now c.params.name-index _ (view_names c.args.params.now) c.params-test.true c.in_err-declare.ensures c.params.invariant)

pub params-preserved : goal.params-preserved
params-preserved c =
    own_more (texts c.args.vars.now.keys) (texts c.params.names.keys) _ c.args.params.now c.params.name-index _ (view_names c.args.params.now) c.params-test.true
    (sym c.is_known.ensures ∙ c.if-is_known.false) c.in_ok-declare.ensures c.params.invariant
