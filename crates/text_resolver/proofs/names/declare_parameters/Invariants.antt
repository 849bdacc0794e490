use Rattle.std.proofs.Common.{drop}
use Rattle.text_resolver.specs.Texts.{texts}
use Rattle.text_grammar.specs.View.{view_names}
use Rattle.text_resolver.proofs.Texts.{OwnSoFar}
use Rattle.text_resolver.proofs.names.declare_parameters.Given as goal

abbrev pub invariant-params : goal.invariant-params
invariant-params l = OwnSoFar (texts l.vars.keys) (texts l.names.keys) (view_names (drop l.name-index l.params)) (view_names l.params)
