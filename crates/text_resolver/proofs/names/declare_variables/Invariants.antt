use Rattle.std.proofs.Common.{◌≡◌, drop, map}
use Rattle.text_grammar.specs.Resolving.{declared_after, pair_name}
use Rattle.text_resolver.specs.Texts.{texts}
use Rattle.text_grammar.specs.View.{view_pairs}
use Rattle.text_resolver.proofs.names.declare_variables.Given as goal

abbrev pub invariant-pairs : goal.invariant-pairs
invariant-pairs l = declared_after (texts l.names.keys) (map pair_name (view_pairs (drop l.pair-index l.pairs))) ≡ declared_after (texts l.initial.names.keys) (map pair_name (view_pairs l.pairs))
