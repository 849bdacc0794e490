use Rattle.std.proofs.Common.{◌≡◌, drop, map}
use Rattle.text_grammar.specs.Resolving.{declared_after, condition_name}
use Rattle.text_resolver.specs.Texts.{texts}
use Rattle.text_grammar.specs.View.{view_conditions}
use Rattle.text_resolver.proofs.names.declare_conditions.Given as goal

abbrev pub invariant-conditions : goal.invariant-conditions
invariant-conditions l = declared_after (texts l.names.keys) (map condition_name (view_conditions (drop l.condition-index l.conditions))) ≡ declared_after (texts l.initial.names.keys) (map condition_name (view_conditions l.conditions))
