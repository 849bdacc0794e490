use Rattle.std.proofs.Common.{◌≡◌, length, map}
use Rattle.std.specs.Vec.Iter.{into_iter_items, into_iter_len}
use Rattle.text_resolver.specs.Parts.{view_condition}
use Rattle.text_grammar.specs.Resolving.{each, always_in}
use Rattle.text_resolver.specs.Scopes.{view_scope}
use Rattle.text_grammar.specs.View.{view_conditions}
use Rattle.text_resolver.proofs.Each.{joined}
use Rattle.text_resolver.proofs.resolve.conditions.Given as goal

abbrev pub invariant-conditions : goal.invariant-conditions
invariant-conditions l = (joined (map view_condition l.made.items) (each (always_in (view_scope l.outer)) (view_conditions (into_iter_items l.raw-iterator))) ≡ each (always_in (view_scope l.outer)) (view_conditions (into_iter_items l.initial.raw-iterator)))
    × (into_iter_len l.raw-iterator ≡ length (into_iter_items l.raw-iterator))
