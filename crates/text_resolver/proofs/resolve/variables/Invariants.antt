use Rattle.std.proofs.Common.{◌≡◌, drop, map}
use Rattle.text_resolver.specs.Parts.{view_variable}
use Rattle.text_grammar.specs.Resolving.{each, variable_of}
use Rattle.text_grammar.specs.View.{view_pairs}
use Rattle.text_resolver.proofs.Each.{joined}
use Rattle.text_resolver.proofs.resolve.variables.Given as goal

abbrev pub invariant-pairs : goal.invariant-pairs
invariant-pairs l = joined (map view_variable l.made.items) (each variable_of (view_pairs (drop l.pair-index l.pairs))) ≡ each variable_of (view_pairs l.pairs)
