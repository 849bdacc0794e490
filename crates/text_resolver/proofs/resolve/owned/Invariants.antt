use Rattle.std.proofs.Common.{◌≡◌, ◌++◌, drop, map, string_bytes}
use Rattle.text_grammar.specs.View.{view_names}
use Rattle.text_resolver.proofs.resolve.owned.Given as goal

abbrev pub invariant-names : goal.invariant-names
invariant-names l = map string_bytes l.made.items ++ view_names (drop l.name-index l.names) ≡ view_names l.names
