use Rattle.std.proofs.Common.{◌≡◌, ◌∷◌, drop}
use Rattle.text_words.specs.Bytes.{int_value}
use Rattle.text_words.specs.Numbers.{number_of}
use Rattle.text_grammar.specs.Resolving.{each}
use Rattle.text_grammar.specs.View.{view_numbers}
use Rattle.text_resolver.proofs.Each.{joined}
use Rattle.text_resolver.proofs.tables.numbers.Given as goal

abbrev pub invariant-others : goal.invariant-others
invariant-others l = joined l.made.items (each number_of (view_numbers (drop l.other-index l.others))) ≡ each number_of (int_value l.first.text.now ∷ view_numbers l.others)
