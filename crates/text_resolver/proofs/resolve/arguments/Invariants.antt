use Rattle.std.proofs.Common.{◌≡◌, length, take, drop}
use Rattle.text_words.specs.Numbers.{number_of}
use Rattle.text_grammar.specs.Resolving.{each}
use Rattle.text_grammar.specs.View.{view_numbers}
use Rattle.text_resolver.proofs.Each.{joined}
use Rattle.text_resolver.proofs.resolve.arguments.Given as goal

abbrev pub invariant-numerals : goal.invariant-numerals
invariant-numerals l = (joined (take l.i l.values) (each number_of (view_numbers (drop l.i l.numerals))) ≡ each number_of (view_numbers l.numerals)) × (length l.values ≡ 8)
