use Rattle.std.proofs.Common.{◌≡◌, ◌≤◌, length}
use Rattle.text_words.specs.Tokens.{tokens}
use Rattle.text_words.specs.TokenReading.{is_int, int_at, all_of}
use Rattle.text_grammar.specs.View.{view_numbers}
use Rattle.text_words.proofs.Many.{with_front}
use Rattle.text_parser.proofs.file.numbers_of.Given as goal

abbrev pub invariant-numbers : goal.invariant-numbers
invariant-numbers l = record {
  so_far : with_front (view_numbers l.numbers.items) (all_of is_int int_at (tokens l.rest)) ≡ all_of is_int int_at (tokens l.fn.bytes);
  within : length l.rest ≤ length l.fn.bytes;
}

abbrev pub decreases-numbers : goal.decreases-numbers
decreases-numbers l = length l.rest
