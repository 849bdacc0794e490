use Rattle.std.proofs.Common.{◌≡◌, ◌≤◌, length}
use Rattle.text_words.specs.Tokens.{tokens}
use Rattle.text_words.specs.TokenReading.{is_name, name_at, all_of}
use Rattle.text_grammar.specs.View.{view_names}
use Rattle.text_words.proofs.Many.{with_front}
use Rattle.text_parser.proofs.file.names_of.Given as goal

abbrev pub invariant-names : goal.invariant-names
invariant-names l = record {
  so_far : with_front (view_names l.names.items) (all_of is_name name_at (tokens l.rest)) ≡ all_of is_name name_at (tokens l.fn.bytes);
  within : length l.rest ≤ length l.fn.bytes;
}

abbrev pub decreases-names : goal.decreases-names
decreases-names l = length l.rest
