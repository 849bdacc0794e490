use Rattle.std.proofs.Common.{◌≡◌, length}
use Rattle.text_words.specs.Tokens.{tokens}
use Rattle.text_grammar.specs.Reading.{pair_at}
use Rattle.text_words.specs.TokenReading.{begins, all_of}
use Rattle.text_grammar.specs.View.{view_pairs}
use Rattle.text_words.proofs.Many.{with_front}
use Rattle.text_parser.proofs.file.pairs_of.Given as goal

abbrev pub invariant-pairs : goal.invariant-pairs
invariant-pairs l = with_front (view_pairs l.pairs.items) (all_of (begins l.fn.word) (pair_at l.fn.word) (tokens l.rest)) ≡ all_of (begins l.fn.word) (pair_at l.fn.word) (tokens l.fn.bytes)

abbrev pub decreases-pairs : goal.decreases-pairs
decreases-pairs l = length l.rest
