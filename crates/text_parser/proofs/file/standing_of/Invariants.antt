use Rattle.std.proofs.Common.{◌≡◌, length}
use Rattle.std.specs.Prelude.{codes}
use Rattle.text_words.specs.Tokens.{tokens}
use Rattle.text_grammar.specs.Reading.{always_at}
use Rattle.text_words.specs.TokenReading.{begins, all_of}
use Rattle.text_grammar.specs.View.{view_conditions}
use Rattle.text_words.proofs.Many.{with_front}
use Rattle.text_parser.proofs.file.standing_of.Given as goal

abbrev pub invariant-standing : goal.invariant-standing
invariant-standing l = with_front (view_conditions l.standing.items) (all_of (begins (codes "always")) (always_at l.fn.file_form) (tokens l.rest)) ≡ all_of (begins (codes "always")) (always_at l.fn.file_form) (tokens l.fn.bytes)

abbrev pub decreases-standing : goal.decreases-standing
decreases-standing l = length l.rest
