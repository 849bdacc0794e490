use Rattle.std.proofs.Common.{◌≡◌, ◌+◌, ◌*◌, ◌≤◌, length}
use Rattle.text_words.specs.Tokens.{tokens}
use Rattle.text_grammar.specs.Reading.{stmt_at}
use Rattle.text_words.specs.TokenReading.{all_of, is_open}
use Rattle.text_grammar.specs.View.{view_stmts}
use Rattle.text_words.proofs.Many.{with_front}
use Rattle.text_parser.proofs.stmt.+stmts.Given as goal

abbrev pub decreases-stmt_of : goal.decreases-stmt_of
decreases-stmt_of l = 4 * l.depth

abbrev pub decreases-seq_of : goal.decreases-seq_of
decreases-seq_of l = 4 * l.depth + 3

abbrev pub invariant-seq_of-parts : goal.invariant-seq_of-parts
invariant-seq_of-parts l = record {
  so_far : with_front (view_stmts l.parts.items) (all_of is_open (stmt_at l.file_form l.depth) (tokens l.rest)) ≡ all_of is_open (stmt_at l.fn.file_form l.fn.depth) (tokens l.fn.bytes);
  same : (l.file_form ≡ l.fn.file_form) × (l.depth ≡ l.fn.depth);
  within : length l.rest ≤ length l.fn.bytes;
}

abbrev pub decreases-seq_of-parts : goal.decreases-seq_of-parts
decreases-seq_of-parts l = length l.rest

abbrev pub decreases-if_of : goal.decreases-if_of
decreases-if_of l = 4 * l.depth + 3

abbrev pub decreases-repeat_of : goal.decreases-repeat_of
decreases-repeat_of l = 4 * l.depth + 3

abbrev pub decreases-orelse_of : goal.decreases-orelse_of
decreases-orelse_of l = 4 * l.depth + 3

abbrev pub decreases-boxed : goal.decreases-boxed
decreases-boxed l = 4 * l.depth + 1

abbrev pub decreases-choice_of : goal.decreases-choice_of
decreases-choice_of l = 4 * l.depth + 2
