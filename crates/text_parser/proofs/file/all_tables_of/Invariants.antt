use Rattle.std.proofs.Common.{◌≡◌, length}
use Rattle.std.specs.Prelude.{codes}
use Rattle.text_words.specs.Tokens.{tokens}
use Rattle.text_grammar.specs.Reading.{table_at}
use Rattle.text_words.specs.TokenReading.{begins, all_of}
use Rattle.text_grammar.specs.View.{view_tables}
use Rattle.text_words.proofs.Many.{with_front}
use Rattle.text_parser.proofs.file.all_tables_of.Given as goal

abbrev pub invariant-tables : goal.invariant-tables
invariant-tables l = with_front (view_tables l.tables.items) (all_of (begins (codes "table")) table_at (tokens l.rest)) ≡ all_of (begins (codes "table")) table_at (tokens l.fn.bytes)

abbrev pub decreases-tables : goal.decreases-tables
decreases-tables l = length l.rest
