use Rattle.std.proofs.Common.{◌≡◌, length}
use Rattle.std.specs.Prelude.{codes}
use Rattle.text_words.specs.Tokens.{tokens}
use Rattle.text_grammar.specs.Reading.{tx_at}
use Rattle.text_words.specs.TokenReading.{begins, all_of}
use Rattle.text_grammar.specs.View.{view_txs}
use Rattle.text_words.proofs.Many.{with_front}
use Rattle.text_parser.proofs.file.txs_of.Given as goal

abbrev pub invariant-txs : goal.invariant-txs
invariant-txs l = with_front (view_txs l.txs.items) (all_of (begins (codes "tx")) (tx_at l.fn.file_form) (tokens l.rest)) ≡ all_of (begins (codes "tx")) (tx_at l.fn.file_form) (tokens l.fn.bytes)

abbrev pub decreases-txs : goal.decreases-txs
decreases-txs l = length l.rest
