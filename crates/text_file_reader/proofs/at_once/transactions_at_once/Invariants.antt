use Rattle.std.proofs.Common.{length, map}
use Rattle.std.specs.Prelude.{codes}
use Rattle.txn_programs.specs.Tree.{transaction_of}
use Rattle.text_words.specs.Tokens.{tokens}
use Rattle.text_words.specs.TokenReading.{begins, all_of}
use Rattle.text_grammar.specs.Reading.{tx_at}
use Rattle.text_grammar.specs.Resolving.{tx_name}
use Rattle.text_resolver.specs.Texts.{texts}
use Rattle.text_resolver.specs.Scopes.{view_scope}
use Rattle.text_file_reader.specs.Resolved.{own_transaction_in}
use Rattle.text_file_reader.proofs.AtOnce.{SoFar}
use Rattle.text_file_reader.proofs.at_once.transactions_at_once.Given as goal

abbrev pub invariant-txs : goal.invariant-txs
invariant-txs l = SoFar (codes "tx") (tx_at l.fn.file_form) (own_transaction_in (view_scope l.fn.outer)) tx_name (all_of (begins (codes "tx")) (tx_at l.fn.file_form) (tokens l.fn.bytes)) (map transaction_of l.made.items) (texts l.names.keys) (tokens l.rest)

abbrev pub decreases-txs : goal.decreases-txs
decreases-txs l = length (tokens l.rest)
