use Rattle.std.proofs.Common.{◌≡◌, drop, map}
use Rattle.text_grammar.specs.Resolving.{declared_after, tx_name}
use Rattle.text_resolver.specs.Texts.{texts}
use Rattle.text_grammar.specs.View.{view_txs}
use Rattle.text_resolver.proofs.names.declare_transactions.Given as goal

abbrev pub invariant-txs : goal.invariant-txs
invariant-txs l = declared_after (texts l.names.keys) (map tx_name (view_txs (drop l.tx-index l.txs))) ≡ declared_after (texts l.initial.names.keys) (map tx_name (view_txs l.txs))
