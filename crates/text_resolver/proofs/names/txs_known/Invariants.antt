use Rattle.std.proofs.Common.{◌≡◌, drop}
use Rattle.std.specs.List.{list_all}
use Rattle.text_grammar.specs.Resolving.{tx_known}
use Rattle.text_resolver.specs.Scopes.{view_scope}
use Rattle.text_grammar.specs.View.{view_tx}
use Rattle.text_resolver.proofs.names.txs_known.Given as goal

abbrev pub invariant-txs : goal.invariant-txs
invariant-txs l = list_all (λ tx. tx_known (view_scope l.outer) (view_tx tx)) (drop l.tx-index l.txs) ≡ list_all (λ tx. tx_known (view_scope l.outer) (view_tx tx)) l.txs
