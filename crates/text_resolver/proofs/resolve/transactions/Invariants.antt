use Rattle.std.proofs.Common.{◌≡◌, true, length, map}
use Rattle.std.specs.List.{list_all}
use Rattle.std.specs.Vec.Iter.{into_iter_items, into_iter_len}
use Rattle.txn_programs.specs.Tree.{transaction_of}
use Rattle.text_grammar.specs.Resolving.{each, transaction_in}
use Rattle.text_resolver.specs.Scopes.{view_scope, has_own_parameters}
use Rattle.text_grammar.specs.View.{view_txs}
use Rattle.text_resolver.proofs.Each.{joined}
use Rattle.text_resolver.proofs.resolve.transactions.Given as goal

abbrev pub invariant-txs : goal.invariant-txs
invariant-txs l = (joined (map transaction_of l.made.items) (each (transaction_in (view_scope l.outer)) (view_txs (into_iter_items l.tx-iterator))) ≡ each (transaction_in (view_scope l.outer)) (view_txs (into_iter_items l.initial.tx-iterator)))
    × (into_iter_len l.tx-iterator ≡ length (into_iter_items l.tx-iterator))
    × (list_all (has_own_parameters (view_scope l.outer)) (view_txs (into_iter_items l.tx-iterator)) ≡ true)
