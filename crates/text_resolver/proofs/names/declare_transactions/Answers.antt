use Rattle.std.proofs.lemmas.Result.{err_from_is_err_and}
use Rattle.text_grammar.specs.Resolving.{tx_name}
use Rattle.text_grammar.specs.View.{view_tx}
use Rattle.text_resolver.specs.Texts.{texts}
use Rattle.text_resolver.proofs.Texts.{names_fail}
use Rattle.text_resolver.proofs.names.declare_transactions.Goals as goal

pub returns-in_err-declare : goal.returns-in_err-declare
returns-in_err-declare c =
    let p = err_from_is_err_and c.from_residual.result c.from_residual.ensures.1 in
    rw (p.1, p.2) (names_fail _ tx_name view_tx (texts c.txs.names.keys) c.args.txs.now c.txs.tx-index c.tx-item.result _ c.txs-test.true c.tx-item.is c.in_err-declare.ensures c.txs.invariant)
