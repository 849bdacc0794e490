use Rattle.explain_files.proofs.Costly.{costly_beside, none_costly}
use Rattle.explain_files.proofs.declarations.costly.Goals as goal

pub returns-in-Some-costly_transaction-clause-some : goal.returns-in-Some-costly_transaction-clause-some
returns-in-Some-costly_transaction-clause-some c =
    let parts = c.args.parts.now in
    costly_beside c.deref.result.now parts.always.items c.deref-in-Some.result.now parts.txs.items c.in-Some.cost c.in-Some-costly_transaction.name.now c.deref.ensures.value c.deref-in-Some.ensures.value
    c.in-Some.ensures.0 c.in-Some.ensures.1 c.in-Some-costly_transaction.ensures.some

pub returns-in-None-costly_transaction-clause-none : goal.returns-in-None-costly_transaction-clause-none
returns-in-None-costly_transaction-clause-none c =
    let parts = c.args.parts.now in
    none_costly c.deref.result.now parts.always.items c.deref-in-Some.result.now parts.txs.items c.in-Some.cost c.deref.ensures.value c.deref-in-Some.ensures.value
    c.in-Some.ensures.0 c.in-Some.ensures.1 c.in-None-costly_transaction.ensures.none
