use Rattle.std.proofs.Common.{◌≡◌, length, IfOk, OnOk, ap, subst, arith}
use Rattle.txn_programs.specs.Meaning.{outcome, after}
use Rattle.txn_programs.specs.Tree.{Program}
use Rattle.book.specs.Chapters.{ChapterView}
use Rattle.book.proofs.Listings.{tx_own, known_own, program_own}
use Rattle.book.proofs.chapter.Chapter.execute.Goals as goal

pub execute_call-requires-clause-known : goal.execute_call-requires-clause-known
execute_call-requires-clause-known c =
    let s = c.self.inside in
    let v = c.args.self.now in
    let k = c.self.invariant in
    let tx = c.transaction-tx.result in
    omega (arith, ap (λ (x : ChapterView). length x.listing.transactions) c.self.view_is, (known_own s v c.args.task tx c.self.view_is k.listed k.known (tx_own s v c.args.task.0 tx c.self.view_is k.listed c.transaction-tx.ensures)).declared)

pub returns-clause-outcome : goal.returns-clause-outcome
returns-clause-outcome c =
    subst (λ (p : Program). IfOk c.execute_call.result (λ o. o ≡ outcome p c.args.values.now.items))
    (program_own c.self.inside c.args.self.now c.args.task c.transaction-tx.result c.arguments-arguments.result.now c.self.view_is c.self.invariant.listed c.transaction-tx.ensures c.arguments-arguments.ensures.value)
    c.execute_call.ensures.outcome

pub returns-clause-after : goal.returns-clause-after
returns-clause-after c =
    subst (λ (p : Program). OnOk c.execute_call.result (c.execute_call.new.values.items ≡ after p c.args.values.now.items))
    (program_own c.self.inside c.args.self.now c.args.task c.transaction-tx.result c.arguments-arguments.result.now c.self.view_is c.self.invariant.listed c.transaction-tx.ensures c.arguments-arguments.ensures.value)
    c.execute_call.ensures.after
