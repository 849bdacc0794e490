use Rattle.std.proofs.Common.{◌≡◌, length, ◌∙◌, ap, arith}
use Rattle.txn_programs.proofs.Lawful.{limits_parts}
use Rattle.explore_search.specs.Instancing.{index}
use Rattle.explore_search.proofs.Instancing.{first_all}
use Rattle.explore_search.proofs.instances.instances_of.Goals as goal

pub overflow_cast-tx-end : goal.overflow_cast-tx-end
overflow_cast-tx-end c = omega (arith, (limits_parts c.args.catalogue.now c.rules.ensures.limits).transactions, c.tx_count-tx-end.ensures)

pub instances_of_tasks-requires : goal.instances_of_tasks-requires
instances_of_tasks-requires c =
    let l = c.args.catalogue.now in
    let all : c.transactions.tx ≡ length l.transactions = omega (arith, c.transactions.auto.tx-end, c.transactions-test.false, c.tx_count-tx-end.ensures) in
    c.transactions.invariant.seen ∙ ap index (c.transactions.invariant.calls ∙ first_all l c.transactions.tx all)

pub returns : goal.returns
returns c =
    let l = c.args.catalogue.now in
    let all : c.transactions.tx ≡ length l.transactions = omega (arith, c.transactions.auto.tx-end, c.transactions-test.false, c.tx_count-tx-end.ensures) in
    record { calls = c.transactions.invariant.calls ∙ first_all l c.transactions.tx all; tasks = c.in_ok-of_tasks.ensures }
