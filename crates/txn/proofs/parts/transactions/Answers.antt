use Rattle.std.proofs.Common.{arith}
use Rattle.txn_programs.proofs.Lawful.{limits_parts}
use Rattle.txn.proofs.parts.transactions.Goals as goal

pub overflow_cast-i : goal.overflow_cast-i
overflow_cast-i c =
    let few = (limits_parts c.args.catalogue.now c.rules.ensures.limits).transactions in
    omega (arith, few, c.tx_count-i-end.ensures, c.txs-test.true)
