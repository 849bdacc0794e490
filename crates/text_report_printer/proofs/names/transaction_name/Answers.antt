use Rattle.std.proofs.Common.{◌<◌, ap, length, arith}
use Rattle.txn_programs.proofs.Lawful.{limits_parts}
use Rattle.text_report_printer.proofs.Lengths.{name_short}
use Rattle.text_report_printer.proofs.names.transaction_name.Goals as goal

pub overflow_cast-number : goal.overflow_cast-number
overflow_cast-number c = omega (arith, (limits_parts c.args.catalogue.now c.rules.ensures.limits).transactions, c.tx_count.ensures, c.if-number-tx_count.true)

pub returns-then-number-tx_count-clause-at_most : goal.returns-then-number-tx_count-clause-at_most
returns-then-number-tx_count-clause-at_most c =
    let l = c.args.catalogue.now in
    let known : c.args.number < length l.transactions = omega (arith, c.tx_count.ensures, c.if-number-tx_count.true) in
    omega (arith, ap length c.tx_name.ensures, name_short l c.rules.ensures.limits (record { 0 = c.args.number }) known)
