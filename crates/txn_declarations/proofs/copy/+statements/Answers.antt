use Rattle.std.proofs.Common.{arith}
use Rattle.std.proofs.lemmas.Grind.{common_steps}
use Rattle.txn_declarations.proofs.Copying.{seq_same}
use Rattle.txn_declarations.proofs.copy.+statements.Goals as goal

pub statement-returns-in_ok-statements-in-Seq : goal.statement-returns-in_ok-statements-in-Seq
statement-returns-in_ok-statements-in-Seq t c =
    seq_same c.args.s.now c.in-Seq.parts c.in_ok-statements-in-Seq.field-0 c.as_slice.result.now c.in-Seq.is c.as_slice.ensures.value c.in_ok-statements-in-Seq.ensures

pub statement-returns-in_ok-boxed_statement-in-Repeat : goal.statement-returns-in_ok-boxed_statement-in-Repeat
statement-returns-in_ok-boxed_statement-in-Repeat t c = grind (arith, common_steps)

pub statement-returns-in_ok-expression-in-Set : goal.statement-returns-in_ok-expression-in-Set
statement-returns-in_ok-expression-in-Set t c = grind (arith, common_steps)

pub statement-returns-in_ok-first-in-OrElse-2 : goal.statement-returns-in_ok-first-in-OrElse-2
statement-returns-in_ok-first-in-OrElse-2 t c = grind (arith, common_steps)

pub statements-loop-part-preserved : goal.statements-loop-part-preserved
statements-loop-part-preserved t c = grind (arith, common_steps)
