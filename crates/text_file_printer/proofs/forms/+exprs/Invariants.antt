use Rattle.std.proofs.Common.{◌+◌, ◌*◌, max}
use Rattle.txn_programs.specs.Tree.{expression_of}
use Rattle.txn_programs.specs.Depth.{expression_depth}
use Rattle.text_file_printer.proofs.forms.+exprs.Given as goal

abbrev pub decreases-put_expr : goal.decreases-put_expr
decreases-put_expr l = 3 * expression_depth (expression_of l.e.now)

abbrev pub decreases-put_first_expression : goal.decreases-put_first_expression
decreases-put_first_expression l = 3 * expression_depth (expression_of l.e.now) + 1

abbrev pub decreases-put_last_expression : goal.decreases-put_last_expression
decreases-put_last_expression l = 3 * expression_depth (expression_of l.e.now) + 1

abbrev pub decreases-put_operation : goal.decreases-put_operation
decreases-put_operation l = 3 * max (expression_depth (expression_of l.left.now)) (expression_depth (expression_of l.right.now)) + 2

abbrev pub decreases-put_cell : goal.decreases-put_cell
decreases-put_cell l = 3 * expression_depth (expression_of l.index.now) + 2
