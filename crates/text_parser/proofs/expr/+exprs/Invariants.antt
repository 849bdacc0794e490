use Rattle.std.proofs.Common.{◌+◌, ◌*◌}
use Rattle.text_parser.proofs.expr.+exprs.Given as goal

abbrev pub decreases-expr_of : goal.decreases-expr_of
decreases-expr_of l = 4 * l.depth

abbrev pub decreases-compound_of : goal.decreases-compound_of
decreases-compound_of l = 4 * l.depth + 3

abbrev pub decreases-binary_of : goal.decreases-binary_of
decreases-binary_of l = 4 * l.depth + 2

abbrev pub decreases-cell_of : goal.decreases-cell_of
decreases-cell_of l = 4 * l.depth + 2

abbrev pub decreases-boxed : goal.decreases-boxed
decreases-boxed l = 4 * l.depth + 1
