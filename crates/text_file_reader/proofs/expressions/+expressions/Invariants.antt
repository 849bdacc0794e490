use Rattle.std.proofs.Common.{◌+◌, ◌*◌}
use Rattle.text_file_reader.proofs.expressions.+expressions.Given as goal

abbrev pub decreases-expression_at_once : goal.decreases-expression_at_once
decreases-expression_at_once l = 4 * l.depth

abbrev pub decreases-compound_at_once : goal.decreases-compound_at_once
decreases-compound_at_once l = 4 * l.depth + 3

abbrev pub decreases-binary_at_once : goal.decreases-binary_at_once
decreases-binary_at_once l = 4 * l.depth + 2

abbrev pub decreases-cell_at_once : goal.decreases-cell_at_once
decreases-cell_at_once l = 4 * l.depth + 2

abbrev pub decreases-boxed : goal.decreases-boxed
decreases-boxed l = 4 * l.depth + 1
