use Rattle.std.proofs.Common.{◌+◌, ◌*◌}
use Rattle.text_parser.proofs.cond.+conds.Given as goal

abbrev pub decreases-cond_of : goal.decreases-cond_of
decreases-cond_of l = 3 * l.depth

abbrev pub decreases-negation_of : goal.decreases-negation_of
decreases-negation_of l = 3 * l.depth + 2

abbrev pub decreases-connection_of : goal.decreases-connection_of
decreases-connection_of l = 3 * l.depth + 2

abbrev pub decreases-boxed : goal.decreases-boxed
decreases-boxed l = 3 * l.depth + 1
