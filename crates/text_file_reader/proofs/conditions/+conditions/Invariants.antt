use Rattle.std.proofs.Common.{◌+◌, ◌*◌}
use Rattle.text_file_reader.proofs.conditions.+conditions.Given as goal

abbrev pub decreases-condition_at_once : goal.decreases-condition_at_once
decreases-condition_at_once l = 3 * l.depth

abbrev pub decreases-negation_at_once : goal.decreases-negation_at_once
decreases-negation_at_once l = 3 * l.depth + 2

abbrev pub decreases-connection_at_once : goal.decreases-connection_at_once
decreases-connection_at_once l = 3 * l.depth + 2

abbrev pub decreases-boxed : goal.decreases-boxed
decreases-boxed l = 3 * l.depth + 1
