use Rattle.std.proofs.Common.{◌+◌, ◌*◌, max}
use Rattle.txn_programs.specs.Tree.{condition_of}
use Rattle.txn_programs.specs.Depth.{condition_depth}
use Rattle.text_file_printer.proofs.forms.+conds.Given as goal

abbrev pub decreases-put_cond : goal.decreases-put_cond
decreases-put_cond l = 3 * condition_depth (condition_of l.c.now)

abbrev pub decreases-put_first_condition : goal.decreases-put_first_condition
decreases-put_first_condition l = 3 * condition_depth (condition_of l.c.now) + 1

abbrev pub decreases-put_last_condition : goal.decreases-put_last_condition
decreases-put_last_condition l = 3 * condition_depth (condition_of l.c.now) + 1

abbrev pub decreases-put_connection : goal.decreases-put_connection
decreases-put_connection l = 3 * max (condition_depth (condition_of l.left.now)) (condition_depth (condition_of l.right.now)) + 2
