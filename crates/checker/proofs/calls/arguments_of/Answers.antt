use Rattle.txn_programs.specs.Listing.{task_tx}
use Rattle.txn_programs.proofs.Lawful.{few_arguments}
use Rattle.checker.proofs.calls.arguments_of.Goals as goal

pub returns-then-task-tasks-clause-few : goal.returns-then-task-tasks-clause-few
returns-then-task-tasks-clause-few c =
    let l = c.args.catalogue.now in
    few_arguments l (task_tx l c.args.task) c.task_arguments.result.now c.rules.ensures.limits c.task_arguments.ensures.each
