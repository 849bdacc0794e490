use Rattle.std.proofs.Common.{◌-◌}
use Rattle.explore_runner.specs.Giving.{queues}
use Rattle.explore_runner.proofs.Queueing.{Filled}
use Rattle.explore_runner.proofs.queues.tasks_by_instance.Given as goal

abbrev pub invariant-tasks : goal.invariant-tasks
invariant-tasks l = Filled l.catalogue (l.tasks - l.done) (queues l.waiting.items)
