use Rattle.std.proofs.Common.{◌≡◌, [], replicate}
use Rattle.explore_runner.specs.Giving.{queues}
use Rattle.explore_runner.proofs.queues.no_tasks.Given as goal

abbrev pub invariant-instances : goal.invariant-instances
invariant-instances l = queues l.waiting.items ≡ replicate l._done []
