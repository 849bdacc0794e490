use Rattle.explore_runner.specs.PuttingBy.{ArePutBy}
use Rattle.explore_runner.proofs.stopping.stop.Given as goal

abbrev pub invariant-tasks : goal.invariant-tasks
invariant-tasks l = ArePutBy l.fn.book l.task l.book
