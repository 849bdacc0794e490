use Rattle.explore_runner.specs.Giving.{IsTaken}
use Rattle.explore_runner.proofs.turns.take_all.Given as goal

abbrev pub invariant-tasks : goal.invariant-tasks
invariant-tasks l = IsTaken l.fn.book.catalogue l._done l.book
