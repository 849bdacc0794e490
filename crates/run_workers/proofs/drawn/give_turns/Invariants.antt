use Rattle.std.proofs.Common.{◌≡◌, ◌≢◌, ℕ, Some}
use Rattle.std.specs.List.{slice_get}
use Rattle.book.specs.Tasks.{Running}
use Rattle.book.specs.GivingUp.{GivesUpForMemory}
use Rattle.book.proofs.Draining.{weight_of}
use Rattle.run_workers.specs.Drawing.{DrawnTurns}
use Rattle.run_workers.proofs.drawn.give_turns.Given as goal

abbrev pub invariant-loop-task : goal.invariant-loop-task
invariant-loop-task l =
    DrawnTurns l.every l.seed l.initial.book l.draws l.book
    × ((k : ℕ) → slice_get l.book.tasks k ≢ Some Running)
    × (GivesUpForMemory l.initial.book → GivesUpForMemory l.book)
    × (l.book.catalogue ≡ l.initial.book.catalogue)

abbrev pub decreases-loop-task : goal.decreases-loop-task
decreases-loop-task l = weight_of l.book.tasks
