-- Which tasks are given up when out of memory: none whose transaction takes no memory.
use Rattle.std.specs.Prelude.{◌≡◌, ℕ, Some, slice_get}
use Rattle.txn_programs.specs.Listing.{task_tx}
use Rattle.attempt.specs.Room.{TakesMemory}
use Rattle.book.specs.Tasks.{GivenUp}
use Rattle.book.specs.View.{BookView}

-- each task that the book has given up is of a transaction that takes memory
abbrev pub GivesUpForMemory : BookView → Type 0
GivesUpForMemory b = (k : ℕ) → slice_get b.tasks k ≡ Some GivenUp → TakesMemory b.catalogue (task_tx b.catalogue (record { 0 = k }))
