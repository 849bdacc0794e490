-- Which tasks a run gives up: none whose transaction takes no memory.
use Rattle.std.specs.Prelude.{All}
use Rattle.txn_programs.specs.Listing.{Listing}
use Rattle.txn_programs.specs.Told.{Told}
pub use Rattle.attempt.specs.Room.{TakesMemory, RunsInPlace}

-- each task that the report tells as given up is of a transaction that takes memory
abbrev pub GaveUpForMemory : Listing → Told → Type 0
GaveUpForMemory l r = All (λ p. TakesMemory l p.1) r.memory
