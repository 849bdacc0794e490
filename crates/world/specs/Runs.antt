-- Events one after another, and which of them take no memory.
use Rattle.std.specs.Prelude.{◌≡◌, ◌≢◌, ℕ, List, Some, None}
use Rattle.std.specs.List.{slice_get}
use Rattle.txn_programs.specs.Listing.{Listing, task_program}
use Rattle.attempt.specs.Room.{NeedsNoMemory}
use Rattle.txn_programs.specs.declared.ast.TaskId.{TaskId}
use Rattle.world_law.specs.declared.events.Event.{Event}
use Rattle.world_law.specs.declared.events.Event.TheVariants.{Begin, First, Value, Second, Ask, Word, Drop, Again}
use Rattle.world_law.specs.declared.events.Seen.{Seen}
use Rattle.world_law.specs.World.{Started, World, IsRunning}
use Rattle.world_law.specs.Next.{Run}

-- these events lead from w to w', whatever is seen of them
abbrev pub LeadTo : Listing → World → List Event → World → Type 0
LeadTo l w events w' = (answers : List Seen) × Run l w events answers w'

-- the event takes no memory
abbrev pub TakesNone : Event → Type 0
TakesNone (Begin a) = ⊥
TakesNone (First a x) = Unit {0}
TakesNone (Value a) = Unit {0}
TakesNone (Second a) = ⊥
TakesNone (Ask a) = ⊥
TakesNone Word = Unit {0}
TakesNone (Drop a) = Unit {0}
TakesNone (Again a) = Unit {0}

-- the running attempt of the task, if it has one, checks
abbrev pub IsChecking : World → TaskId → Type 0
IsChecking w a = (i : ℕ) (y : Started) → IsRunning w a i y → y.check ≢ None

-- the event ends a read of an attempt that checks: it takes no memory
abbrev pub EndsCheck : World → Event → Type 0
EndsCheck w (Second a) = IsChecking w a
EndsCheck w e = ⊥

-- what evaluates at the event, if anything does, needs no memory for it
abbrev pub EvaluatesFree : Listing → Event → Type 0
EvaluatesFree l (Begin a) = NeedsNoMemory (task_program l a)
EvaluatesFree l (Second a) = NeedsNoMemory (task_program l a)
EvaluatesFree l e = Unit {0}

-- the event at the place k takes memory, and so may be refused
abbrev pub MayBeRefused : List Event → ℕ → Type 0
MayBeRefused events k = (e : Event) → slice_get events k ≡ Some e → TakesNone e → ⊥
