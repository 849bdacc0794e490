-- What a line of a schedule does to the world, and what is seen of it: its events, and the answer of the last one.
use Rattle.std.specs.Prelude.{◌≡◌, ◌≢◌, ◌⊎◌, ℕ, zero, suc, Some}
use Rattle.txn_programs.specs.Listing.{Listing}
use Rattle.txn_programs.specs.declared.ast.TaskId.{TaskId}
use Rattle.txn_programs.specs.declared.ast.VarId.{VarId}
use Rattle.txn_programs.specs.declared.moves.Move.{Move}
use Rattle.txn_programs.specs.declared.moves.Move.TheVariants as line
use Rattle.world_law.specs.declared.events.Event.TheVariants.{Begin, First, Value, Second, Ask, Word, Drop, Again}
use Rattle.world_law.specs.declared.events.Seen.{Seen}
use Rattle.world_law.specs.declared.events.Seen.TheVariants as seen
use Rattle.world_law.specs.World.{World, Committer}
use Rattle.world_law.specs.Next.{Next}
use Rattle.world.specs.Runs.{IsChecking}

-- ---- a read

-- where its first load was loaded the two others follow
abbrev pub Reads : Listing → World → TaskId → VarId → Seen → World → Type 0
Reads l w a x s w' =
    ((s ≢ seen.Loaded) × Next l w (First a x) s w')
    ⊎ ((mid last : World) × (t : Seen) × Next l w (First a x) seen.Loaded mid × Next l mid (Value a) t last × Next l last (Second a) s w')

-- the loads before the last, which alone may be refused
abbrev pub ReadsPart : Listing → World → TaskId → VarId → World → Type 0
ReadsPart l w a x w' = (mid : World) × (t : Seen) × Next l w (First a x) seen.Loaded mid × Next l mid (Value a) t w'

-- ---- a commit

-- the attempt that commits makes the state of this number
abbrev pub IsCommitting : World → ℕ → Type 0
IsCommitting w n = (c : Committer) × (w.committer ≡ Some c) × (c.number ≡ n)

-- so many words are stored, none of them the last
abbrev pub StoresCount : ℕ → Listing → World → World → Type 0
StoresCount zero l w w' = w' ≡ w
StoresCount (suc k) l w w' = (mid : World) × Next l w Word seen.Stored mid × StoresCount k l mid w'

abbrev pub StoresSome : Listing → World → World → Type 0
StoresSome l w w' = (k : ℕ) × StoresCount k l w w'

-- some words, and then the last
abbrev pub StoresLast : Listing → ℕ → World → Seen → World → Type 0
StoresLast l n w s w' = (mid : World) × StoresSome l w mid × (s ≡ seen.Committed n) × Next l mid Word s w'

-- where it may commit all its stores follow
abbrev pub Commits : Listing → World → TaskId → Seen → World → Type 0
Commits l w a s w' =
    (((n : ℕ) → s ≢ seen.Commits n) × Next l w (Ask a) s w')
    ⊎ ((n : ℕ) × (mid : World) × Next l w (Ask a) (seen.Commits n) mid × StoresLast l n mid s w')

-- ---- a move

-- It was seen that s, and while a variable is checked, that is read, so many times. At last it is seen that s'.
abbrev pub ChecksCount : ℕ → Listing → World → TaskId → Seen → Seen → World → Type 0
ChecksCount zero l w a s s' w' = ((x : VarId) → s ≢ seen.Checks x) × (s' ≡ s) × (w' ≡ w)
ChecksCount (suc k) l w a s s' w' =
    (x : VarId) × (mid : World) × (t : Seen) × (s ≡ seen.Checks x) × Reads l w a x t mid × ChecksCount k l mid a t s' w'

-- the stale attempt runs again, and while it checks a variable, that is read
abbrev pub Moves : Listing → World → TaskId → Seen → World → Type 0
Moves l w a s w' = (mid : World) × (t : Seen) × (k : ℕ) × Next l w (Again a) t mid × ChecksCount k l mid a t s w'

-- ---- a line

abbrev pub Plays : Listing → World → Move → Seen → World → Type 0
Plays l w (line.Begin a) s w' = Next l w (Begin a) s w'
Plays l w (line.Read a x) s w' = Reads l w a x s w'
Plays l w (line.Commit a) s w' = Commits l w a s w'
Plays l w (line.Drop a) s w' = Next l w (Drop a) s w'
Plays l w (line.First a x) s w' = Next l w (First a x) s w'
Plays l w (line.Value a) s w' = Next l w (Value a) s w'
Plays l w (line.Second a) s w' = Next l w (Second a) s w'
Plays l w (line.Ask a) s w' = Next l w (Ask a) s w'
Plays l w line.Word s w' = Next l w Word s w'
Plays l w (line.Again a) s w' = Next l w (Again a) s w'
Plays l w (line.Move a) s w' = Moves l w a s w'

-- the events of the line before one that was refused: only the last of a read has any before it that may be
abbrev pub PlaysPart : Listing → World → Move → World → Type 0
PlaysPart l w (line.Read a x) w' = ReadsPart l w a x w'
PlaysPart l w m w' = w' ≡ w

-- the line takes no memory
abbrev pub PlaysFree : Move → Type 0
PlaysFree (line.First a x) = Unit {0}
PlaysFree (line.Value a) = Unit {0}
PlaysFree (line.Drop a) = Unit {0}
PlaysFree line.Word = Unit {0}
PlaysFree (line.Again a) = Unit {0}
PlaysFree (line.Move a) = Unit {0}
PlaysFree m = ⊥

-- the line ends a read of an attempt that checks: it takes no memory
abbrev pub PlaysCheck : World → Move → Type 0
PlaysCheck w (line.Read a x) = IsChecking w a
PlaysCheck w (line.Second a) = IsChecking w a
PlaysCheck w m = ⊥
