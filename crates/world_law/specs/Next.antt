-- What each event does to the world, and what is seen of it.
use Rattle.std.specs.Prelude.{◌≡◌, ◌≢◌, ◌⊎◌, ℕ, ◌+◌, ◌*◌, ◌%◌, ◌<◌, ◌≤◌, List, [], ◌∷◌, length, slice_index, if◌then◌else◌, true, ℤ, Option, Some, None}
use Rattle.std.specs.List.{slice_get}
use Rattle.std.specs.Ordering.{int_eq}
use Rattle.std.specs.Int.{w64, cast_signed}
use Rattle.txn_programs.specs.Listing.{Listing, task_program}
use Rattle.txn_words.specs.Words.{last_state}
use Rattle.txn_words.specs.Stores.{new_of}
use Rattle.txn_programs.specs.declared.ast.TaskId.{TaskId}
use Rattle.txn_programs.specs.declared.ast.VarId.{VarId}
use Rattle.txn_programs.specs.declared.ast.Outcome.{Outcome}
use Rattle.txn_programs.specs.declared.ast.Outcome.TheVariants.{Retries}
use Rattle.attempt.specs.Asking.{Known, Answer, Needs, Ends, ask}
use Rattle.attempt.specs.Frame.{Agrees}
use Rattle.world_law.specs.declared.events.Fate.TheVariants as fate
use Rattle.world_law.specs.declared.events.Event.{Event}
use Rattle.world_law.specs.declared.events.Event.TheVariants.{Begin, First, Value, Second, Ask, Word, Drop, Again}
use Rattle.world_law.specs.declared.events.Seen.{Seen}
use Rattle.world_law.specs.declared.events.Seen.TheVariants as seen
use Rattle.world_law.specs.declared.events.Loads.TheVariants as loads
use Rattle.world_law.specs.declared.events.Store.{Store}
use Rattle.world_law.specs.World.{Check, Started, Committer, World, IsOpening, CanBegin, IsRunning, IsLatest, Stands, Reading, Apart, stand, bound, version_now, value_now, with_attempt, changed, with_loads, with_read, with_fate, stale_at_load, running_again, checking, moved, committing, stores, Writes, stored, finished}

-- what is seen of an attempt that goes on by itself to this answer
abbrev pub told : Answer → Seen
told (Needs x) = seen.Needs x
told (Ends o writes) = seen.Ended o

-- What is seen of an attempt that has found so many of the pairs that it read to be so in the state n, and what it is then.
-- The next pair, if there is one, is this: it checks that, or it has moved to the state n, and stands where it stood.
abbrev pub checks_on : Listing → Started → ℕ → ℕ → Option (VarId × ℤ) → Seen × Started
checks_on l y n checked (Some p) = (seen.Checks p.0, checking y n checked)
checks_on l y n checked None = (told (stand l y), moved y n)

-- What is seen of an attempt that has read x, whose value word was `bits`, and what it is then. Without a check it knows the
-- value, and goes on by itself. In a check it compares the value with the one that it read before.
abbrev pub reads_on : Listing → Started → VarId → ℕ → Option Check → Seen × Started
reads_on l y x bits None = (told (stand l (with_read y x bits)), with_read y x bits)
reads_on l y x bits (Some c) =
    if int_eq (cast_signed w64 bits) (new_of y.log c.checked)
    then checks_on l y c.candidate (c.checked + 1) (slice_get y.log (c.checked + 1))
    else (seen.Changed, with_fate y fate.Stale)

-- what is seen of an attempt that runs again, and what it is then: it has loaded the clock, and checked nothing
abbrev pub goes_again : Listing → World → Started → Seen × Started
goes_again l w y = checks_on l (running_again y) (slice_index w.words 0) 0 (slice_get y.log 0)

-- the task has no running attempt and none that committed, and its latest attempt became stale at a load, when it needed x
abbrev pub CanGoAgain : Listing → World → TaskId → ℕ → Started → VarId → Type 0
CanGoAgain l w a i y x =
    CanBegin l w a × IsLatest w a i y × (y.fate ≡ fate.Stale) × (y.movable ≡ true) × (stand l y ≡ Needs x)

-- the running attempt of the task has ended, and nobody commits
abbrev pub CanAsk : Listing → World → TaskId → ℕ → Started → Outcome → Known → Type 0
CanAsk l w a i y o writes = Stands l w a i y (Ends o writes) × (w.committer ≡ None)

-- the task has a running attempt, which is not the committer
abbrev pub CanDrop : World → TaskId → ℕ → Started → Type 0
CanDrop w a i y = IsRunning w a i y × Apart w.committer i

-- the next store of the committer c is s, and the words are these after it
abbrev pub IsNextStore : World → Committer → Store → List ℕ → Type 0
IsNextStore w c s words =
    (w.committer ≡ Some c) × (slice_get (stores c.changes) c.stored ≡ Some s) × Writes s c.number w.words words

-- In the world w the event is seen so, and leads to w'. An event that is not possible is idle and changes nothing. The
-- one thing that the world leaves open is running out of memory: where an attempt begins, or goes on after a read that was no
-- check, `Spent` may come in place of the answer.
abbrev pub Next : Listing → World → Event → Seen → World → Type 0
Next l w (Begin a) seen.Idle w' = (CanBegin l w a → ⊥) × (w' ≡ w)
Next l w (Begin a) seen.Spent w' = CanBegin l w a × (w' ≡ with_attempt w a fate.Spent)
Next l w (Begin a) s w' = CanBegin l w a × (s ≡ told (ask (task_program l a) [])) × (w' ≡ with_attempt w a fate.Running)
Next l w (First a x) seen.Idle w' = ((i : ℕ) (y : Started) → Reading l w a i y x loads.Nothing → ⊥) × (w' ≡ w)
Next l w (First a x) seen.Stale w' =
    (i : ℕ) × (y : Started) × Reading l w a i y x loads.Nothing
    × ((version_now w x % 2 ≡ 1) ⊎ (2 * bound y < version_now w x))
    × (w' ≡ changed w i (stale_at_load y))
Next l w (First a x) seen.Loaded w' =
    (i : ℕ) × (y : Started) × Reading l w a i y x loads.Nothing
    × (version_now w x % 2 ≡ 0) × (version_now w x ≤ 2 * bound y)
    × (w' ≡ changed w i (with_loads y (loads.Version (version_now w x))))
Next l w (First a x) s w' = ⊥
Next l w (Value a) seen.Idle w' = ((i first : ℕ) (y : Started) (x : VarId) → Reading l w a i y x (loads.Version first) → ⊥) × (w' ≡ w)
Next l w (Value a) seen.Loaded w' =
    (i first : ℕ) × (y : Started) × (x : VarId) × Reading l w a i y x (loads.Version first)
    × (w' ≡ changed w i (with_loads y (loads.Value first (value_now w x))))
Next l w (Value a) s w' = ⊥
Next l w (Second a) seen.Idle w' =
    ((i first bits : ℕ) (y : Started) (x : VarId) → Reading l w a i y x (loads.Value first bits) → ⊥) × (w' ≡ w)
Next l w (Second a) seen.Stale w' =
    (i first bits : ℕ) × (y : Started) × (x : VarId) × Reading l w a i y x (loads.Value first bits)
    × (version_now w x ≢ first)
    × (w' ≡ changed w i (stale_at_load y))
Next l w (Second a) seen.Spent w' =
    (i first bits : ℕ) × (y : Started) × (x : VarId) × Reading l w a i y x (loads.Value first bits)
    × (version_now w x ≡ first) × (y.check ≡ None)
    × (w' ≡ changed w i (with_fate (with_read y x bits) fate.Spent))
Next l w (Second a) s w' =
    (i first bits : ℕ) × (y : Started) × (x : VarId) × Reading l w a i y x (loads.Value first bits)
    × (version_now w x ≡ first)
    × (s ≡ (reads_on l y x bits y.check).0)
    × (w' ≡ changed w i (reads_on l y x bits y.check).1)
Next l w (Ask a) seen.Idle w' =
    ((i : ℕ) (y : Started) (o : Outcome) (writes : Known) → CanAsk l w a i y o writes → ⊥) × (w' ≡ w)
Next l w (Ask a) seen.Stale w' =
    (i : ℕ) × (y : Started) × (o : Outcome) × (writes : Known) × CanAsk l w a i y o writes
    × (Agrees y.log (last_state w.history) → ⊥)
    × (w' ≡ changed w i (with_fate y fate.Stale))
Next l w (Ask a) seen.Parked w' =
    (i : ℕ) × (y : Started) × (writes : Known) × CanAsk l w a i y Retries writes
    × Agrees y.log (last_state w.history)
    × (w' ≡ changed w i (with_fate y fate.Parked))
Next l w (Ask a) (seen.Commits n) w' =
    (i : ℕ) × (y : Started) × (o : Outcome) × (writes : Known) × CanAsk l w a i y o writes
    × (o ≢ Retries) × Agrees y.log (last_state w.history)
    × (n ≡ length w.history)
    × (w' ≡ record w { committer = Some (committing w i writes) })
Next l w (Ask a) s w' = ⊥
Next l w Word seen.Idle w' = (w.committer ≡ None) × (w' ≡ w)
Next l w Word seen.Stored w' =
    (c : Committer) × (s : Store) × (words : List ℕ) × IsNextStore w c s words
    × (c.stored + 1 < length (stores c.changes))
    × (w' ≡ stored w c s words)
Next l w Word (seen.Committed n) w' =
    (c : Committer) × (s : Store) × (words : List ℕ) × (y : Started) × IsNextStore w c s words
    × (c.stored + 1 ≡ length (stores c.changes)) × (n ≡ c.number)
    × (slice_get w.attempts c.place ≡ Some y)
    × (w' ≡ finished (stored w c s words) c y)
Next l w Word s w' = ⊥
Next l w (Drop a) seen.Idle w' = ((i : ℕ) (y : Started) → CanDrop w a i y → ⊥) × (w' ≡ w)
Next l w (Drop a) seen.Dropped w' = (i : ℕ) × (y : Started) × CanDrop w a i y × (w' ≡ changed w i (with_fate y fate.Dropped))
Next l w (Drop a) s w' = ⊥
Next l w (Again a) seen.Idle w' = ((i : ℕ) (y : Started) (x : VarId) → CanGoAgain l w a i y x → ⊥) × (w' ≡ w)
Next l w (Again a) s w' =
    (i : ℕ) × (y : Started) × (x : VarId) × CanGoAgain l w a i y x
    × (s ≡ (goes_again l w y).0)
    × (w' ≡ changed w i (goes_again l w y).1)

-- from w these events are seen so, one after another, and lead to w'
abbrev pub Run : Listing → World → List Event → List Seen → World → Type 0
Run l w [] [] w' = w' ≡ w
Run l w (e ∷ es) (s ∷ ss) w' = (mid : World) × Next l w e s mid × Run l mid es ss w'
Run l w [] (s ∷ ss) w' = ⊥
Run l w (e ∷ es) [] w' = ⊥

-- some events lead to w from the world as it opens
abbrev pub Reachable : Listing → World → Type 0
Reachable l w = (start : World) × IsOpening l start × (events : List Event) × (answers : List Seen) × Run l start events answers w
