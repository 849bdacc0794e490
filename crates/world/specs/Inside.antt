-- What is kept in a world, and the world that it is.
use Rattle.std.specs.Prelude.{◌≡◌, ◌≢◌, ℕ, ◌+◌, ◌*◌, ◌<◌, ◌≤◌, true, List, take, map, length, ℤ, Option, Some, None}
use Rattle.std.specs.List.{slice_get}
use Rattle.std.specs.declared.alloc.Global.{Global}
use Rattle.std.specs.declared.vec.Vec.{Vec}
use Rattle.std.specs.Option.{option_map, option_and_then}
use Rattle.std.specs.Vec.{with_item}
use Rattle.txn_programs.specs.Listing.{Listing, tasks}
use Rattle.txn_words.specs.Words.{last_state}
use Rattle.txn_words.specs.Stores.{with_changes, id_of}
use Rattle.txn_programs.specs.declared.ast.TaskId.{TaskId}
use Rattle.txn_programs.specs.declared.ast.VarId.{VarId}
use Rattle.attempt.specs.declared.next.Next.TheVariants as next
use Rattle.world_law.specs.declared.events.Fate.TheVariants as fate
use Rattle.world_law.specs.declared.events.Event.{Event}
use Rattle.world_law.specs.declared.events.Event.TheVariants as event
use Rattle.world_law.specs.declared.events.Seen.{Seen}
use Rattle.world_law.specs.World.{Committer, World, is_live}
use Rattle.world_law.specs.Next.{Next}
use Rattle.world.specs.declared.trial.Trial.{Trial}
use Rattle.world.specs.declared.scene.Publishing.{Publishing}
use Rattle.world.specs.declared.scene.Scene.{Scene}
use Rattle.world.specs.Trials.{started_of, wants, CanMove, MayGoAgain, TrialKept}

abbrev pub listing : Scene → Listing
listing c = c.catalogue.now

abbrev pub state_items : Vec ℤ Global → List ℤ
state_items m = m.items

abbrev pub all_states : Scene → List (List ℤ)
all_states c = map state_items c.states.items

abbrev pub committer_of : Publishing → Committer
committer_of p = record { place = p.place; number = p.number; changes = p.changes.items; stored = p.stored }

-- the world of what is kept
abbrev pub world_of : Scene → World
world_of c = record {
  words = c.words.items;
  history = take c.count (all_states c);
  attempts = map started_of c.trials.items;
  committer = option_map committer_of c.committer;
}

-- what is ready before the clock is stored: the state of the next number, which is the last with the changes
abbrev pub IsReady : Scene → Publishing → Type 0
IsReady c p =
    (p.number ≡ c.count) × (length c.states.items ≡ c.count + 1)
    × (slice_get (all_states c) c.count ≡ Some (with_changes (last_state (take c.count (all_states c))) p.changes.items))

-- the committer's attempt runs and has ended, its stores are not all done, and its variables exist
pub record PublishingKept (c : Scene) (p : Publishing) : Type 0 where
  pub runs : (y : Trial) × (slice_get c.trials.items p.place ≡ Some y) × (y.fate ≡ fate.Running) × ((x : VarId) → y.at ≢ next.Need x)
  pub under : p.stored < 3 * length p.changes.items + 1
  pub few : length p.changes.items ≤ length (listing c).initial
  pub small : p.number < length c.states.items
  pub exist : (i : ℕ) → i < length p.changes.items → id_of p.changes.items i < length (listing c).initial
  pub ready : p.stored ≤ 2 * length p.changes.items → IsReady c p
  pub past : 2 * length p.changes.items < p.stored → c.count ≡ length c.states.items

abbrev pub CommitterKept : Scene → Option Publishing → Type 0
CommitterKept c None = c.count ≡ length c.states.items
CommitterKept c (Some p) = PublishingKept c p

pub record Kept (c : Scene) : Type 0 where
  pub wide : length c.words.items ≡ 2 * length (listing c).initial + 1
  pub states : (n : ℕ) (m : Vec ℤ Global) → slice_get c.states.items n ≡ Some m → length m.items ≡ length (listing c).initial
  pub count : (0 < c.count) × (c.count ≤ length c.states.items)
  pub trials : (i : ℕ) (y : Trial) → slice_get c.trials.items i ≡ Some y → TrialKept (listing c) y
  pub tasks : length c.latest.items ≡ length (tasks (listing c))
  -- a task's live attempt is its latest
  pub live : (i : ℕ) (y : Trial) → slice_get c.trials.items i ≡ Some y → is_live y.fate ≡ true → slice_get c.latest.items y.task.0 ≡ Some (Some i)
  pub latest : (a i : ℕ) → slice_get c.latest.items a ≡ Some (Some i) → (y : Trial) × (slice_get c.trials.items i ≡ Some y) × (y.task.0 ≡ a)
  -- and it is the last that began
  pub last : (i : ℕ) (y : Trial) → slice_get c.trials.items i ≡ Some y → (j : ℕ) × (slice_get c.latest.items y.task.0 ≡ Some (Some j)) × (i ≤ j)
  -- where it became stale at a load it can go on
  pub whole : (a i : ℕ) (y : Trial) → slice_get c.latest.items a ≡ Some (Some i) → slice_get c.trials.items i ≡ Some y → CanMove y → y.at ≢ next.Memory
  pub committer : CommitterKept c c.committer

-- the attempt at the place i does not run, and can't run again: it became stale at no load, or its task has begun anew
abbrev pub IsFinished : Scene → ℕ → Type 0
IsFinished c i = (y : Trial) × (slice_get c.trials.items i ≡ Some y) × (y.fate ≢ fate.Running)
    × (CanMove y → slice_get c.latest.items y.task.0 ≢ Some (Some i))

-- the attempt at the place i keeps its log alone: it can't go on
abbrev pub IsShort : Scene → ℕ → Type 0
IsShort c i = (y : Trial) → slice_get c.trials.items i ≡ Some y → y.at ≡ next.Memory

-- the attempt at this place, if there is one, is let go where it is finished
abbrev pub IsLetGo : Scene → Option ℕ → Type 0
IsLetGo c None = Unit {0}
IsLetGo c (Some i) = IsFinished c i → IsShort c i

-- the place of the latest attempt of a task, if it has one
abbrev pub latest_of : Scene → TaskId → Option ℕ
latest_of c a = option_and_then (λ o. o) (slice_get c.latest.items a.0)

-- the place of the attempt that an event is about, if there is one: the latest of its task, or the one that commits
abbrev pub concerned : Scene → Event → Option ℕ
concerned c (event.Begin a) = latest_of c a
concerned c (event.First a x) = latest_of c a
concerned c (event.Value a) = latest_of c a
concerned c (event.Second a) = latest_of c a
concerned c (event.Ask a) = latest_of c a
concerned c event.Word = option_map (λ (p : Publishing). p.place) c.committer
concerned c (event.Drop a) = latest_of c a
concerned c (event.Again a) = latest_of c a

-- with another attempt at the place i
abbrev pub with_trial : Scene → ℕ → Trial → Scene
with_trial c i y = record c { trials = with_item c.trials i y }

-- y, at the place i, is the one running attempt of the task a
abbrev pub IsTheRunning : Scene → TaskId → ℕ → Trial → Type 0
IsTheRunning c a i y = (slice_get c.trials.items i ≡ Some y) × (y.task ≡ a) × (y.fate ≡ fate.Running)

abbrev pub IsOnly : Scene → TaskId → ℕ → Type 0
IsOnly c a i = (j : ℕ) (z : Trial) → IsTheRunning c a j z → j ≡ i

-- the place of the task's running attempt
abbrev pub FindsRunning : Scene → TaskId → Option ℕ → Type 0
FindsRunning c a (Some i) = (y : Trial) × IsTheRunning c a i y × IsOnly c a i
FindsRunning c a None = (i : ℕ) (y : Trial) → IsTheRunning c a i y → ⊥

-- .. and the variable that it reads
abbrev pub FindsReading : Scene → TaskId → Option (ℕ × VarId) → Type 0
FindsReading c a (Some r) =
    (y : Trial) × IsTheRunning c a r.0 y × (wants y ≡ Some r.1) × IsOnly c a r.0 × (r.1.0 < length (listing c).initial)
FindsReading c a None = (i : ℕ) (y : Trial) (x : VarId) → IsTheRunning c a i y → wants y ≡ Some x → ⊥

-- y, at the place i, is the latest attempt of the task a
abbrev pub IsTheLatest : Scene → TaskId → ℕ → Trial → Type 0
IsTheLatest c a i y = (slice_get c.trials.items i ≡ Some y) × (slice_get c.latest.items a.0 ≡ Some (Some i))

-- the place of the task's latest attempt, which may run again
abbrev pub FindsStale : Scene → TaskId → Option ℕ → Type 0
FindsStale c a (Some i) = (y : Trial) × IsTheLatest c a i y × (y.task ≡ a) × MayGoAgain y
FindsStale c a None = (i : ℕ) (y : Trial) → IsTheLatest c a i y → MayGoAgain y → ⊥

abbrev pub IsOwner : Option Publishing → ℕ → Type 0
IsOwner None i = ⊥
IsOwner (Some p) i = p.place ≡ i

-- the event is seen so and leads from c to c'
pub record Leads (c : Scene) (e : Event) (s : Seen) (c' : Scene) : Type 0 where
  pub catalogue : c'.catalogue ≡ c.catalogue
  pub kept : Kept c'
  pub next : Next (listing c) (world_of c) e s (world_of c')

-- a refused event: nothing that is seen has changed
pub record Stays (c c' : Scene) : Type 0 where
  pub catalogue : c'.catalogue ≡ c.catalogue
  pub kept : Kept c'
  pub world : world_of c' ≡ world_of c
