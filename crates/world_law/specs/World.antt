-- The stepped world: words, a history of states, the attempts that read, and the one that commits.
use Rattle.std.specs.Prelude.{◌≡◌, ◌≢◌, ℕ, ◌+◌, ◌*◌, ◌<◌, ◌≤◌, ◌^◌, Bool, true, false, if◌then◌else◌, List, [], ◌∷◌, ◌++◌, map, length, slice_index, slice_set, ℤ, Option, Some, None}
use Rattle.std.specs.List.{slice_get}
use Rattle.std.specs.Ordering.{int_eq}
use Rattle.std.specs.Option.{option_map}
use Rattle.std.specs.Int.{w64, cast_signed}
use Rattle.txn_programs.specs.Listing.{Listing, tasks, task_program}
use Rattle.txn_programs.specs.Meaning.{State}
use Rattle.txn_words.specs.Words.{last_state, version_word, value_word}
use Rattle.txn_words.specs.Stores.{Change, with_changes}
use Rattle.txn_programs.specs.declared.ast.TaskId.{TaskId}
use Rattle.txn_programs.specs.declared.ast.VarId.{VarId}
use Rattle.attempt.specs.Asking.{Known, Answer, Needs, Ends, ask}
use Rattle.attempt.specs.Frame.{store}
use Rattle.world_law.specs.declared.events.Fate.{Fate}
use Rattle.world_law.specs.declared.events.Fate.TheVariants as fate
use Rattle.world_law.specs.declared.events.Loads.{Loads}
use Rattle.world_law.specs.declared.events.Loads.TheVariants as loads
use Rattle.world_law.specs.declared.events.Store.{Store}
use Rattle.world_law.specs.declared.events.Store.TheVariants.{Lock, Put, Tick, Free}

-- a state that an attempt may move to: its number, which it loaded of the clock, and how many of the pairs that it read it
-- has found to be so there
pub record Check : Type 0 where
  pub candidate : ℕ
  pub checked : ℕ

-- an attempt that began
pub record Started : Type 0 where
  pub task : TaskId
  -- the number of the state whose values it reads: what it loaded of the clock
  pub rv : ℕ
  -- what it read, in this order
  pub log : Known
  -- what the read that it is in has loaded
  pub loads : Loads
  pub fate : Fate
  -- whether it became stale at a load, and so may run again
  pub movable : Bool
  -- where it runs again, and has not moved yet, the state that it checks
  pub check : Option Check

-- the committer: the place of its attempt, the number of the state that it makes, what changes, and how many of its
-- stores are done
pub record Committer : Type 0 where
  pub place : ℕ
  pub number : ℕ
  pub changes : List Change
  pub stored : ℕ

-- The attempts stand in the order in which they began. The words are as `Words` of the transactions says.
pub record World : Type 0 where
  pub words : List ℕ
  pub history : List State
  pub attempts : List Started
  pub committer : Option Committer

-- these are the 64 bits of the value v
abbrev pub AreBits : ℤ → ℕ → Type 0
AreBits v bits = (bits < 2 ^ 64) × (cast_signed w64 bits ≡ v)

-- of each variable a version word, which is 0, and a value word, which has the bits of its value
abbrev pub HoldValues : State → List ℕ → Type 0
HoldValues [] [] = Unit {0}
HoldValues (v ∷ m) (version ∷ bits ∷ words) = (version ≡ 0) × AreBits v bits × HoldValues m words
HoldValues m words = ⊥

-- the world as it opens: the clock is 0, the words hold the initial values, which are the one state of the history, and
-- no attempt has begun
pub record IsOpening (l : Listing) (w : World) : Type 0 where
  pub words : (rest : List ℕ) × (w.words ≡ 0 ∷ rest) × HoldValues l.initial rest
  pub history : w.history ≡ l.initial ∷ []
  pub attempts : w.attempts ≡ []
  pub committer : w.committer ≡ None

-- whether an attempt keeps its task from beginning again: it runs, or it has committed
abbrev pub is_live : Fate → Bool
is_live fate.Running = true
is_live (fate.Committed n) = true
is_live fate.Parked = false
is_live fate.Stale = false
is_live fate.Dropped = false
is_live fate.Spent = false

-- the task exists, and has no running attempt and none that committed
abbrev pub CanBegin : Listing → World → TaskId → Type 0
CanBegin l w a =
    (a.0 < length (tasks l))
    × ((i : ℕ) (y : Started) → slice_get w.attempts i ≡ Some y → y.task ≡ a → is_live y.fate ≡ false)

-- y, at the place i, is the running attempt of the task a
abbrev pub IsRunning : World → TaskId → ℕ → Started → Type 0
IsRunning w a i y = (slice_get w.attempts i ≡ Some y) × (y.task ≡ a) × (y.fate ≡ fate.Running)

-- where an attempt stands: what its program answers over what it read
abbrev pub stand : Listing → Started → Answer
stand l y = ask (task_program l y.task) y.log

-- the running attempt of the task stands at this answer
abbrev pub Stands : Listing → World → TaskId → ℕ → Started → Answer → Type 0
Stands l w a i y r = IsRunning w a i y × (stand l y ≡ r)

-- the variable that an attempt reads: the one that it needs, or, while it checks, that of the pair that it has come to
abbrev pub wanted_by : Answer → Known → Option Check → Option VarId
wanted_by (Needs x) log None = Some x
wanted_by (Needs x) log (Some c) = option_map (λ (p : VarId × ℤ). p.0) (slice_get log c.checked)
wanted_by (Ends o writes) log check = None

abbrev pub wanted : Listing → Started → Option VarId
wanted l y = wanted_by (stand l y) y.log y.check

-- the number of the state whose values it loads: its own, or, while it checks, that of the state that it checks
abbrev pub bound_by : ℕ → Option Check → ℕ
bound_by rv None = rv
bound_by rv (Some c) = c.candidate

abbrev pub bound : Started → ℕ
bound y = bound_by y.rv y.check

-- the running attempt of the task reads the variable x, and has loaded so much of it
abbrev pub Reading : Listing → World → TaskId → ℕ → Started → VarId → Loads → Type 0
Reading l w a i y x ls = (IsRunning w a i y × (wanted l y ≡ Some x)) × (y.loads ≡ ls)

-- the words that it has loaded, in this order
abbrev pub words_loaded : Loads → List ℕ
words_loaded loads.Nothing = []
words_loaded (loads.Version version) = version ∷ []
words_loaded (loads.Value version bits) = version ∷ bits ∷ []

-- y, at the place i, is the attempt of the task a that began last
abbrev pub IsLatest : World → TaskId → ℕ → Started → Type 0
IsLatest w a i y =
    (slice_get w.attempts i ≡ Some y) × (y.task ≡ a)
    × ((j : ℕ) (z : Started) → slice_get w.attempts j ≡ Some z → z.task ≡ a → j ≤ i)

-- no committer is of the attempt at the place i
abbrev pub Apart : Option Committer → ℕ → Type 0
Apart o i = (c : Committer) → o ≡ Some c → c.place ≢ i

abbrev pub version_now : World → VarId → ℕ
version_now w x = slice_index w.words (version_word x.0)

abbrev pub value_now : World → VarId → ℕ
value_now w x = slice_index w.words (value_word x.0)

-- the world with an attempt more, of which this became at once
abbrev pub with_attempt : World → TaskId → Fate → World
with_attempt w a f =
    record w {
      attempts = w.attempts ++ record { task = a; rv = slice_index w.words 0; log = []; loads = loads.Nothing; fate = f; movable = false; check = None } ∷ [];
    }

-- the world with another attempt at the place i
abbrev pub changed : World → ℕ → Started → World
changed w i y = record w { attempts = slice_set w.attempts i y }

abbrev pub with_loads : Started → Loads → Started
with_loads y ls = record y { loads = ls }

-- the attempt that has read x, whose value word was `bits`
abbrev pub with_read : Started → VarId → ℕ → Started
with_read y x bits = record y { log = y.log ++ (x, cast_signed w64 bits) ∷ []; loads = loads.Nothing }

abbrev pub with_fate : Started → Fate → Started
with_fate y f = record y { fate = f }

-- it became stale at a load
abbrev pub stale_at_load : Started → Started
stale_at_load y = record y { fate = fate.Stale; movable = true }

-- it runs again
abbrev pub running_again : Started → Started
running_again y = record y { fate = fate.Running; movable = false }

-- it has found so many of the pairs that it read to be so in the state n, and goes on to check the next one
abbrev pub checking : Started → ℕ → ℕ → Started
checking y n checked = record y { loads = loads.Nothing; check = Some record { candidate = n; checked = checked } }

-- it has found all of them to be so there, and moves to the state n
abbrev pub moved : Started → ℕ → Started
moved y n = record y { rv = n; loads = loads.Nothing; check = None }

-- the variables, from number n on, whose values differ, with their new values
abbrev pub differences : ℕ → State → State → List Change
differences n [] m' = []
differences n (a ∷ m) [] = []
differences n (a ∷ m) (b ∷ m') = if int_eq a b then differences (n + 1) m m' else (record { 0 = n }, b) ∷ differences (n + 1) m m'

-- the committer of the attempt at the place i, whose writes are these: it has stored nothing
abbrev pub committing : World → ℕ → Known → Committer
committing w i writes =
    let m = last_state w.history in
    record { place = i; number = length w.history; changes = differences 0 m (store writes m); stored = 0 }

abbrev pub locks : List Change → List Store
locks changes = map (λ (c : Change). Lock c.0) changes

abbrev pub puts : List Change → List Store
puts changes = map (λ (c : Change). Put c.0 c.1) changes

abbrev pub frees : List Change → List Store
frees changes = map (λ (c : Change). Free c.0) changes

-- all stores of a commit, in their order
abbrev pub stores : List Change → List Store
stores changes = locks changes ++ (puts changes ++ (Tick ∷ frees changes))

-- what the words are after a store of the commit of the number n
abbrev pub Writes : Store → ℕ → List ℕ → List ℕ → Type 0
Writes (Lock x) n words words' = words' ≡ slice_set words (version_word x.0) (slice_index words (version_word x.0) + 1)
Writes (Put x v) n words words' = (bits : ℕ) × AreBits v bits × (words' ≡ slice_set words (value_word x.0) bits)
Writes Tick n words words' = words' ≡ slice_set words 0 n
Writes (Free x) n words words' = words' ≡ slice_set words (version_word x.0) (2 * n)

-- and what the history is: a state more once the clock was stored
abbrev pub history_after : Store → List Change → List State → List State
history_after (Lock x) changes h = h
history_after (Put x v) changes h = h
history_after Tick changes h = h ++ with_changes (last_state h) changes ∷ []
history_after (Free x) changes h = h

-- the world after a store of the committer
abbrev pub stored : World → Committer → Store → List ℕ → World
stored w c s words = record {
  words = words;
  history = history_after s c.changes w.history;
  attempts = w.attempts;
  committer = Some (record c { stored = c.stored + 1 });
}

-- the world once the committer is done
abbrev pub finished : World → Committer → Started → World
finished w c y = record {
  words = w.words;
  history = w.history;
  attempts = slice_set w.attempts c.place (with_fate y (fate.Committed c.number));
  committer = None;
}
