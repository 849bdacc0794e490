-- What journal entries do to a snapshot, and where a journal leads.
use Rattle.std.specs.Prelude.{◌≡◌, ◌≢◌, ◌↔◌, ℕ, ◌+◌, if◌then◌else◌, List, [], ◌∷◌, map, length, replicate, Some, slice_get}
use Rattle.std.specs.Ordering.{int_eq}
use Rattle.txn_programs.specs.declared.report.Entry.{Entry}
use Rattle.txn_programs.specs.declared.ast.Outcome.TheVariants.{Retries}
use Rattle.txn_programs.specs.Meaning.{State, outcome, after}
use Rattle.txn_programs.specs.Listing.{Listing, tasks, program_as}

-- a number, with the values and versions that stand at it
pub record Snapshot : Type 0 where
  pub number : ℕ
  pub state : State
  pub versions : List ℕ

-- a version becomes the number just where the value differs
abbrev pub versions_after : ℕ → State → State → List ℕ → List ℕ
versions_after n (old ∷ olds) (new ∷ news) (version ∷ versions) =
    (if int_eq old new then version else n) ∷ versions_after n olds news versions
versions_after n olds news versions = []

-- an entry can be applied: it has the next number, its task's transaction and the task's outcome here, which is no retry
pub record Applies (l : Listing) (e : Entry) (s : Snapshot) : Type 0 where
  pub number : e.number ≡ s.number + 1
  pub tx : slice_get (tasks l) e.task.0 ≡ Some e.tx
  pub outcome_is : e.outcome ≡ outcome (program_as l e.task e.tx) s.state
  pub ends : e.outcome ≢ Retries

-- the snapshot after it
unfoldable pub applied : Listing → Entry → Snapshot → Snapshot
applied l e s =
    record {
      number = e.number;
      state = after (program_as l e.task e.tx) s.state;
      versions = versions_after e.number s.state (after (program_as l e.task e.tx) s.state) s.versions;
    }

-- each entry in turn can be applied, and the last leads to `now`
abbrev pub Replays : Listing → Snapshot → List Entry → Snapshot → Type 0
Replays l base [] now = now ≡ base
Replays l base (e ∷ es) now = Applies l e base × Replays l (applied l e base) es now

-- number 0, the initial values, no variable changed yet
abbrev pub opening : Listing → Snapshot
opening l = record { number = 0; state = l.initial; versions = replicate (length l.initial) 0 }

-- the tasks of entries
abbrev pub entered : List Entry → List ℕ
entered es = map (λ (e : Entry). e.task.0) es

-- t stands somewhere in the list
abbrev pub Stands : List ℕ → ℕ → Type 0
Stands xs t = (i : ℕ) × (slice_get xs i ≡ Some t)

-- nothing stands at two places
abbrev pub Once : List ℕ → Type 0
Once xs = (i j t : ℕ) → slice_get xs i ≡ Some t → slice_get xs j ≡ Some t → i ≡ j

-- some entries, of exactly these tasks, each once, lead from the opening snapshot to the base
pub record Reached (l : Listing) (base : Snapshot) (these : ℕ → Type 0) : Type 0 where
  pub past : List Entry
  pub replays : Replays l (opening l) past base
  pub once : Once (entered past)
  pub exactly : (t : ℕ) → (Stands (entered past) t ↔ these t)
