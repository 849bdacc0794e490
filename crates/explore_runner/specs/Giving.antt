-- What is kept while given turns are taken: of the book, and of the tasks that are left of each instance.
use Rattle.std.specs.Prelude.{◌≡◌, ◌≢◌, ℕ, ◌<◌, ◌≤◌, List, [], ◌∷◌, ◌++◌, map, length, Option, Some, None, slice_get, slice_set, slice_index_or}
use Rattle.std.specs.declared.alloc.Global.{Global}
use Rattle.std.specs.declared.vec.Vec.{Vec}
use Rattle.txn_programs.specs.declared.arguments.Call.{Call}
use Rattle.txn_programs.specs.declared.report.Entry.{Entry}
use Rattle.txn_programs.specs.Listing.{Listing, calls, tasks}
use Rattle.txn_programs.specs.Replay.{opening, Once}
use Rattle.book.specs.Tasks.{Ready, Running, GivenUp}
use Rattle.book.specs.View.{BookView}
use Rattle.explore_law.specs.declared.instance.InstanceId.{InstanceId}
use Rattle.explore_law.specs.Instances.{instances, instance_at}
use Rattle.explore_law.specs.Orders.{Config, Leads}
use Rattle.explore_runner.specs.Ends.{call_as}

-- the calls that the tasks of entries make
abbrev pub entered_by : Listing → List Entry → List Call
entered_by l es = map (λ (e : Entry). call_as l e.task e.tx) es

-- a book in which no task had a turn, and the tasks below n were taken
pub record IsTaken (l : Listing) (n : ℕ) (b : BookView) : Type 0 where
  pub catalogue : b.catalogue ≡ l
  pub base : b.base ≡ opening l
  pub present : b.present ≡ opening l
  pub journal : b.journal ≡ []
  pub running : (t : ℕ) → t < n → slice_get b.tasks t ≡ Some Running
  pub ready : (t : ℕ) → n ≤ t → t < length (tasks l) → slice_get b.tasks t ≡ Some Ready
  pub kept : (t : ℕ) → slice_get b.tasks t ≢ Some GivenUp

-- for each instance the tasks of it that are left
abbrev pub queues : List (Vec ℕ Global) → List (List ℕ)
queues vs = map (λ (v : Vec ℕ Global). v.items) vs

abbrev pub queue_at : List (List ℕ) → ℕ → List ℕ
queue_at qs k = slice_index_or qs k []

-- the last of a queue leaves it, if there is one
abbrev pub Leaves : List (List ℕ) → InstanceId → Option ℕ → List (List ℕ) → Type 0
Leaves old k None new = queue_at old k.0 ≡ []
Leaves old k (Some t) new = (rest : List ℕ) × (queue_at old k.0 ≡ rest ++ t ∷ []) × (new ≡ slice_set old k.0 rest)

-- the task is of the instance
pub record IsOf (l : Listing) (k : InstanceId) (t : ℕ) : Type 0 where
  pub call : Call
  pub instance : slice_get (instances l) k.0 ≡ Some call
  pub made : slice_get (calls l) t ≡ Some call

-- each task in a queue is of its instance, and none stands twice
pub record AreOwn (l : Listing) (qs : List (List ℕ)) : Type 0 where
  pub own : (k i t : ℕ) → slice_get (queue_at qs k) i ≡ Some t → IsOf l (record { 0 = k }) t
  pub once : (k : ℕ) → Once (queue_at qs k)

-- a book that began with the opening, in which each task that is left is running, and none is given up
pub record IsGiving (b : BookView) (qs : List (List ℕ)) : Type 0 where
  pub base : b.base ≡ opening b.catalogue
  pub own : AreOwn b.catalogue qs
  pub running : (k i t : ℕ) → slice_get (queue_at qs k) i ≡ Some t → slice_get b.tasks t ≡ Some Running
  pub kept : (t : ℕ) → slice_get b.tasks t ≢ Some GivenUp

-- a book that began with the opening, whose entries are of these instances, and in which none is given up
pub record HasGiven (l : Listing) (turns : List InstanceId) (b : BookView) : Type 0 where
  pub catalogue : b.catalogue ≡ l
  pub base : b.base ≡ opening l
  pub entered : entered_by l b.journal ≡ map (instance_at l) turns
  pub kept : (t : ℕ) → slice_get b.tasks t ≢ Some GivenUp

-- the place where they stand
abbrev pub config_of : BookView → List (List ℕ) → Config
config_of b qs = record { state = b.present.state; left = map length qs }

-- these turns lead somewhere from the configuration
abbrev pub GoesSomewhere : Listing → Config → List InstanceId → Type 0
GoesSomewhere l p turns = (q : Config) × Leads l p turns q
