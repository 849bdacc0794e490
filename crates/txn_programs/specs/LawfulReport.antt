-- What a report promises: its journal explains every value, and each task is accounted for once.
use Rattle.std.specs.Prelude.{◌≡◌, ◌≢◌, ℕ, ◌+◌, ◌<◌, ◌≤◌, ℤ, List, [], ◌∷◌, ◌++◌, map, length, drop, Some, slice_get, All}
use Rattle.txn_programs.specs.declared.ast.TxId.{TxId}
use Rattle.txn_programs.specs.declared.ast.TaskId.{TaskId}
use Rattle.txn_programs.specs.declared.report.Entry.{Entry}
use Rattle.txn_programs.specs.declared.ast.Fault.{Fault}
use Rattle.txn_programs.specs.declared.ast.Fault.TheVariants.{User, Overflow, DivideByZero, Broken, Outside}
use Rattle.txn_programs.specs.declared.ast.Outcome.{Outcome}
use Rattle.txn_programs.specs.declared.ast.Outcome.TheVariants.{Returned, Thrown, Retries}
use Rattle.txn_programs.specs.Limits.{most_tasks}
use Rattle.txn_programs.specs.Meaning.{outcome}
use Rattle.txn_programs.specs.Standing.{Upholds}
use Rattle.txn_programs.specs.Listing.{Listing, tasks, program_as}
use Rattle.txn_programs.specs.Replay.{Replays, Reached, opening, entered, Stands, Once}
use Rattle.txn_programs.specs.Told.{Told, base_of, now_of}

-- the tasks that the report's lines name, entries first
abbrev pub on_lines : Told → List ℕ
on_lines r = entered r.entries ++ (map (λ p. p.0.0) r.parked ++ map (λ p. p.0.0) r.memory)

-- each next number is larger
abbrev pub Ascends : List ℕ → Type 0
Ascends xs = (i j s t : ℕ) → i < j → slice_get xs i ≡ Some s → slice_get xs j ≡ Some t → s < t

-- a task that is named with its own transaction
abbrev pub HasOwn : Listing → TaskId → TxId → Type 0
HasOwn l task tx = slice_get (tasks l) task.0 ≡ Some tx

-- a condition that an outcome names is one of the catalogue's
abbrev pub FaultKnown : ℕ → Fault → Type 0
FaultKnown n (User v) = Unit {0}
FaultKnown n Overflow = Unit {0}
FaultKnown n DivideByZero = Unit {0}
FaultKnown n (Broken id) = id.0 < n
FaultKnown n Outside = Unit {0}

abbrev pub OutcomeKnown : ℕ → Outcome → Type 0
OutcomeKnown n (Returned v) = Unit {0}
OutcomeKnown n (Thrown f) = FaultKnown n f
OutcomeKnown n Retries = Unit {0}

-- each that no entry wrote is as it was at first
abbrev pub UnwrittenBegin : List ℤ → List (ℤ × ℕ) → Type 0
UnwrittenBegin [] vs = Unit {0}
UnwrittenBegin (first ∷ initial) [] = Unit {0}
UnwrittenBegin (first ∷ initial) (v ∷ vs) = (v.1 ≡ 0 → v.0 ≡ first) × UnwrittenBegin initial vs

-- so it is of the cells, which stand behind the variables
abbrev pub CellsBegin : Listing → List (ℤ × ℕ) → Type 0
CellsBegin l vars = UnwrittenBegin (drop (length l.names) l.initial) (drop (length l.names) vars)

-- what can be written down of the catalogue's variables, conditions, tasks and transactions
pub record FitsCatalogue (l : Listing) (r : Told) : Type 0 where
  pub base_vars : length r.base_vars ≡ length l.initial
  pub current_vars : length r.current_vars ≡ length l.initial
  pub base : r.base ≤ most_tasks
  pub current : r.current ≤ most_tasks
  pub base_versions : All (λ v. v.1 ≤ most_tasks) r.base_vars
  pub current_versions : All (λ v. v.1 ≤ most_tasks) r.current_vars
  pub base_cells : CellsBegin l r.base_vars
  pub current_cells : CellsBegin l r.current_vars
  pub numbers : All (λ (e : Entry). e.number ≤ most_tasks) r.entries
  pub ends : All (λ (e : Entry). e.outcome ≢ Retries) r.entries
  pub faults : All (λ (e : Entry). OutcomeKnown (length l.always) e.outcome) r.entries
  pub entries : All (λ (e : Entry). (e.task.0 < length (tasks l)) × (e.tx.0 < length l.transactions)) r.entries
  pub parked : All (λ p. (p.0.0 < length (tasks l)) × (p.1.0 < length l.transactions)) r.parked
  pub memory : All (λ p. (p.0.0 < length (tasks l)) × (p.1.0 < length l.transactions)) r.memory

pub record LawfulReport (l : Listing) (r : Told) : Type 0 where
  pub fits : FitsCatalogue l r
  -- the journal leads from the base to the present
  pub replays : Replays l (base_of r) r.entries (now_of r)
  pub base_versions : All (λ v. v.1 ≤ r.base) r.base_vars
  pub from_opening : r.base ≡ 0 → base_of r ≡ opening l
  -- each standing condition is true at the base
  pub upheld : Upholds l (base_of r).state
  -- each task stands on at most one line, with its own transaction, and all are accounted for
  pub parked_own : All (λ p. HasOwn l p.0 p.1) r.parked
  pub memory_own : All (λ p. HasOwn l p.0 p.1) r.memory
  pub once : Once (on_lines r)
  pub parked_ascend : Ascends (map (λ p. p.0.0) r.parked)
  pub memory_ascend : Ascends (map (λ p. p.0.0) r.memory)
  pub accounted : r.base + (length r.entries + (length r.parked + length r.memory)) ≡ length (tasks l)
  -- each parked task waits for a change
  pub retries : All (λ p. outcome (program_as l p.0 p.1) (now_of r).state ≡ Retries) r.parked

-- the base is reached by exactly the tasks that stand on none of the report's lines
abbrev pub BaseReached : Listing → Told → Type 0
BaseReached l r = Reached l (base_of r) (λ t. (t < length (tasks l)) × (Stands (on_lines r) t → ⊥))
