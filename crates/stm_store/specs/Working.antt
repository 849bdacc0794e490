-- What a worker's try leaves, and what a program declares.
use Rattle.std.specs.Prelude.{◌≡◌, ℕ, ℤ, ◌+◌, ◌%◌, ◌^◌, Bool, true, false, List, [], Option, Some, None, Result, Ok, Err}
use Rattle.txn_programs.specs.declared.ast.TxId.{TxId}
use Rattle.txn_programs.specs.declared.ast.Outcome.{Outcome}
use Rattle.txn_programs.specs.Meaning.{outcome}
use Rattle.txn_programs.specs.Listing.{Listing, call_program}
use Rattle.attempt.specs.View.{AttemptView}
use Rattle.attempt.specs.declared.next.Stand.{Stand}
use Rattle.attempt.specs.declared.next.Stand.TheVariants as stand
use Rattle.cells.specs.Passing.{Passing, at}
use Rattle.run_observer.specs.Observing.{ObservesBy, IsStaleFrom, Evaluates, LacksMemory, TakesMemory}
use Rattle.stm_store.specs.declared.answers.Refused.{Refused}
use Rattle.stm_store.specs.declared.answers.Refused.TheVariants as refused
use Rattle.stm_store.specs.declared.job.Job.{Job}

-- the attempt has ended
abbrev pub is_over : Stand → Bool
is_over stand.Fresh = false
is_over (stand.Needs x) = false
is_over (stand.Over o) = true
is_over stand.Spent = false

-- the attempt's program is that of the job's call
abbrev pub IsProgramOf : Listing → AttemptView → Job → Type 0
IsProgramOf l a job = a.program ≡ call_program l job.tx job.arguments

-- `try_job`, from the pass p to q: where it ended, the attempt is for the job and ended on the state at which the pass is
abbrev pub TriedBy : Listing → Job → Passing → Result (Unit {0}) Refused → Passing → AttemptView → Option Job → Type 0
TriedBy l job p (Ok done) q a ended =
    ObservesBy p q × (ended ≡ Some job) × Evaluates l job.tx job.arguments (at q) a
TriedBy l job p (Err refused.Stale) q a ended = ObservesBy p q × (ended ≡ None) × IsStaleFrom p q
TriedBy l job p (Err refused.Memory) q a ended =
    ObservesBy p q × (ended ≡ None) × (q.open_now ≡ true) × LacksMemory l job.tx a
TriedBy l job p (Err _) q a ended = ⊥

-- `observe`, from the pass p to q: an outcome is that of the call on the state at which the pass is
abbrev pub IsObserved : Listing → TxId → List ℤ → Passing → Passing → Result Outcome Refused → Type 0
IsObserved l tx arguments p q (Ok o) = (outcome (call_program l tx arguments) (at q) ≡ o) × (q.open_now ≡ true)
IsObserved l tx arguments p q (Err refused.Stale) = IsStaleFrom p q
IsObserved l tx arguments p q (Err refused.Memory) = (q.open_now ≡ true) × TakesMemory l tx
IsObserved l tx arguments p q (Err _) = ⊥

-- a listing without its runs: what a store's program declares, whatever was submitted
abbrev pub without_runs : Listing → Listing
without_runs l = record l { runs = [] }

-- what a listing declares, at whatever values it begins and whatever runs: it is the same in each chapter of a store
abbrev pub declaring : Listing → Listing
declaring l = record l { initial = []; runs = [] }

-- the number of the next chapter: they are counted from 0, and after 2^64 of them anew
abbrev pub next_number : ℕ → ℕ
next_number n = (n + 1) % 2 ^ 64
