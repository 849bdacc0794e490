-- What observing a transaction says, and what telling an attempt what it needs does.
use Rattle.std.specs.Prelude.{◌≡◌, ◌≢◌, ◌⊎◌, ℕ, ℤ, ◌+◌, ◌*◌, ◌<◌, ◌≤◌, true, false, List, length}
use Rattle.txn_programs.specs.declared.ast.TxId.{TxId}
use Rattle.txn_programs.specs.declared.ast.VarId.{VarId}
use Rattle.txn_programs.specs.Listing.{Listing, call_program}
use Rattle.txn_programs.specs.Meaning.{State, outcome}
use Rattle.txn_words.specs.Words.{state_value, state_of, StartsWith}
use Rattle.txn_words.specs.Stores.{id_of, new_of}
use Rattle.txn_words.specs.Loads.{ShowsStale}
use Rattle.attempt.specs.Asking.{Known}
use Rattle.attempt.specs.Frame.{Agrees}
use Rattle.attempt.specs.View.{AttemptView}
pub use Rattle.attempt.specs.Room.{TakesMemory}
use Rattle.attempt.specs.declared.next.Stand.TheVariants.{Over, Needs, Spent}
use Rattle.cells.specs.Cells.{CellsId}
use Rattle.cells.specs.Passing.{Passing, at}
use Rattle.run_observer.specs.declared.observation.Observed.{Observed}
use Rattle.txn_programs.specs.declared.ast.Outcome.{Outcome}
use Rattle.run_observer.specs.declared.observation.Observed.TheVariants as observed

-- From the pass p to q, one clock load began it anew, and it moved at most once for each variable. It sees a history
-- that begins with what it saw, and is at that history's last state, whose number the last clock load gave.
pub record ObservesBy (p q : Passing) : Type 0 where
  pub cells : q.cells ≡ p.cells
  pub seen : StartsWith q.seen p.seen
  pub begins : p.clock_loads < q.clock_loads
  pub moves : q.clock_loads ≤ p.clock_loads + 1 + q.cells.variables
  pub rv : length q.seen ≡ q.rv + 1

-- The variable that was read last has another value in the present state than in an earlier one, which is no older than
-- the last that the pass p had seen.
abbrev pub ShowsChange : Passing → Passing → Type 0
ShowsChange p q = (n : ℕ) × (length p.seen ≤ n + 1) × (n < q.rv)
    × (state_value (at q) q.variable ≢ state_value (state_of q.seen n) q.variable)

-- A stale answer closed the pass, after it began and tried to move: the loads of its last read show why, or the value
-- that they gave does.
abbrev pub IsStaleFrom : Passing → Passing → Type 0
IsStaleFrom p q = (q.open_now ≡ false) × (p.clock_loads + 2 ≤ q.clock_loads) × (ShowsStale q.rv q.loads ⊎ ShowsChange p q)

-- An outcome is that of the transaction with these arguments on the state at which the pass is in the end.
abbrev pub IsObserved : Listing → TxId → List ℤ → Passing → Passing → Observed → Type 0
IsObserved l tx given p q (observed.Outcome o) = (outcome (call_program l tx given) (at q) ≡ o) × (q.open_now ≡ true)
IsObserved l tx given p q observed.Stale = IsStaleFrom p q
IsObserved l tx given p q observed.Memory = (q.open_now ≡ true) × TakesMemory l tx

-- where a pass is: what reading leaves
pub record Moment : Type 0 where
  pub cells : CellsId
  pub seen : List (List ℤ)
  pub clock_loads : ℕ
  pub rv : ℕ

abbrev pub moment : Passing → Moment
moment p = record { cells = p.cells; seen = p.seen; clock_loads = p.clock_loads; rv = p.rv }

-- the pass is where it was
abbrev pub StaysAt : Passing → Passing → Type 0
StaysAt p q = (q.clock_loads ≡ p.clock_loads) × (q.seen ≡ p.seen) × (q.rv ≡ p.rv)

-- by one clock load the pass is at the last state that it has seen
abbrev pub MovesOn : Passing → Passing → Type 0
MovesOn p q = (q.clock_loads ≡ p.clock_loads + 1) × (length q.seen ≡ q.rv + 1)

-- From the pass p to q, a variable was read, and where that was stale, the pass was extended by the log, and the
-- variable read once more.
pub record TellsBy (p q : Passing) (log : Known) : Type 0 where
  pub cells : q.cells ≡ p.cells
  pub seen : StartsWith q.seen p.seen
  pub word_loads : q.word_loads ≤ p.word_loads + 3 * (length log + 2)
  pub moment : StaysAt p q ⊎ MovesOn p q

-- the variable that was read last has another value than the log has
abbrev pub ShowsOther : Passing → Known → Type 0
ShowsOther q log = (i : ℕ) × (i < length log) × (q.variable ≡ id_of log i) × (state_value (at q) (id_of log i) ≢ new_of log i)

-- The pass q is closed, after it was to move: the loads of its last read show why, or the value that they gave does.
abbrev pub IsCutFrom : Passing → Passing → Known → Type 0
IsCutFrom p q log = MovesOn p q × (q.open_now ≡ false) × (ShowsStale q.rv q.loads ⊎ ShowsOther q log)

-- An attempt of the transaction with these arguments that has ended as the transaction does on the state m, and on each
-- state that agrees with its log.
pub record EvaluatesTo (l : Listing) (tx : TxId) (given : List ℤ) (m : State) (how : Outcome) (a : AttemptView) : Type 0 where
  pub program : a.program ≡ call_program l tx given
  pub variables : a.variables ≡ length l.initial
  pub ended : a.stand ≡ Over how
  pub agrees : Agrees a.log m
  pub outcome_is : outcome (call_program l tx given) m ≡ how
  pub frame : (s : State) → length s ≡ length l.initial → Agrees a.log s → outcome (call_program l tx given) s ≡ how

-- the same, however it ended
abbrev pub Evaluates : Listing → TxId → List ℤ → State → AttemptView → Type 0
Evaluates l tx given m a = (how : Outcome) × EvaluatesTo l tx given m how a

-- An attempt of a transaction that takes memory: going on spent it, or it needs a variable, beside eight or more that it
-- was told.
abbrev pub LacksMemory : Listing → TxId → AttemptView → Type 0
LacksMemory l tx a =
    TakesMemory l tx × ((a.stand ≡ Spent) ⊎ ((x : VarId) × (a.stand ≡ Needs x) × (8 ≤ length a.log)))
