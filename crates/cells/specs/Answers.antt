-- What a read and an extension answer.
use Rattle.std.specs.Prelude.{◌≡◌, ◌≢◌, ℕ, ◌<◌, true, false, List, length, ℤ}
use Rattle.txn_words.specs.Words.{state_value}
use Rattle.txn_words.specs.Stores.{Change, id_of, new_of}
use Rattle.txn_words.specs.Loads.{ShowsStale}
use Rattle.cells.specs.declared.pass.Read.{Read}
use Rattle.cells.specs.declared.pass.Read.TheVariants.{Value, Stale}
use Rattle.cells.specs.declared.pass.Extend.{Extend}
use Rattle.cells.specs.declared.pass.Extend.TheVariants.{Moved, Changed}
use Rattle.cells.specs.declared.pass.Extend.TheVariants as extend
use Rattle.cells.specs.Passing.{Passing, at}

-- From the pass p to q, a value is that of x in the state of the last begin or extension, after three loads, and the
-- pass stays open. A stale answer closes the pass, and its loads show why.
abbrev pub IsReadBy : Passing → Passing → ℕ → Read → Type 0
IsReadBy p q x (Value v) = (v ≡ state_value (at p) x) × (length q.loads ≡ 3) × (q.open_now ≡ true)
IsReadBy p q x Stale = ShowsStale q.rv q.loads × (q.open_now ≡ false)

-- the first n pairs of the log are as in the state m
abbrev pub AgreesUpTo : List Change → List ℤ → ℕ → Type 0
AgreesUpTo log m n = (i : ℕ) → i < n → state_value m (id_of log i) ≡ new_of log i

-- The extension by the log stopped at place i: all before it is as in the new state, its variable was read last, and
-- the pass is closed.
pub record StopsAt (q : Passing) (log : List Change) (i : ℕ) : Type 0 where
  pub within : i < length log
  pub before : AgreesUpTo log (at q) i
  pub variable : q.variable ≡ id_of log i
  pub is_closed : q.open_now ≡ false

-- The extension by the log led to the pass q. It moved: the whole log is as in the new state, and the pass is open. Or
-- it stopped, at a value that is another in the new state, or at a read whose loads show that it was stale.
abbrev pub IsExtendedBy : Passing → List Change → Extend → Type 0
IsExtendedBy q log Moved = AgreesUpTo log (at q) (length log) × (q.open_now ≡ true)
IsExtendedBy q log Changed = (i : ℕ) × StopsAt q log i × (state_value (at q) (id_of log i) ≢ new_of log i)
IsExtendedBy q log extend.Stale = (i : ℕ) × StopsAt q log i × ShowsStale q.rv q.loads
