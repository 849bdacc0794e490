-- What the fields of calls mean, and what they keep.
use Rattle.std.specs.Prelude.{◌≡◌, ◌≢◌, ◌≤◌, ◌+◌, ◌*◌, ℕ, ℤ, List, [], ◌∷◌, length, take, drop, slice_index, vec_capacity}
use Rattle.txn_programs.specs.declared.ast.TxId.{TxId}
use Rattle.txn_programs.specs.declared.arguments.Call.{Call}
use Rattle.txn_programs.specs.declared.limits.TheConstants.{MAX_PARAMETERS, MAX_TASKS}
use Rattle.book.specs.Calls.{CallsView}
use Rattle.book.specs.declared.calls.Calls.TheInside.{Inside}

-- the arguments of call k: so many numbers of its row
abbrev pub given : ℕ → List ℕ → List ℤ → ℕ → List ℤ
given width counts rows k = take (slice_index counts k) (drop (k * width) rows)

-- the calls, the first of them with number k
abbrev pub calls_from : ℕ → List ℕ → List ℤ → ℕ → List TxId → List Call
calls_from width counts rows k [] = []
calls_from width counts rows k (tx ∷ txs) = record { tx = tx; arguments = given width counts rows k } ∷ calls_from width counts rows (k + 1) txs

abbrev pub calls_in : Inside → List Call
calls_in c = calls_from c.width c.counts.items c.rows.items 0 c.transactions.items

abbrev pub calls_view : Inside → CallsView
calls_view c = record { calls = calls_in c; width = c.width; room = c.room }

pub record IsKept (c : Inside) : Type 0 where
  pub within : length c.transactions.items ≤ c.room
  pub few : c.room ≤ MAX_TASKS
  pub narrow : c.width ≤ MAX_PARAMETERS
  -- no call takes memory
  pub fits : c.room ≤ vec_capacity c.transactions
  -- where there are rows, there is one for each call that there is room for
  pub counted : c.width ≢ 0 → length c.counts.items ≡ c.room
  pub whole : c.width ≢ 0 → length c.rows.items ≡ c.room * c.width
  -- no call has more arguments than its row has numbers
  pub each : (k : ℕ) → slice_index c.counts.items k ≤ c.width
