-- What is seen of a service: at the end of the history that whoever looks has then seen.
use Rattle.std.specs.Prelude.{◌≡◌, ℕ, ℤ, List, take, drop, Option, Some, None, Result, Ok, Err, slice_get}
use Rattle.txn_programs.specs.declared.arguments.Call.{Call}
use Rattle.txn_programs.specs.declared.ast.Outcome.{Outcome}
use Rattle.txn_programs.specs.declared.ast.Span.{Span}
use Rattle.txn_programs.specs.declared.ast.VarId.{VarId}
use Rattle.txn_programs.specs.Meaning.{State, outcome}
use Rattle.txn_programs.specs.Listing.{IsCallable, Listing, call_program}
use Rattle.attempt.specs.Room.{TakesMemory}
use Rattle.stm_store.specs.Telling.{IsCopiedFrom}
use Rattle.stm_store.specs.declared.answers.Refused.{Refused}
use Rattle.stm_store.specs.declared.answers.Refused.TheVariants as refused
use Rattle.stm_store.specs.declared.store.Store.{Store}
use Rattle.stm_desk.specs.declared.desk.Desk.{Desk}
use Rattle.stm_desk.specs.Answering.{history_of}
use Rattle.stm_desk.specs.History.{History, led}

-- the store of a desk that began with this program and these values, and has come to this history
pub record IsStoreOf (l : Listing) (m : State) (h : History) (s : Store) : Type 0 where
  pub desk : Desk
  pub named : desk.work.first.value.catalogue.now ≡ l
  pub placed : desk.work.first.value.book.present.state ≡ m
  pub history : history_of desk ≡ h
  pub has : desk.work.store ≡ s

-- it is seen of such a store
abbrev pub IsSeen : Listing → State → History → (Store → Type 0) → Type 0
IsSeen l m h sees = ∥ ((s : Store) × IsStoreOf l m h s × sees s) ∥₁

-- the value in a state of this variable or cell, where there is one
abbrev pub IsValueIn : State → Option VarId → Option (ℤ × ℕ) → Type 0
IsValueIn m at None = at ≡ None
IsValueIn m at (Some told) = (x : VarId) × (at ≡ Some x) × (slice_get m x.0 ≡ Some told.0)

-- the values in a state of these cells, in their order
abbrev pub cells_in : State → Span → List ℤ
cells_in m span = take span.length (drop span.first m)

-- those from the cell of this number on were copied
abbrev pub CopiesFrom : State → Span → ℕ → List ℤ → ℕ → List ℤ → Type 0
CopiesFrom m span from old count new = IsCopiedFrom (drop from (cells_in m span)) old count new

-- how the call would end on the values to which a history leads; or why that is not said
abbrev pub WouldEnd : Listing → State → History → Call → Result Outcome Refused → Type 0
WouldEnd l m h call (Ok o) = outcome (call_program l call.tx call.arguments) (led l m h) ≡ o
WouldEnd l m h call (Err refused.Unknown) = IsCallable l call.tx call.arguments → ⊥
WouldEnd l m h call (Err refused.Closed) = Unit {0}
WouldEnd l m h call (Err refused.Memory) = TakesMemory l call.tx
WouldEnd l m h call (Err _) = ⊥
