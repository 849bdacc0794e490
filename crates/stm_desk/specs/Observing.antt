-- How a call would end on the present values of a desk.
use Rattle.std.specs.Prelude.{◌≡◌, ℤ, true, false, List, Result, Ok, Err}
use Rattle.txn_programs.specs.declared.ast.Outcome.{Outcome}
use Rattle.txn_programs.specs.declared.ast.TxId.{TxId}
use Rattle.txn_programs.specs.Listing.{IsCallable, call_program}
use Rattle.txn_programs.specs.Meaning.{outcome}
use Rattle.attempt.specs.Room.{TakesMemory}
use Rattle.stm_store.specs.declared.answers.Refused.{Refused}
use Rattle.stm_store.specs.declared.answers.Refused.TheVariants as refused
use Rattle.stm_store.specs.declared.store.Store.{Store}
use Rattle.stm_desk.specs.declared.desk.Desk.{Desk}
use Rattle.stm_desk.specs.declared.work.Work.{Work}

-- the call can be made, and ends so on the present values
pub record EndsNow (s : Store) (tx : TxId) (arguments : List ℤ) (how : Outcome) : Type 0 where
  pub known : IsCallable s.catalogue.now tx arguments
  pub ends : outcome (call_program s.book.catalogue tx arguments) s.book.present.state ≡ how

-- `outcome_now`: how the call would end; or why that is not told
abbrev pub TellsEnd : Desk → TxId → List ℤ → Result Outcome Refused → Type 0
TellsEnd d tx arguments (Ok how) = (d.work.closed ≡ false) × EndsNow d.work.store tx arguments how
TellsEnd d tx arguments (Err refused.Closed) = d.work.closed ≡ true
TellsEnd d tx arguments (Err refused.Unknown) =
    (d.work.closed ≡ false) × (IsCallable d.work.store.catalogue.now tx arguments → ⊥)
TellsEnd d tx arguments (Err refused.Memory) =
    (d.work.closed ≡ false) × IsCallable d.work.store.catalogue.now tx arguments × TakesMemory d.work.store.book.catalogue tx
TellsEnd d tx arguments (Err why) = ⊥

-- nothing changed that can be seen
pub record IsAsBefore (old new : Work) : Type 0 where
  pub store : new.store ≡ old.store
  pub waiters : new.waiters ≡ old.waiters
  pub history : new.history.items ≡ old.history.items
  pub due : new.due.items ≡ old.due.items
  pub first : new.first.value ≡ old.first.value
  pub long : new.long.items ≡ old.long.items
  pub closed : new.closed ≡ old.closed
  pub last : new.last ≡ old.last
