-- Who waits, and what is still to be told.
use Rattle.std.specs.Prelude.{◌≡◌, ◌≢◌, ◌⊎◌, ℕ, List, ◌∷◌, [], ◌++◌, Option, Some, None, Result, Err, slice_get}
use Rattle.std.specs.BTreeMap.{get}
use Rattle.std.specs.Ordering.{nat_cmp}
use Rattle.txn_programs.specs.declared.arguments.Call.{Call}
use Rattle.stm_store.specs.declared.answers.Refused.{Refused}
use Rattle.stm_store.specs.declared.answers.Refused.TheVariants as refused
use Rattle.stm_store.specs.declared.job.Ticket.{Ticket}
use Rattle.stm_desk.specs.declared.answers.Answer.{Answer}
use Rattle.stm_desk.specs.declared.answers.Told.{Told}
use Rattle.stm_desk.specs.declared.waiters.Waiters.{Waiters}
use Rattle.stm_desk.specs.declared.waiters.Waiting.{Waiting}

-- the call that waits with this ticket
abbrev pub waiting_at : Waiters → ℕ → Option Waiting
waiting_at w ticket = get nat_cmp w.calls ticket

abbrev pub OthersStay : Waiters → Waiters → Ticket → Type 0
OthersStay old new ticket = (other : ℕ) → other ≢ ticket.0 → waiting_at new other ≡ waiting_at old other

-- the same wait, and the same is to be told
pub record WaitAsBefore (old new : Waiters) : Type 0 where
  pub calls : (ticket : ℕ) → waiting_at new ticket ≡ waiting_at old ticket
  pub told : new.told.items ≡ old.told.items

-- this call waits with the ticket, besides those that waited
pub record IsSeated (old : Waiters) (ticket : Ticket) (whose : ℕ) (call : Call) (new : Waiters) : Type 0 where
  pub seat : Waiting
  pub here : waiting_at new ticket.0 ≡ Some seat
  pub of : seat.whose ≡ whose
  pub calls : seat.call.value ≡ call
  pub others : OthersStay old new ticket
  pub told : new.told.items ≡ old.told.items

-- what is told of the call that waited with the ticket, if one did
abbrev pub IsToldTo : Option Waiting → List Told → Ticket → Result Answer Refused → List Told → Type 0
IsToldTo None old ticket answer new = new ≡ old
IsToldTo (Some seat) old ticket answer new =
    new ≡ old ++ (record { whose = seat.whose; ticket = ticket; answer = answer; call = seat.call }) ∷ []

-- the call that waited so is told of in this list
pub record IsToldIn (list : List Told) (ticket : ℕ) (seat : Waiting) : Type 0 where
  pub place : ℕ
  pub entry : Told
  pub at_place : slice_get list place ≡ Some entry
  pub of : entry.ticket.0 ≡ ticket
  pub whose : entry.whose ≡ seat.whose
  pub call : entry.call ≡ seat.call

-- each call that waited waits on, or is to be told of, once, behind all that was to be told before; and no other
pub record HandsOn (old new : Waiters) : Type 0 where
  pub more : List Told
  pub told : new.told.items ≡ old.told.items ++ more
  pub each : (ticket : ℕ) (seat : Waiting) → waiting_at old ticket ≡ Some seat
      → (waiting_at new ticket ≡ Some seat) ⊎ IsToldIn more ticket seat
  pub nobody : (ticket : ℕ) → waiting_at old ticket ≡ None → waiting_at new ticket ≡ None
  pub only : (place : ℕ) (t : Told) → slice_get more place ≡ Some t
      → (waiting_at old t.ticket.0 ≢ None) × (waiting_at new t.ticket.0 ≡ None)
  pub once : (i j : ℕ) (a b : Told) → slice_get more i ≡ Some a → slice_get more j ≡ Some b
      → a.ticket.0 ≡ b.ticket.0 → i ≡ j

-- and what is told of each is that the desk is closed
pub record AreShutOut (old new : Waiters) : Type 0 where
  pub hands_on : HandsOn old new
  pub closed : (place : ℕ) (t : Told) → slice_get hands_on.more place ≡ Some t → t.answer ≡ Err refused.Closed
