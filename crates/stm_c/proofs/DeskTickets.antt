-- The tickets that a desk tells are numbers that C has.
use Rattle.std.proofs.Common.{◌≡◌, ◌⊎◌, ℕ, ◌<◌, ◌≤◌, ◌^◌, Bool, inl, inr, Option, Some, None, Result, Ok, Err, IfOk, sym, subst, arith}
use Rattle.std.specs.List.{slice_get}
use Rattle.std.specs.Option.{IfSome}
use Rattle.std.proofs.lemmas.Option.{get_or_from_slice_get, slice_get_within}
use Rattle.std.proofs.Math.Logic.{∥∥₁_elim}
use Rattle.std.proofs.Math.Bridge.{le_prop}
use Rattle.txn_programs.specs.declared.arguments.Call.{Call}
use Rattle.txn_programs.specs.Listing.{Listing}
use Rattle.stm_store.specs.Tickets.{AreTickets, most_tickets}
use Rattle.stm_store.specs.declared.answers.Refused.{Refused}
use Rattle.stm_store.specs.declared.answers.Refused.TheVariants as refused
use Rattle.stm_store.specs.declared.job.Ticket.{Ticket}
use Rattle.stm_store.specs.declared.store.Store.{Store}
use Rattle.stm_desk.specs.declared.answers.Answer as desk
use Rattle.stm_desk.specs.declared.answers.Due.{Due}
use Rattle.stm_desk.specs.declared.answers.Told.{Told}
use Rattle.stm_desk.specs.declared.waiters.Waiting.{Waiting}
use Rattle.stm_desk.specs.declared.work.Work.{Work}
use Rattle.stm_desk.specs.History.{History}
use Rattle.stm_desk.specs.Keeping.{Accounts, IsToldOf}
use Rattle.stm_desk.specs.Open.{IsOver, IsParkedCall, IsRunningCall}
use Rattle.stm_desk.specs.Running.{IsHanded}
use Rattle.stm_desk.specs.Waiting.{waiting_at}
use Rattle.stm_c.specs.DeskAnswers.{IsToldWith}

over_fits : (s : Store) (t : Ticket) → AreTickets s.tickets → IsOver s t → t.0 < 2 ^ 63
over_fits s t tickets over =
    let few : s.tickets.given ≤ most_tickets = tickets.few in
    omega (arith, few, over.given)

-- that of a call that is told of
module _ (first now : Store) (h : History) (l : Listing) (closed : Bool) (t : Ticket) (call : Call) (tickets : AreTickets now.tickets) where
  fits : Accounts first now h → (r : Result desk.Answer Refused) → IsToldOf l closed h t call r → t.0 < 2 ^ 63
  fits a (Ok e) told = over_fits now t tickets (a.over e.place _ told.at_place)
  fits a (Err refused.Memory) told = over_fits now t tickets (a.over told.0.place _ told.0.at_place)
  fits a (Err refused.Closed) told = over_fits now t tickets (a.over told.0.place _ told.0.at_place)
  fits a (Err refused.Unknown) told = absurd told
  fits a (Err refused.Gone) told = absurd told
  fits a (Err refused.NotReady) told = absurd told
  fits a (Err refused.NotRunning) told = absurd told
  fits a (Err refused.NotEnded) told = absurd told
  fits a (Err refused.OtherProgram) told = absurd told
  fits a (Err refused.Stale) told = absurd told
  fits a (Err refused.NoRoom) told = absurd told
  fits a (Err refused.Retries) told = absurd told
  fits a (Err refused.TimedOut) told = absurd told

  told_fits : ∥ Accounts first now h ∥₁ → (r : Result desk.Answer Refused) → ∥ IsToldOf l closed h t call r ∥₁ → t.0 < 2 ^ 63
  told_fits accounts r told = ∥∥₁_elim accounts le_prop (λ a. ∥∥₁_elim told le_prop (fits a r))

  -- and of the entry that is told
  entry_fits : ∥ Accounts first now h ∥₁ → (r : Result desk.Answer Refused) → ∥ IsToldOf l closed h t call r ∥₁ → IfOk r (λ e. e.ticket.0 < 2 ^ 63)
  entry_fits accounts (Ok e) told = ∥∥₁_elim told le_prop (λ is. subst (λ (x : Ticket). x.0 < 2 ^ 63) (sym is.ticket_is) (told_fits accounts (Ok e) told))
  entry_fits accounts (Err why) told = tt

-- that of a task of the store
held_fits : (s : Store) (k ticket : ℕ) → AreTickets s.tickets → slice_get s.tickets.held k ≡ Some ticket → ticket < 2 ^ 63
held_fits s k ticket tickets at =
    let few : s.tickets.given ≤ most_tickets = tickets.few in
    let low : ticket < s.tickets.given = subst (λ (n : ℕ). n < s.tickets.given) (get_or_from_slice_get s.tickets.held k ticket 0 at) (tickets.below k 0 (slice_get_within s.tickets.held k ticket at)) in
    omega (arith, few, low)

pub told_with : (first now : Store) (h : History) (l : Listing) (closed : Bool) (o : Option Told) → AreTickets now.tickets → ∥ Accounts first now h ∥₁ → IfSome o (λ t. ∥ IsToldOf l closed h t.ticket t.call.value t.answer ∥₁) → IfSome o IsToldWith
told_with first now h l closed None tickets accounts told = tt
told_with first now h l closed (Some t) tickets accounts told = (
  told_fits first now h l closed t.ticket t.call.value tickets accounts t.answer told,
  entry_fits first now h l closed t.ticket t.call.value tickets accounts t.answer told,
)

-- of a task for which somebody waits, which is handed out
pub due_with : (s : Store) (old new : Work) (o : Option Due) → AreTickets s.tickets → ((ticket : ℕ) (seat : Waiting) → waiting_at old.waiters ticket ≡ Some seat → ∥ IsParkedCall s (record { 0 = ticket }) seat.call.value ⊎ IsRunningCall s (record { 0 = ticket }) seat.call.value ∥₁) → IsHanded old o new → IfSome o (λ (d : Due). d.job.ticket.0 < 2 ^ 63)
due_with s old new None tickets waits handed = tt
due_with s old new (Some d) tickets waits handed =
    ∥∥₁_elim (waits d.job.ticket.0 handed.1 handed.4) le_prop (λ x. elim x [
      | inl p ↦ held_fits s p.task.0 d.job.ticket.0 tickets p.own
      | inr r ↦ held_fits s r.has.has.task.0 d.job.ticket.0 tickets r.has.has.own
    ])
