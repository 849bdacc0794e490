-- Who waits at the desk, whatever is called on it.
use Rattle.std.specs.Prelude.{Bool}
use Rattle.std.proofs.Common.{◌≡◌, ◌≢◌, ◌∙◌, ◌⊎◌, inl, inr, ℕ, zero, suc, ◌+◌, ◌<◌, List, ◌∷◌, ◌++◌, Option, Some, None, Result, Ok, Err, length, slice_get, refl, sym, ap, subst, arith}
use Rattle.std.specs.List.{All}
use Rattle.std.specs.Option.{option_to_list}
use Rattle.std.proofs.lemmas.Bool.{cases_eq}
use Rattle.std.proofs.lemmas.Option.{get_or_from_slice_get, same_Some, slice_get_within}
use Rattle.std.proofs.Math.Logic.{∥∥₁_elim, ∥∥₁_map₂}
use Rattle.txn_programs.specs.declared.arguments.Call.{Call}
use Rattle.txn_programs.specs.Listing.{Listing}
use Rattle.stm_store.specs.Tickets.{AreTickets, TicketsView}
use Rattle.stm_store.specs.declared.answers.Refused.{Refused}
use Rattle.stm_store.specs.declared.answers.Refused.TheVariants as refused
use Rattle.stm_store.specs.declared.answers.Way.{Way}
use Rattle.stm_store.specs.declared.job.Ticket.{Ticket}
use Rattle.stm_desk.specs.declared.answers.Answer.{Answer}
use Rattle.stm_desk.specs.declared.answers.Asked.{Asked}
use Rattle.stm_desk.specs.declared.answers.Asked.TheVariants as asked
use Rattle.stm_desk.specs.declared.answers.Became.{Became}
use Rattle.stm_desk.specs.declared.answers.Became.TheVariants as became
use Rattle.stm_desk.specs.declared.answers.Told.{Told}
use Rattle.stm_desk.specs.declared.desk.Desk.{Desk}
use Rattle.stm_desk.specs.declared.waiters.Waiters.{Waiters}
use Rattle.stm_desk.specs.declared.waiters.Waiting.{Waiting}
use Rattle.stm_desk.specs.declared.work.Work.{Work}
use Rattle.stm_desk.specs.Answering.{IsAsked, history_of}
use Rattle.stm_desk.specs.Asking.{next_ticket}
use Rattle.stm_desk.specs.Ending.{LooksAgain}
use Rattle.stm_desk.specs.History.{History, IsOnce}
use Rattle.stm_desk.specs.Keeping.{Accounts, IsToldOf}
use Rattle.stm_desk.specs.Open.{HasOpenCall}
use Rattle.stm_desk.specs.Serving.{HasLeft}
use Rattle.stm_desk.specs.Waiting.{HandsOn, IsSeated, IsToldIn, OthersStay, waiting_at}
use Rattle.stm_service.specs.Telling.{IsAwaited, IsTold}
use Rattle.stm_service.proofs.Lists.{get_on, get_right}

-- it waits, or is to be told of
abbrev pub IsThere : Waiters → ℕ → Waiting → Type 0
IsThere w t seat = (waiting_at w t ≡ Some seat) ⊎ IsToldIn w.told.items t seat

-- so do all that were there before
abbrev pub Carries : Waiters → Waiters → Type 0
Carries w v = (t : ℕ) (seat : Waiting) → IsThere w t seat → IsThere v t seat

pub awaited_on : (w v : Waiters) (t : ℕ) (call : Call) → Carries w v → IsAwaited w t call → IsAwaited v t call
awaited_on w v t call c a = record { seat = a.seat; calls = a.calls; there = c t a.seat a.there }

told_left : (xs ys : List Told) (t : ℕ) (seat : Waiting) → IsToldIn xs t seat → IsToldIn (xs ++ ys) t seat
told_left xs ys t seat h = record { place = h.place; entry = h.entry; at_place = get_on xs ys h.place h.entry h.at_place; of = h.of; whose = h.whose; call = h.call }

told_right : (xs ys : List Told) (t : ℕ) (seat : Waiting) → IsToldIn ys t seat → IsToldIn (xs ++ ys) t seat
told_right xs ys t seat h = record { place = length xs + h.place; entry = h.entry; at_place = get_right xs ys h.place h.entry h.at_place; of = h.of; whose = h.whose; call = h.call }

pub carries_hands_on : (w v : Waiters) → HandsOn w v → Carries w v
carries_hands_on w v h t seat (inl at) = elim (h.each t seat at) [
  | inl still ↦ inl still
  | inr e ↦ inr (subst (λ (xs : List Told). IsToldIn xs t seat) (sym h.told) (told_right w.told.items h.more t seat e))
]
carries_hands_on w v h t seat (inr e) = inr (subst (λ (xs : List Told). IsToldIn xs t seat) (sym h.told) (told_left w.told.items h.more t seat e))

pub carries_same : (w v : Waiters) → ((t : ℕ) → waiting_at v t ≡ waiting_at w t) → v.told.items ≡ w.told.items → Carries w v
carries_same w v same told t seat (inl at) = inl (same t ∙ at)
carries_same w v same told t seat (inr e) = inr (subst (λ (xs : List Told). IsToldIn xs t seat) (sym told) e)

pub carries_equal : (w v : Waiters) → v ≡ w → Carries w v
carries_equal w v same = carries_same w v (λ t. ap (λ (x : Waiters). waiting_at x t) same) (ap (λ (x : Waiters). x.told.items) same)

not_there : (o : Option Waiting) (seat : Waiting) → o ≡ None → o ≡ Some seat → ⊥
not_there o seat none some = absurd (cc (none, some))

pub carries_others : (w v : Waiters) (one : Ticket) → OthersStay w v one → v.told.items ≡ w.told.items → waiting_at w one.0 ≡ None → Carries w v
carries_others w v one others told nobody t seat (inl at) = elim (cases_eq t one.0) [
  | inl same ↦ absurd (not_there (waiting_at w t) seat (ap (waiting_at w) same ∙ nobody) at)
  | inr apart ↦ inl (others t apart ∙ at)
]
carries_others w v one others told nobody t seat (inr e) = inr (subst (λ (xs : List Told). IsToldIn xs t seat) (sym told) e)

-- whoever waits with another ticket than the one that is left
pub awaited_but : (w v : Waiters) (one : Ticket) (t : ℕ) (call : Call) → t ≢ one.0 → OthersStay w v one → v.told.items ≡ w.told.items → IsAwaited w t call → IsAwaited v t call
awaited_but w v one t call apart others told a = record {
  seat = a.seat;
  calls = a.calls;
  there = elim a.there [
    | inl at ↦ inl (others t apart ∙ at)
    | inr e ↦ inr (subst (λ (xs : List Told). IsToldIn xs t a.seat) (sym told) e)
  ];
}

abbrev pub ticket : ℕ → Ticket
ticket n = record { 0 = n }

ticket_given : (t : TicketsView) (k n : ℕ) → AreTickets t → slice_get t.held k ≡ Some n → n < t.given
ticket_given t k n h at =
    subst (λ (m : ℕ). m < t.given) (get_or_from_slice_get t.held k n 0 at) (h.below k 0 (slice_get_within t.held k n at))

-- nobody waits with the next ticket
pub nobody_next : (d : Desk) → AreTickets d.work.store.tickets → waiting_at d.work.waiters d.work.store.tickets.given ≡ None
nobody_next d tickets = by (waiting_at d.work.waiters d.work.store.tickets.given) refl
  where
    by : (o : Option Waiting) → waiting_at d.work.waiters d.work.store.tickets.given ≡ o → o ≡ None
    by None is = refl
    by (Some seat) is =
        absurd (∥∥₁_elim (d.work.seated d.work.store.tickets.given seat is) (λ p q. absurd p) (λ (o : HasOpenCall d.work.store (ticket d.work.store.tickets.given) seat.call.value).
        omega (arith, ticket_given d.work.store.tickets o.has.task.0 d.work.store.tickets.given tickets o.has.own)))

pub carries_seated : (d : Desk) (v : Waiters) (t : Ticket) (call : Call) → AreTickets d.work.store.tickets → t ≡ next_ticket d.work.store → IsSeated d.work.waiters t 0 call v → Carries d.work.waiters v
carries_seated d v t call tickets is s =
    carries_others d.work.waiters v t s.others s.told (ap (λ (x : Ticket). waiting_at d.work.waiters x.0) is ∙ nobody_next d tickets)

-- a call for which there was no room, whether what runs had its turn first or not
pub carries_turned : (old new : Work) → LooksAgain old new → Carries old.waiters new.waiters
carries_turned old new (inl at_once) = carries_equal old.waiters new.waiters at_once.1.waiters
carries_turned old new (inr later) = carries_hands_on old.waiters new.waiters later.1.hands_on

-- a call on the desk
pub carries_asked : (old new : Desk) (call : Call) (way : Way) (r : Result Asked Refused) → AreTickets old.work.store.tickets → IsAsked old call way 0 r new → Carries old.work.waiters new.work.waiters
carries_asked old new call way (Ok (asked.Ended a)) tickets h = carries_hands_on old.work.waiters new.work.waiters h.1.hands_on
carries_asked old new call way (Ok (asked.Waits t)) tickets h = carries_seated old new.work.waiters t call tickets h.2.ticket_is h.2.seated
carries_asked old new call way (Ok asked.ChapterFull) tickets h = carries_turned old.work new.work h.2.0
carries_asked old new call way (Ok (asked.Runs job)) tickets h = carries_seated old new.work.waiters job.ticket call tickets h.3.ticket h.3.seated
carries_asked old new call way (Err refused.Memory) tickets h = carries_same old.work.waiters new.work.waiters h.1.waiters.calls h.1.waiters.told
carries_asked old new call way (Err refused.Unknown) tickets h = carries_equal old.work.waiters new.work.waiters h.1.waiters
carries_asked old new call way (Err refused.Gone) tickets h = carries_equal old.work.waiters new.work.waiters h.1.waiters
carries_asked old new call way (Err refused.NotReady) tickets h = carries_equal old.work.waiters new.work.waiters h.1.waiters
carries_asked old new call way (Err refused.NotRunning) tickets h = carries_equal old.work.waiters new.work.waiters h.1.waiters
carries_asked old new call way (Err refused.NotEnded) tickets h = carries_equal old.work.waiters new.work.waiters h.1.waiters
carries_asked old new call way (Err refused.OtherProgram) tickets h = carries_equal old.work.waiters new.work.waiters h.1.waiters
carries_asked old new call way (Err refused.Stale) tickets h = carries_equal old.work.waiters new.work.waiters h.1.waiters
carries_asked old new call way (Err refused.NoRoom) tickets h = carries_turned old.work new.work h.2.0
carries_asked old new call way (Err refused.Retries) tickets h = carries_equal old.work.waiters new.work.waiters h.1.waiters
carries_asked old new call way (Err refused.Closed) tickets h = carries_equal old.work.waiters new.work.waiters h.1.waiters
carries_asked old new call way (Err refused.TimedOut) tickets h = carries_equal old.work.waiters new.work.waiters h.1.waiters

-- Of what is told next: it is of the call that was made with its ticket.

-- this became of a task, and is of this call, if of any
abbrev IsOf : Call → Became → Type 0
IsOf call (became.Entered other o) = other ≡ call
IsOf call became.Left = Unit {0}

record Stands (h : History) (t : Ticket) (call : Call) : Type 0 where
  place : ℕ
  what : Became
  at_place : slice_get h place ≡ Some (t, what)
  of : IsOf call what

stands : (l : Listing) (closed : Bool) (h : History) (t : Ticket) (call : Call) (r : Result Answer Refused) → IsToldOf l closed h t call r → Stands h t call
stands l closed h t call (Ok a) k = record { place = a.place; what = became.Entered call a.outcome; at_place = k.at_place; of = refl }
stands l closed h t call (Err refused.Memory) k = record { place = k.0.place; what = became.Left; at_place = k.0.at_place; of = tt }
stands l closed h t call (Err refused.Closed) k = record { place = k.0.place; what = became.Left; at_place = k.0.at_place; of = tt }
stands l closed h t call (Err refused.Unknown) k = absurd k
stands l closed h t call (Err refused.Gone) k = absurd k
stands l closed h t call (Err refused.NotReady) k = absurd k
stands l closed h t call (Err refused.NotRunning) k = absurd k
stands l closed h t call (Err refused.NotEnded) k = absurd k
stands l closed h t call (Err refused.OtherProgram) k = absurd k
stands l closed h t call (Err refused.Stale) k = absurd k
stands l closed h t call (Err refused.NoRoom) k = absurd k
stands l closed h t call (Err refused.Retries) k = absurd k
stands l closed h t call (Err refused.TimedOut) k = absurd k

-- of two that stand there with one ticket, the one that was entered is of the other's call
same_of : (h : History) (t u : Ticket) (call other : Call) → IsOnce h → t.0 ≡ u.0 → (a : Answer) → slice_get h a.place ≡ Some (t, became.Entered call a.outcome) → Stands h u other → call ≡ other
same_of h t u call other once same a at s =
    let e : Ticket × Became = (t, became.Entered call a.outcome) in
    let f : Ticket × Became = (u, s.what) in
    let places : a.place ≡ s.place = once a.place s.place e f at s.at_place same in
    let there : slice_get h a.place ≡ Some f = ap (slice_get h) places ∙ s.at_place in
    let pair : e ≡ f = same_Some e f (sym at ∙ there) in
    let is : became.Entered call a.outcome ≡ s.what = ap (λ (x : Ticket × Became). x.1) pair in
    subst (IsOf other) (sym is) s.of

told_as : (l : Listing) (closed : Bool) (h : History) (t : Ticket) (call own : Call) (r : Result Answer Refused) → IsToldOf l closed h t call r → ((a : Answer) → slice_get h a.place ≡ Some (t, became.Entered call a.outcome) → call ≡ own) → IsTold h t own r
told_as l closed h t call own (Ok a) k of = record { ticket_is = k.ticket_is; at_place = subst (λ (c : Call). slice_get h a.place ≡ Some (t, became.Entered c a.outcome)) (of a k.at_place) k.at_place }
told_as l closed h t call own (Err refused.Memory) k of = k.0
told_as l closed h t call own (Err refused.Closed) k of = k.0
told_as l closed h t call own (Err refused.Unknown) k of = absurd k
told_as l closed h t call own (Err refused.Gone) k of = absurd k
told_as l closed h t call own (Err refused.NotReady) k of = absurd k
told_as l closed h t call own (Err refused.NotRunning) k of = absurd k
told_as l closed h t call own (Err refused.NotEnded) k of = absurd k
told_as l closed h t call own (Err refused.OtherProgram) k of = absurd k
told_as l closed h t call own (Err refused.Stale) k of = absurd k
told_as l closed h t call own (Err refused.NoRoom) k of = absurd k
told_as l closed h t call own (Err refused.Retries) k of = absurd k
told_as l closed h t call own (Err refused.TimedOut) k of = absurd k

abbrev AreTold : Desk → List Told → Type 0
AreTold d list = All (λ (t : Told). IsToldOf d.work.first.value.catalogue.now d.work.closed (history_of d) t.ticket t.call.value t.answer) list

each_told : (d : Desk) (list : List Told) (k : ℕ) (t : Told) → AreTold d list → slice_get list k ≡ Some t → IsToldOf d.work.first.value.catalogue.now d.work.closed (history_of d) t.ticket t.call.value t.answer
each_told d list k t all at =
    subst (λ (x : Told). IsToldOf d.work.first.value.catalogue.now d.work.closed (history_of d) x.ticket x.call.value x.answer) (get_or_from_slice_get list k t t at) (all k t (slice_get_within list k t at))

next_of : (d : Desk) (t : Told) (call : Call) → AreTold d d.work.waiters.told.items → Accounts d.work.first.value d.work.store (history_of d) → slice_get d.work.waiters.told.items 0 ≡ Some t → IsAwaited d.work.waiters t.ticket.0 call → IsTold (history_of d) t.ticket call t.answer
next_of d t call all acc first a =
    let l = d.work.first.value.catalogue.now in
    let h = history_of d in
    let mine = each_told d d.work.waiters.told.items 0 t all first in
    let s = stands l d.work.closed h t.ticket t.call.value t.answer mine in
    told_as l d.work.closed h t.ticket t.call.value call t.answer mine (λ b at. elim a.there [
      | inl waits ↦
          absurd (∥∥₁_elim (d.work.seated t.ticket.0 a.seat waits) (λ p q. absurd p) (λ (o : HasOpenCall d.work.store (ticket t.ticket.0) a.seat.call.value).
          (acc.over s.place (t.ticket, s.what) s.at_place).ended o.has))
      | inr e ↦
          let other = each_told d d.work.waiters.told.items e.place e.entry all e.at_place in
          let there = stands l d.work.closed h e.entry.ticket e.entry.call.value e.entry.answer other in
          let same = same_of h t.ticket e.entry.ticket t.call.value e.entry.call.value acc.legal.once (sym e.of) b at there in
          same ∙ (ap (λ c. c.value) e.call ∙ a.calls)
    ])

pub next_told : (d : Desk) (t : Told) (call : Call) → slice_get d.work.waiters.told.items 0 ≡ Some t → ∥ IsAwaited d.work.waiters t.ticket.0 call ∥₁ → ∥ IsTold (history_of d) t.ticket call t.answer ∥₁
next_told d t call first a =
    ∥∥₁_map₂ (∥∥₁_map₂ d.work.told d.work.accounts (λ (all : AreTold d d.work.waiters.told.items) (acc : Accounts d.work.first.value d.work.store (history_of d)). (all, acc))) a
    (λ (p : AreTold d d.work.waiters.told.items × Accounts d.work.first.value d.work.store (history_of d)) (x : IsAwaited d.work.waiters t.ticket.0 call).
    next_of d t call p.0 p.1 first x)

-- and whoever else is told of is told of behind it
rest_of : (t : Told) (rest : List Told) (other : ℕ) (seat : Waiting) → other ≢ t.ticket.0 → (place : ℕ) (e : Told) → slice_get (t ∷ rest) place ≡ Some e → e.ticket.0 ≡ other → e.whose ≡ seat.whose → e.call ≡ seat.call → IsToldIn rest other seat
rest_of t rest other seat apart zero e at of whose call =
    let same : t ≡ e = cc (at) in
    absurd (apart (sym (ap (λ (x : Told). x.ticket.0) same ∙ of)))
rest_of t rest other seat apart (suc place) e at of whose call = record { place = place; entry = e; at_place = at; of = of; whose = whose; call = call }

pub awaited_rest : (w v : Waiters) (t : Told) (other : ℕ) (call : Call) → other ≢ t.ticket.0 → w.told.items ≡ t ∷ v.told.items → ((n : ℕ) → waiting_at v n ≡ waiting_at w n) → IsAwaited w other call → IsAwaited v other call
awaited_rest w v t other call apart told calls a = record {
  seat = a.seat;
  calls = a.calls;
  there = elim a.there [
    | inl at ↦ inl (calls other ∙ at)
    | inr e ↦ inr (rest_of t v.told.items other a.seat apart e.place e.entry (subst (λ (xs : List Told). slice_get xs e.place ≡ Some e.entry) told e.at_place) e.of e.whose e.call)
  ];
}

pub nothing_there : {A : Type 0} (o : Option A) (x : A) → o ≡ None → o ≡ Some x → ⊥
nothing_there o x none some = absurd (cc (none, some))

-- where nobody could leave nothing changed
pub left_same : (old new : Work) (t : Ticket) (why : Refused) → HasLeft old t (Err why) new → new ≡ old
left_same old new t refused.Gone h = h.1
left_same old new t refused.Unknown h = absurd h
left_same old new t refused.NotReady h = absurd h
left_same old new t refused.NotRunning h = absurd h
left_same old new t refused.NotEnded h = absurd h
left_same old new t refused.OtherProgram h = absurd h
left_same old new t refused.Stale h = absurd h
left_same old new t refused.NoRoom h = absurd h
left_same old new t refused.Retries h = absurd h
left_same old new t refused.Memory h = absurd h
left_same old new t refused.Closed h = absurd h
left_same old new t refused.TimedOut h = absurd h

-- however it was answered
pub left_same_not : (old new : Work) (t : Ticket) (r : Result (Unit {0}) Refused) → ((x : Unit {0}) → r ≡ Ok x → ⊥) → HasLeft old t r new → new ≡ old
left_same_not old new t (Ok x) not h = absurd (not x refl)
left_same_not old new t (Err why) not h = left_same old new t why h

-- nobody is told
pub carries_none : (o : Option Told) (w v : Waiters) → o ≡ None → w.told.items ≡ option_to_list o ++ v.told.items → ((n : ℕ) → waiting_at v n ≡ waiting_at w n) → Carries w v
carries_none None w v is told calls = carries_same w v calls (sym told)
carries_none (Some t) w v is told calls = absurd (cc (is))
