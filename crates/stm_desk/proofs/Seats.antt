-- Those who wait for the tasks of a store, whatever becomes of one.
use Rattle.std.proofs.Common.{◌≡◌, ◌∙◌, inl, inr, ℕ, ◌<◌, Bool, true, List, [], ◌∷◌, ◌++◌, Option, Some, None, Result, Ok, Err, IfSome, OnErr, OnOk, length, refl, sym, ap, subst, arith}
use Rattle.std.specs.List.{slice_get, All}
use Rattle.std.proofs.lemmas.Bool.{cases_eq}
use Rattle.std.specs.Option.{option_to_list}
use Rattle.std.proofs.lemmas.List.Elements.{All-append, All-cons, All-head, All-nil, All-tail, All-weaker}
use Rattle.std.proofs.lemmas.Option.{same_Some}
use Rattle.std.proofs.Math.Logic.{∥∥₁_elim, ∥∥₁_map, ∥∥₁_map₂}
use Rattle.txn_programs.specs.declared.arguments.Call.{Call}
use Rattle.txn_programs.specs.declared.memory.Memory.{Memory}
use Rattle.txn_programs.specs.Listing.{Listing}
use Rattle.attempt.specs.Room.{TakesMemory}
use Rattle.stm_desk.proofs.Flags.{get_append_left}
use Rattle.stm_store.specs.Tickets.{AreTickets}
use Rattle.stm_store.specs.declared.answers.Refused.{Refused}
use Rattle.stm_store.specs.declared.answers.Refused.TheVariants as refused
use Rattle.stm_store.specs.declared.job.Job.{Job}
use Rattle.stm_store.specs.Asking.{IsJob}
use Rattle.stm_store.specs.declared.job.Ticket.{Ticket}
use Rattle.stm_store.specs.declared.store.Store.{Store}
use Rattle.stm_desk.specs.declared.answers.Answer.{Answer}
use Rattle.stm_desk.specs.declared.answers.Became.{Became}
use Rattle.stm_desk.specs.declared.answers.Became.TheVariants as became
use Rattle.stm_desk.specs.declared.answers.Told.{Told}
use Rattle.stm_desk.specs.declared.waiters.Waiters.{Waiters}
use Rattle.stm_desk.specs.declared.waiters.Waiting.{Waiting}
use Rattle.stm_desk.specs.History.{History}
use Rattle.stm_desk.specs.Keeping.{IsLeft, IsToldOf}
use Rattle.stm_desk.specs.Open.{HasOpen, HasOpenCall}
use Rattle.stm_desk.specs.Steps.{StaysBut}
use Rattle.stm_desk.specs.Waiting.{IsSeated, IsToldTo, OthersStay, WaitAsBefore, waiting_at}
use Rattle.stm_desk.specs.Asking.{call_of}
use Rattle.stm_desk.proofs.Becoming.{IsAlike, alike_open, same_call, ticket_given}
use Rattle.stm_desk.proofs.Calling.{get_end}
use Rattle.stm_desk.proofs.Legal.{ticket}

-- each who waits does so for an open task that makes the call
abbrev pub AreSeated : Store → Waiters → Type 0
AreSeated s w = (t : ℕ) (seat : Waiting) → waiting_at w t ≡ Some seat → ∥ HasOpenCall s (ticket t) seat.call.value ∥₁

not_there : (o : Option Waiting) (seat : Waiting) → o ≡ None → o ≡ Some seat → ⊥
not_there o seat none some = absurd (cc (none, some))

-- but who waited for the one
pub seated_but : (old new : Store) (w v : Waiters) (one : Ticket) → StaysBut old new one → waiting_at v one.0 ≡ None → OthersStay w v one → AreSeated old w → AreSeated new v
seated_but old new w v one stays gone others all t seat at = elim (cases_eq t one.0) [
  | inl same ↦ absurd (not_there (waiting_at v t) seat (ap (waiting_at v) same ∙ gone) at)
  | inr apart ↦ ∥∥₁_map (all t seat (sym (others t apart) ∙ at)) (stays.all_open (ticket t) seat.call.value apart)
]

-- nobody waited for a task that is new
fresh : (s : Store) (t : Ticket) (call : Call) → AreTickets s.tickets → HasOpenCall s t call → t.0 < s.tickets.given
fresh s t call h o = ticket_given s.tickets o.has.task.0 t.0 h o.has.own

pub seated_still : (old new : Store) (w : Waiters) (one : Ticket) → AreTickets old.tickets → one.0 ≡ old.tickets.given → StaysBut old new one → AreSeated old w → AreSeated new w
seated_still old new w one tickets new_one stays all t seat at =
    ∥∥₁_map (all t seat at) (λ (o : HasOpenCall old (ticket t) seat.call.value).
    stays.all_open (ticket t) seat.call.value (λ same. absurd (omega (arith, fresh old (ticket t) seat.call.value tickets o, new_one, same))) o)

-- somebody more
pub seated_more : (s : Store) (w v : Waiters) (one : Ticket) (whose : ℕ) (call : Call) → ∥ HasOpenCall s one call ∥₁ → IsSeated w one whose call v → AreSeated s w → AreSeated s v
seated_more s w v one whose call has is all t seat at = elim (cases_eq t one.0) [
  | inl same ↦
      let here : is.seat ≡ seat = same_seat (waiting_at v t) is.seat seat (ap (waiting_at v) same ∙ is.here) at in
      let mine : ∥ HasOpenCall s one seat.call.value ∥₁ = subst (λ (k : Waiting). ∥ HasOpenCall s one k.call.value ∥₁) here (subst (λ (c : Call). ∥ HasOpenCall s one c ∥₁) (sym is.calls) has) in
      subst (λ (n : ℕ). ∥ HasOpenCall s (ticket n) seat.call.value ∥₁) (sym same) mine
  | inr apart ↦ all t seat (sym (is.others t apart) ∙ at)
]
  where
    same_seat : (o : Option Waiting) (a b : Waiting) → o ≡ Some a → o ≡ Some b → a ≡ b
    same_seat o a b p q = cc (p, q)

-- the same who wait
pub seated_same : (s : Store) (w v : Waiters) → ((t : ℕ) → waiting_at v t ≡ waiting_at w t) → AreSeated s w → AreSeated s v
seated_same s w v same all t seat at = all t seat (sym (same t) ∙ at)

-- what was told is so of a longer history
left_on : (h : History) (e : Ticket × Became) (t : Ticket) → IsLeft h t → IsLeft (h ++ e ∷ []) t
left_on h e t k = record { place = k.place; at_place = get_append_left h (e ∷ []) k.place _ k.at_place }

told_on : (l : Listing) (closed : Bool) (h : History) (e : Ticket × Became) (t : Ticket) (call : Call) (a : Result Answer Refused) → IsToldOf l closed h t call a → IsToldOf l closed (h ++ e ∷ []) t call a
told_on l closed h e t call (Ok a) k = record { ticket_is = k.ticket_is; at_place = get_append_left h (e ∷ []) a.place _ k.at_place }
told_on l closed h e t call (Err refused.Memory) k = (left_on h e t k.0, k.1)
told_on l closed h e t call (Err refused.Closed) k = (left_on h e t k.0, k.1)
told_on l closed h e t call (Err refused.Unknown) k = absurd k
told_on l closed h e t call (Err refused.Gone) k = absurd k
told_on l closed h e t call (Err refused.NotReady) k = absurd k
told_on l closed h e t call (Err refused.NotRunning) k = absurd k
told_on l closed h e t call (Err refused.NotEnded) k = absurd k
told_on l closed h e t call (Err refused.OtherProgram) k = absurd k
told_on l closed h e t call (Err refused.Stale) k = absurd k
told_on l closed h e t call (Err refused.NoRoom) k = absurd k
told_on l closed h e t call (Err refused.Retries) k = absurd k
told_on l closed h e t call (Err refused.TimedOut) k = absurd k

-- and of a desk that was closed since
told_closed : (l : Listing) (closed : Bool) (h : History) (t : Ticket) (call : Call) (a : Result Answer Refused) → IsToldOf l closed h t call a → IsToldOf l true h t call a
told_closed l closed h t call (Ok a) k = k
told_closed l closed h t call (Err refused.Memory) k = k
told_closed l closed h t call (Err refused.Closed) k = (k.0, refl)
told_closed l closed h t call (Err refused.Unknown) k = absurd k
told_closed l closed h t call (Err refused.Gone) k = absurd k
told_closed l closed h t call (Err refused.NotReady) k = absurd k
told_closed l closed h t call (Err refused.NotRunning) k = absurd k
told_closed l closed h t call (Err refused.NotEnded) k = absurd k
told_closed l closed h t call (Err refused.OtherProgram) k = absurd k
told_closed l closed h t call (Err refused.Stale) k = absurd k
told_closed l closed h t call (Err refused.NoRoom) k = absurd k
told_closed l closed h t call (Err refused.Retries) k = absurd k
told_closed l closed h t call (Err refused.TimedOut) k = absurd k

abbrev pub AreTold : Listing → Bool → History → List Told → Type 0
AreTold l closed h all = All (λ t. IsToldOf l closed h t.ticket t.call.value t.answer) all

pub all_told_on : (l : Listing) (closed : Bool) (h : History) (e : Ticket × Became) (all : List Told) → AreTold l closed h all → AreTold l closed (h ++ e ∷ []) all
all_told_on l closed h e all k =
    All-weaker (λ (t : Told). IsToldOf l closed h t.ticket t.call.value t.answer) (λ (t : Told). IsToldOf l closed (h ++ e ∷ []) t.ticket t.call.value t.answer)
    (λ (t : Told). told_on l closed h e t.ticket t.call.value t.answer) all k

pub all_told_closed : (l : Listing) (closed : Bool) (h : History) (all : List Told) → AreTold l closed h all → AreTold l true h all
all_told_closed l closed h all k =
    All-weaker (λ (t : Told). IsToldOf l closed h t.ticket t.call.value t.answer) (λ (t : Told). IsToldOf l true h t.ticket t.call.value t.answer)
    (λ (t : Told). told_closed l closed h t.ticket t.call.value t.answer) all k

-- and one more is told, if anybody waited
pub all_told_more : (l : Listing) (closed : Bool) (h : History) (o : Option Waiting) (old new : List Told) (t : Ticket) (a : Result Answer Refused) → IsToldTo o old t a new → ((seat : Waiting) → o ≡ Some seat → IsToldOf l closed h t seat.call.value a) → AreTold l closed h old → AreTold l closed h new
all_told_more l closed h None old new t a is one k = subst (AreTold l closed h) (sym is) k
all_told_more l closed h (Some seat) old new t a is one k =
    let told : Told = record { whose = seat.whose; ticket = t; answer = a; call = seat.call } in
    let P : Told → Type 0 = λ (x : Told). IsToldOf l closed h x.ticket x.call.value x.answer in
    subst (AreTold l closed h) (sym is) (All-append P old (told ∷ []) k (All-cons P told [] (one seat refl) (All-nil P)))

-- who sat down, or did not
pub seat_keeps : (r : Result (Unit {0}) Memory) (s : Store) (w v : Waiters) (one : Ticket) (whose : ℕ) (call : Call) → ∥ HasOpenCall s one call ∥₁ → OnOk r (IsSeated w one whose call v) → OnErr r ((t : ℕ) → waiting_at v t ≡ waiting_at w t) → AreSeated s w → AreSeated s v
seat_keeps (Ok done) s w v one whose call has is same all = seated_more s w v one whose call has is all
seat_keeps (Err why) s w v one whose call has is same all = seated_same s w v same all

-- nobody waits for a task that is new
pub nobody_new : (s : Store) (w : Waiters) (one : Ticket) → AreTickets s.tickets → one.0 ≡ s.tickets.given → AreSeated s w → waiting_at w one.0 ≡ None
nobody_new s w one tickets is_new all = by (waiting_at w one.0) refl
  where
    by : (o : Option Waiting) → waiting_at w one.0 ≡ o → o ≡ None
    by None is = refl
    by (Some seat) is = absurd (∥∥₁_elim (all one.0 seat is) (λ p q. absurd p) (λ (o : HasOpenCall s one seat.call.value). omega (arith, fresh s one seat.call.value tickets o, is_new)))

pub waits_as_before : (w : Waiters) → WaitAsBefore w w
waits_as_before w = record { calls = λ t. refl; told = refl }

-- somebody who waits does so for a task that is open
pub waits_open : (s : Store) (w : Waiters) (one : Ticket) → AreSeated s w → (waiting_at w one.0 ≡ None → ⊥) → ∥ HasOpen s one ∥₁
waits_open s w one all some = by (waiting_at w one.0) refl
  where
    by : (o : Option Waiting) → waiting_at w one.0 ≡ o → ∥ HasOpen s one ∥₁
    by None is = absurd (some is)
    by (Some seat) is = ∥∥₁_map (all one.0 seat is) (λ (o : HasOpenCall s one seat.call.value). o.has)

-- what is told next, and the rest
pub told_rest : (l : Listing) (closed : Bool) (h : History) (o : Option Told) (old new : List Told) → old ≡ option_to_list o ++ new → AreTold l closed h old → AreTold l closed h new
told_rest l closed h None old new is k = subst (AreTold l closed h) is k
told_rest l closed h (Some t) old new is k = All-tail (λ (x : Told). IsToldOf l closed h x.ticket x.call.value x.answer) t new (subst (AreTold l closed h) is k)

pub told_next : (l : Listing) (closed : Bool) (h : History) (o : Option Told) (old new : List Told) → old ≡ option_to_list o ++ new → ∥ AreTold l closed h old ∥₁ → IfSome o (λ t. ∥ IsToldOf l closed h t.ticket t.call.value t.answer ∥₁)
told_next l closed h None old new is k = tt
told_next l closed h (Some t) old new is k =
    ∥∥₁_map k (λ (a : AreTold l closed h old). All-head (λ (x : Told). IsToldOf l closed h x.ticket x.call.value x.answer) t new (subst (AreTold l closed h) is a))

-- the last of a history was left
pub left_last : (h longer : History) (t : Ticket) → longer ≡ h ++ (t, became.Left) ∷ [] → IsLeft longer t
left_last h longer t is =
    record {
      place = length h;
      at_place = ap (λ (x : History). slice_get x (length h)) is ∙ get_end h (t, became.Left) (length h) refl;
    }

-- where the same tasks are open
pub seated_alike : (old new : Store) (w : Waiters) → IsAlike old new → AreSeated old w → AreSeated new w
seated_alike old new w a all t seat at = ∥∥₁_map (all t seat at) (alike_open old new (ticket t) seat.call.value a)

-- nobody waits
pub seated_none : (s : Store) (w : Waiters) → ((t : ℕ) → waiting_at w t ≡ None) → AreSeated s w
seated_none s w none t seat at = absurd (not_there (waiting_at w t) seat (none t) at)

-- whoever waited for the task of a job is told of its entry
pub told_entered : (l : Listing) (closed : Bool) (s : Store) (w : Waiters) (job : Job) (h longer : History) (call : Call) (a : Answer) (new : List Told) → AreTickets s.tickets → IsJob s job → AreSeated s w → call ≡ call_of job → a.place ≡ length h → a.ticket ≡ job.ticket
    → longer ≡ h ++ (job.ticket, became.Entered call a.outcome) ∷ [] → IsToldTo (waiting_at w job.ticket.0) w.told.items job.ticket (Ok a) new → ∥ AreTold l closed h w.told.items ∥₁ → ∥ AreTold l closed longer new ∥₁
told_entered l closed s w job h longer call a new tickets is all of at own grown told k = by (waiting_at w job.ticket.0) refl told
  where
    on : AreTold l closed h w.told.items → AreTold l closed longer w.told.items
    on x = subst (λ (y : History). AreTold l closed y w.told.items) (sym grown) (all_told_on l closed h (job.ticket, became.Entered call a.outcome) w.told.items x)

    there : slice_get longer a.place ≡ Some (job.ticket, became.Entered call a.outcome)
    there = ap (λ (y : History). slice_get y a.place) grown ∙ get_end h (job.ticket, became.Entered call a.outcome) a.place at

    by : (o : Option Waiting) → waiting_at w job.ticket.0 ≡ o → IsToldTo o w.told.items job.ticket (Ok a) new → ∥ AreTold l closed longer new ∥₁
    by None same t = ∥∥₁_map k (λ (x : AreTold l closed h w.told.items). all_told_more l closed longer None w.told.items new job.ticket (Ok a) t (λ seat e. absurd (cc (e))) (on x))
    by (Some seat) same t = ∥∥₁_map₂ k (all job.ticket.0 seat same) (λ (x : AreTold l closed h w.told.items) (o : HasOpenCall s job.ticket seat.call.value).
        all_told_more l closed longer (Some seat) w.told.items new job.ticket (Ok a) t (λ other e.
        let mine : other.call.value ≡ seat.call.value = ap (λ (y : Waiting). y.call.value) (same_Some other seat (sym e)) in
        let made : other.call.value ≡ call = mine ∙ (same_call s job seat.call.value tickets is o ∙ sym of) in
        record { ticket_is = own; at_place = there ∙ ap (λ (c : Call). Some (job.ticket, became.Entered c a.outcome)) (sym made) }) (on x))

-- or that there was no memory for it
pub told_memory : (l : Listing) (closed : Bool) (s : Store) (w : Waiters) (job : Job) (h longer : History) (new : List Told) → AreTickets s.tickets → IsJob s job → AreSeated s w → TakesMemory l job.tx
    → longer ≡ h ++ (job.ticket, became.Left) ∷ [] → IsToldTo (waiting_at w job.ticket.0) w.told.items job.ticket (Err refused.Memory) new → ∥ AreTold l closed h w.told.items ∥₁ → ∥ AreTold l closed longer new ∥₁
told_memory l closed s w job h longer new tickets is all takes grown told k = by (waiting_at w job.ticket.0) refl told
  where
    on : AreTold l closed h w.told.items → AreTold l closed longer w.told.items
    on x = subst (λ (y : History). AreTold l closed y w.told.items) (sym grown) (all_told_on l closed h (job.ticket, became.Left) w.told.items x)

    by : (o : Option Waiting) → waiting_at w job.ticket.0 ≡ o → IsToldTo o w.told.items job.ticket (Err refused.Memory) new → ∥ AreTold l closed longer new ∥₁
    by None same t = ∥∥₁_map k (λ (x : AreTold l closed h w.told.items). all_told_more l closed longer None w.told.items new job.ticket (Err refused.Memory) t (λ seat e. absurd (cc (e))) (on x))
    by (Some seat) same t = ∥∥₁_map₂ k (all job.ticket.0 seat same) (λ (x : AreTold l closed h w.told.items) (o : HasOpenCall s job.ticket seat.call.value).
        all_told_more l closed longer (Some seat) w.told.items new job.ticket (Err refused.Memory) t (λ other e.
        let mine : other.call.value ≡ call_of job = ap (λ (y : Waiting). y.call.value) (same_Some other seat (sym e)) ∙ same_call s job seat.call.value tickets is o in
        (left_last h longer job.ticket grown, subst (λ (c : Call). TakesMemory l c.tx) (sym mine) takes)) (on x))

-- or that the desk is closed
pub told_shut : (l : Listing) (closed : Bool) (w : Waiters) (t : Ticket) (h longer : History) (new : List Told) → closed ≡ true → longer ≡ h ++ (t, became.Left) ∷ [] → IsToldTo (waiting_at w t.0) w.told.items t (Err refused.Closed) new → ∥ AreTold l closed h w.told.items ∥₁ → ∥ AreTold l closed longer new ∥₁
told_shut l closed w t h longer new is grown told k =
    ∥∥₁_map k (λ (x : AreTold l closed h w.told.items).
    all_told_more l closed longer (waiting_at w t.0) w.told.items new t (Err refused.Closed) told (λ seat e. (left_last h longer t grown, is))
    (subst (λ (y : History). AreTold l closed y w.told.items) (sym grown) (all_told_on l closed h (t, became.Left) w.told.items x)))
