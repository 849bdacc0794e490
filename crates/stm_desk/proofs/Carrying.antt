-- Where a chapter begins each open task comes over with its ticket and its call, and none is open that was not.
use Rattle.std.proofs.Common.{◌≡◌, ◌∙◌, ◌⊎◌, inl, inr, ℕ, zero, suc, ◌<◌, ℤ, Bool, true, false, cond, List, [], ◌∷◌, Some, map, refl, sym, ap, subst}
use Rattle.std.specs.List.{slice_get}
use Rattle.std.proofs.lemmas.Option.{get_or_from_slice_get, same_Some}
use Rattle.std.proofs.Math.Logic.{∥∥₁_map}
use Rattle.txn_programs.specs.declared.arguments.Call.{Call}
use Rattle.txn_programs.specs.Listing.{calls, tasks, task_arguments}
use Rattle.txn.proofs.Growing.{calls_grown}
use Rattle.book.specs.Tasks.{Task, Ready, Running, Parked, Done, GivenUp}
use Rattle.book.specs.View.{BookView}
use Rattle.book.specs.Turns.{readied_one}
use Rattle.book.specs.Carrying.{carried, stays, staying}
use Rattle.book.specs.Chapters.{next_catalogue}
use Rattle.stm_store.specs.Tickets.{TicketsView}
use Rattle.stm_store.specs.declared.job.Ticket.{Ticket}
use Rattle.stm_store.specs.declared.store.Store.{Store}
use Rattle.stm_desk.specs.declared.waiters.Waiters.{Waiters}
use Rattle.stm_desk.specs.Asking.{IsServed, IsStill}
use Rattle.stm_desk.specs.Ending.{BeginsNext}
use Rattle.stm_desk.specs.History.{History}
use Rattle.stm_desk.specs.Keeping.{Accounts}
use Rattle.stm_desk.specs.Open.{HasOpen, HasOpenCall, IsOver, open_tasks}
use Rattle.stm_desk.proofs.Calling.{call_there, map_get}
use Rattle.stm_desk.proofs.Legal.{accounts_stay, ticket}
use Rattle.stm_desk.proofs.Seats.{AreSeated}

-- the place in the next chapter of the task at this place, where that stays
abbrev place : List Task → ℕ → ℕ
place [] k = 0
place (t ∷ ts) zero = 0
place (t ∷ ts) (suc k) = cond (stays t) (suc (place ts k)) (place ts k)

-- what stands beside a task comes over with it
comes : {X : Type 0} (xs : List X) (ts : List Task) (k : ℕ) (x : X) → slice_get (map stays ts) k ≡ Some true → slice_get xs k ≡ Some x → slice_get (staying xs ts) (place ts k) ≡ Some x
comes xs [] k x is_open at = absurd (cc (is_open))
comes [] (t ∷ ts) k x is_open at = absurd (cc (at))
comes (y ∷ xs) (t ∷ ts) zero x is_open at =
    ap (λ (b : Bool). slice_get (cond b (y ∷ staying xs ts) (staying xs ts)) 0) (same_Some (stays t) true is_open) ∙ at
comes (y ∷ xs) (t ∷ ts) (suc k) x is_open at = by y (staying xs ts) (place ts k) x (stays t) (comes xs ts k x is_open at)
  where
    by : {X : Type 0} (y : X) (rest : List X) (j : ℕ) (x : X) (b : Bool) → slice_get rest j ≡ Some x → slice_get (cond b (y ∷ rest) rest) (cond b (suc j) j) ≡ Some x
    by y rest j x true h = h
    by y rest j x false h = h

-- and the task is open there
readied_stays : (t : Task) → stays t ≡ true → stays (readied_one t) ≡ true
readied_stays Ready e = refl
readied_stays Running e = refl
readied_stays (Parked log) e = refl
readied_stays (Done n) e = e
readied_stays GivenUp e = e

comes_open : (ts : List Task) (k : ℕ) → slice_get (map stays ts) k ≡ Some true → slice_get (map stays (carried ts)) (place ts k) ≡ Some true
comes_open [] k is_open = absurd (cc (is_open))
comes_open (t ∷ ts) zero is_open =
    let e : stays t ≡ true = same_Some (stays t) true is_open in
    ap (λ (b : Bool). slice_get (map stays (cond b (readied_one t ∷ carried ts) (carried ts))) 0) e ∙ ap Some (readied_stays t e)
comes_open (t ∷ ts) (suc k) is_open = by (readied_one t) (carried ts) (place ts k) (stays t) (comes_open ts k is_open)
  where
    by : (u : Task) (rest : List Task) (j : ℕ) (b : Bool) → slice_get (map stays rest) j ≡ Some true → slice_get (map stays (cond b (u ∷ rest) rest)) (cond b (suc j) j) ≡ Some true
    by u rest j true h = h
    by u rest j false h = h

-- what came over stood beside a task that was open
came : {X : Type 0} (xs : List X) (ts : List Task) (j : ℕ) (x : X) → slice_get (staying xs ts) j ≡ Some x → (k : ℕ) × (slice_get xs k ≡ Some x) × (slice_get (map stays ts) k ≡ Some true)
came xs [] j x at = absurd (cc (at))
came [] (t ∷ ts) j x at = absurd (cc (at))
came (y ∷ xs) (t ∷ ts) j x at = by y xs t ts j x (stays t) refl (λ i h. came xs ts i x h) at
  where
    by : {X : Type 0} (y : X) (xs : List X) (t : Task) (ts : List Task) (j : ℕ) (x : X) (b : Bool) → stays t ≡ b
        → ((i : ℕ) → slice_get (staying xs ts) i ≡ Some x → (k : ℕ) × (slice_get xs k ≡ Some x) × (slice_get (map stays ts) k ≡ Some true))
        → slice_get (cond b (y ∷ staying xs ts) (staying xs ts)) j ≡ Some x → (k : ℕ) × (slice_get (y ∷ xs) k ≡ Some x) × (slice_get (map stays (t ∷ ts)) k ≡ Some true)
    by y xs t ts zero x true e rest h = (0, h, ap Some e)
    by y xs t ts (suc j) x true e rest h = let r = rest j h in (suc r.0, r.1, r.2)
    by y xs t ts j x false e rest h = let r = rest j h in (suc r.0, r.1, r.2)

-- none runs in the next chapter
runs_not : (t : Task) → readied_one t ≡ Running → ⊥
runs_not Ready e = cc (e)
runs_not Running e = cc (e)
runs_not (Parked log) e = cc (e)
runs_not (Done n) e = cc (e)
runs_not GivenUp e = cc (e)

carried_still : (ts : List Task) (j : ℕ) → slice_get (carried ts) j ≡ Some Running → ⊥
carried_still [] j e = cc (e)
carried_still (t ∷ ts) j e = by t (carried ts) j (stays t) (carried_still ts) e
  where
    by : (t : Task) (rest : List Task) (j : ℕ) (b : Bool) → ((i : ℕ) → slice_get rest i ≡ Some Running → ⊥) → slice_get (cond b (readied_one t ∷ rest) rest) j ≡ Some Running → ⊥
    by t rest zero true none h = runs_not t (same_Some (readied_one t) Running h)
    by t rest (suc j) true none h = none j h
    by t rest j false none h = none j h

-- and one is ready only if one was, or ran
ready_before : (t : Task) → readied_one t ≡ Ready → (t ≡ Ready) ⊎ (t ≡ Running)
ready_before Ready e = inl refl
ready_before Running e = inr refl
ready_before (Parked log) e = absurd (cc (e))
ready_before (Done n) e = absurd (cc (e))
ready_before GivenUp e = absurd (cc (e))

carried_served : (ts : List Task) → ((k : ℕ) → slice_get ts k ≡ Some Ready → ⊥) → ((k : ℕ) → slice_get ts k ≡ Some Running → ⊥) → (j : ℕ) → slice_get (carried ts) j ≡ Some Ready → ⊥
carried_served [] served still j e = cc (e)
carried_served (t ∷ ts) served still j e =
    by t (carried ts) j (stays t) (λ is. served 0 (ap Some is)) (λ is. still 0 (ap Some is)) (carried_served ts (λ k h. served (suc k) h) (λ k h. still (suc k) h)) e
  where
    by : (t : Task) (rest : List Task) (j : ℕ) (b : Bool) → (t ≡ Ready → ⊥) → (t ≡ Running → ⊥) → ((i : ℕ) → slice_get rest i ≡ Some Ready → ⊥) → slice_get (cond b (readied_one t ∷ rest) rest) j ≡ Some Ready → ⊥
    by t rest zero true served still none h = elim (ready_before t (same_Some (readied_one t) Ready h)) [
      | inl is ↦ served is
      | inr is ↦ still is
    ]
    by t rest (suc j) true served still none h = none j h
    by t rest j false served still none h = none j h

pub next_still : (old new : Store) → BeginsNext old new → IsStill new
next_still old new n k runs = carried_still old.book.tasks k (subst (λ (b : BookView). slice_get b.tasks k ≡ Some Running) n.book runs)

pub next_served : (old new : Store) → BeginsNext old new → IsServed old → IsStill old → IsServed new
next_served old new n served still k ready =
    carried_served old.book.tasks served still k (subst (λ (b : BookView). slice_get b.tasks k ≡ Some Ready) n.book ready)

-- the calls of the tasks of the next chapter
calls_next : (b : BookView) → calls (next_catalogue b) ≡ staying (calls b.catalogue) b.tasks
calls_next b = calls_grown (record b.catalogue { initial = b.present.state; runs = [] }) (staying (calls b.catalogue) b.tasks)

pub next_open : (old new : Store) (one : Ticket) (call : Call) → BeginsNext old new → HasOpenCall old one call → HasOpenCall new one call
next_open old new one call n h =
    let ts = old.book.tasks in
    let k = h.has.task.0 in
    let j = place ts k in
    let l = old.book.catalogue in
    let m = next_catalogue old.book in
    let c = call_there (calls l) k call.tx h.runs in
    let over : slice_get (calls m) j ≡ Some c.0 = ap (λ (cs : List Call). slice_get cs j) (calls_next old.book) ∙ comes (calls l) ts k c.0 h.has.is_open c.1 in
    let given : Call → List ℤ = λ (x : Call). x.arguments in
    record {
      has = record {
        task = record { 0 = j };
        own = ap (λ (t : TicketsView). slice_get t.held j) n.tickets ∙ comes old.tickets.held ts k one.0 h.has.is_open h.has.own;
        is_open = ap (λ (b : BookView). slice_get (open_tasks b) j) n.book ∙ comes_open ts k h.has.is_open;
      };
      runs = ap (λ (b : BookView). slice_get (tasks b.catalogue) j) n.book
          ∙ (map_get (λ (x : Call). x.tx) (calls m) j c.0 over ∙ (sym (map_get (λ (x : Call). x.tx) (calls l) k c.0 c.1) ∙ h.runs));
      given = ap (λ (b : BookView). task_arguments b.catalogue (record { 0 = j })) n.book
          ∙ (get_or_from_slice_get (map given (calls m)) j c.0.arguments [] (map_get given (calls m) j c.0 over)
          ∙ (sym (get_or_from_slice_get (map given (calls l)) k c.0.arguments [] (map_get given (calls l) k c.0 c.1)) ∙ h.given));
    }

pub next_was_open : (old new : Store) (one : Ticket) → BeginsNext old new → HasOpen new one → HasOpen old one
next_was_open old new one n o =
    let c = came old.tickets.held old.book.tasks o.task.0 one.0 (subst (λ (t : TicketsView). slice_get t.held o.task.0 ≡ Some one.0) n.tickets o.own) in
    record { task = record { 0 = c.0 }; own = c.1; is_open = c.2 }

next_is_open : (old new : Store) (one : Ticket) → BeginsNext old new → HasOpen old one → HasOpen new one
next_is_open old new one n o =
    record {
      task = record { 0 = place old.book.tasks o.task.0 };
      own = ap (λ (t : TicketsView). slice_get t.held (place old.book.tasks o.task.0)) n.tickets ∙ comes old.tickets.held old.book.tasks o.task.0 one.0 o.is_open o.own;
      is_open = ap (λ (b : BookView). slice_get (open_tasks b) (place old.book.tasks o.task.0)) n.book ∙ comes_open old.book.tasks o.task.0 o.is_open;
    }

pub next_over : (old new : Store) (one : Ticket) → BeginsNext old new → IsOver old one → IsOver new one
next_over old new one n h =
    record {
      given = subst (λ (t : TicketsView). one.0 < t.given) (sym n.tickets) h.given;
      ended = λ o. h.ended (next_was_open old new one n o);
    }

next_was_over : (old new : Store) (one : Ticket) → BeginsNext old new → IsOver new one → IsOver old one
next_was_over old new one n h =
    record {
      given = subst (λ (t : TicketsView). one.0 < t.given) n.tickets h.given;
      ended = λ o. h.ended (next_is_open old new one n o);
    }

-- who waits waits on
pub next_seated : (old new : Store) (w : Waiters) → BeginsNext old new → AreSeated old w → AreSeated new w
next_seated old new w n all t seat at = ∥∥₁_map (all t seat at) (next_open old new (ticket t) seat.call.value n)

-- and the history accounts for the next chapter
pub next_accounts : (first old new : Store) (h : History) → BeginsNext old new → Accounts first old h → Accounts first new h
next_accounts first old new h n a =
    accounts_stay first old new h n.catalogue (ap (λ (b : BookView). b.present.state) n.book) (λ t over. next_over old new t n over) (λ t over. next_was_over old new t n over) a
