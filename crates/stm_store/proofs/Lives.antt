-- A ticket whose task has ended when a chapter does comes back in no later one.
use Rattle.std.proofs.Common.{◌≡◌, ◌⊎◌, inl, inr, ℕ, zero, suc, ◌<◌, Bool, true, false, cond, List, [], ◌∷◌, ◌++◌, Some, map, refl, ap, subst, arith, get_or}
use Rattle.std.specs.List.{slice_get}
use Rattle.std.proofs.lemmas.Option.{same_Some, get_or_from_slice_get, slice_get_within}
use Rattle.txn_programs.specs.declared.ast.TaskId.{TaskId}
use Rattle.book.specs.Tasks.{Task}
use Rattle.book.specs.View.{BookView}
use Rattle.book.specs.Carrying.{stays, staying}
use Rattle.stm_store.specs.Tickets.{TicketsView, AreTickets, HasTicket, with_next, kept_tickets}
use Rattle.stm_store.specs.Lives.{HasEnded, Later, Still, Submitted, NextChapter}
use Rattle.stm_store.specs.declared.job.Ticket.{Ticket}
use Rattle.stm_store.proofs.Rising.{one_of}

-- it was given, and no task has it
abbrev Gone : TicketsView → ℕ → Type 0
Gone t n = (n < t.given) × ((k : ℕ) → slice_get t.held k ≡ Some n → ⊥)

-- what came over stood beside a task that stays
came : {X : Type 0} (xs : List X) (ts : List Task) (j : ℕ) (x : X) → slice_get (staying xs ts) j ≡ Some x → (k : ℕ) × (slice_get xs k ≡ Some x) × (slice_get (map stays ts) k ≡ Some true)
came xs [] j x at = absurd (cc (at))
came [] (t ∷ ts) j x at = absurd (cc (at))
came (y ∷ xs) (t ∷ ts) j x at = by y xs t ts j x (stays t) refl (λ i h. came xs ts i x h) at
  where
    by : {X : Type 0} (y : X) (xs : List X) (t : Task) (ts : List Task) (j : ℕ) (x : X) (b : Bool) → stays t ≡ b
        → ((i : ℕ) → slice_get (staying xs ts) i ≡ Some x → (k : ℕ) × (slice_get xs k ≡ Some x) × (slice_get (map stays ts) k ≡ Some true))
        → slice_get (cond b (y ∷ staying xs ts) (staying xs ts)) j ≡ Some x → (k : ℕ) × (slice_get (y ∷ xs) k ≡ Some x) × (slice_get (map stays (t ∷ ts)) k ≡ Some true)
    by y xs t ts zero x true e rest h = (0, h, ap Some e)
    by y xs t ts (suc j) x true e rest h = let r = rest j h in (suc r.0, r.1, r.2)
    by y xs t ts j x false e rest h = let r = rest j h in (suc r.0, r.1, r.2)

-- where the chapter ends with which the task ends
gone_first : (t : TicketsView) (b : BookView) (task : TaskId) (ticket : Ticket) → AreTickets t → HasTicket t task ticket → HasEnded b task → Gone (kept_tickets t b) ticket.0
gone_first t b task ticket h has over =
    let within = slice_get_within t.held task.0 ticket.0 has in
    let here : get_or t.held task.0 0 ≡ ticket.0 = get_or_from_slice_get t.held task.0 ticket.0 0 has in
    let low : get_or t.held task.0 0 < t.given = h.below task.0 0 within in (
      omega (arith, low, here),
      λ j at.
          let c = came t.held b.tasks j ticket.0 at in
          let same : c.0 ≡ task.0 = one_of t.held h.ascending c.0 task.0 ticket.0 c.1 has in
          let stayed : slice_get (map stays b.tasks) task.0 ≡ Some true = subst (λ (k : ℕ). slice_get (map stays b.tasks) k ≡ Some true) same c.2 in
          cc (stayed, over),
    )

at_end : (xs : List ℕ) (y k n : ℕ) → slice_get (xs ++ y ∷ []) k ≡ Some n → (slice_get xs k ≡ Some n) ⊎ (y ≡ n)
at_end [] y zero n e = inr (same_Some y n e)
at_end [] y (suc k) n e = absurd (cc (e))
at_end (x ∷ xs) y zero n e = inl e
at_end (x ∷ xs) y (suc k) n e = at_end xs y k n e

gone_submitted : (t : TicketsView) (n : ℕ) → Gone t n → Gone (with_next t) n
gone_submitted t n g = (
  omega (arith, g.0),
  λ k at. elim (at_end t.held t.given k n at) [
    | inl h ↦ g.1 k h
    | inr e ↦ omega (arith, g.0, e)
  ],
)

gone_kept : (t : TicketsView) (b : BookView) (n : ℕ) → Gone t n → Gone (kept_tickets t b) n
gone_kept t b n g = (g.0, λ j at. let c = came t.held b.tasks j n at in g.1 c.0 c.1)

gone_later : (first later : TicketsView) (n : ℕ) → Gone first n → Later first later → Gone later n
gone_later first later n g Still = g
gone_later first later n g (Submitted {t} l) = gone_submitted t n (gone_later first t n g l)
gone_later first later n g (NextChapter {t} b l) = gone_kept t b n (gone_later first t n g l)

pub comes_back_never : (t later : TicketsView) (b : BookView) (task other : TaskId) (ticket : Ticket)
    → AreTickets t → HasTicket t task ticket → HasEnded b task → Later (kept_tickets t b) later → HasTicket later other ticket → ⊥
comes_back_never t later b task other ticket h has over l at =
    (gone_later (kept_tickets t b) later ticket.0 (gone_first t b task ticket h has over) l).1 other.0 at
