-- Tickets rise with their tasks, so that one is found by halving.
use Rattle.std.proofs.Common.{◌≡◌, ◌⊎◌, inl, inr, ℕ, zero, suc, ◌+◌, ◌<◌, ◌≤◌, List, [], ◌∷◌, ◌++◌, length, Some, None, Ok, Err, get_or, refl, sym, ◌∙◌, ap, subst, arith}
use Rattle.std.specs.List.{slice_get, All, AllPairs}
use Rattle.std.specs.Ordering.{nat_cmp}
use Rattle.std.specs.List.Sorted.{IsBinarySearchResult}
use Rattle.std.proofs.lemmas.Bool.{cond_both, cases_lt}
use Rattle.std.proofs.lemmas.List.{length_push}
use Rattle.std.proofs.lemmas.List.Elements.{All-nil, All-cons, All-head, All-tail, All-append}
use Rattle.std.proofs.lemmas.List.Kept.{AllPairs-cons}
use Rattle.std.proofs.lemmas.List.Sorted.{searched}
use Rattle.std.proofs.lemmas.Option.{get_or_from_slice_get, slice_get_within, slice_get-get_or}
use Rattle.txn_programs.specs.declared.ast.TaskId.{TaskId}
use Rattle.book.specs.Tasks.{Task}
use Rattle.book.specs.Carrying.{stays, staying}
use Rattle.book.proofs.Staying.{staying_all}
use Rattle.stm_store.specs.Tickets.{TicketsView, AreTickets, AreNumbers, IsTaskOf, with_next, most_tickets}
use Rattle.stm_store.specs.declared.job.Ticket.{Ticket}
use Rattle.stm_store.proofs.Entries.{get_append_at}

abbrev Rise : List ℕ → Type 0
Rise xs = AllPairs (λ m n. m < n) xs

-- those that come over rise too
pub staying_rise : (xs : List ℕ) (ts : List Task) → Rise xs → Rise (staying xs ts)
staying_rise xs [] h = λ i j d lt within. absurd (omega arith)
staying_rise [] (t ∷ ts) h = λ i j d lt within. absurd (omega arith)
staying_rise (x ∷ xs) (t ∷ ts) h =
    let rest = staying_rise xs ts (λ i j d lt within. h (suc i) (suc j) d (omega arith) (omega arith)) in
    let head : All (λ n. x < n) xs = λ k d within. h zero (suc k) d (omega arith) (omega arith) in
    cond_both (stays t) (x ∷ staying xs ts) (staying xs ts) Rise (λ _. AllPairs-cons (λ m n. m < n) x (staying xs ts) (staying_all (λ n. x < n) xs ts head) rest) (λ _. rest)

-- one more, above all
push_rise : (xs : List ℕ) (y : ℕ) → Rise xs → All (λ n. n < y) xs → Rise (xs ++ y ∷ [])
push_rise [] y h below = λ i j d lt within. absurd (omega arith)
push_rise (x ∷ xs) y h below =
    let rest = push_rise xs y (λ i j d lt within. h (suc i) (suc j) d (omega arith) (omega arith)) (All-tail (λ n. n < y) x xs below) in
    let head : All (λ n. x < n) xs = λ k d within. h zero (suc k) d (omega arith) (omega arith) in
    let last : All (λ n. x < n) (y ∷ []) = All-cons (λ n. x < n) y [] (All-head (λ n. n < y) x xs below) (All-nil (λ n. x < n)) in
    AllPairs-cons (λ m n. m < n) x (xs ++ y ∷ []) (All-append (λ n. x < n) xs (y ∷ []) head last) rest

higher : (xs : List ℕ) (m n : ℕ) → m ≤ n → All (λ k. k < m) xs → All (λ k. k < n) xs
higher xs m n le h = λ i d within. let below : get_or xs i d < m = h i d within in omega (arith, below, le)

pub tickets_more : (t : TicketsView) → AreTickets t → t.given < most_tickets → AreTickets (with_next t)
tickets_more t h left =
    record {
      ascending = push_rise t.held t.given h.ascending h.below;
      below = All-append (λ n. n < t.given + 1) t.held (t.given ∷ []) (higher t.held t.given (t.given + 1) (omega arith) h.below) (All-cons (λ n. n < t.given + 1) t.given [] (omega arith) (All-nil (λ n. n < t.given + 1)));
      few = omega (arith, left);
    }

pub tickets_stay : (t : TicketsView) (ts : List Task) → AreTickets t → AreTickets (record t { held = staying t.held ts })
tickets_stay t ts h =
    record {
      ascending = staying_rise t.held ts h.ascending;
      below = staying_all (λ n. n < t.given) t.held ts h.below;
      few = h.few;
    }

number_at : (xs : List ℕ) (n k d : ℕ) → AreNumbers xs n → k < length xs → get_or xs k d ≡ k
number_at xs n k d h within = get_or_from_slice_get xs k k d (h.same k (omega (arith, h.each, within)))

-- numbers from 0 on rise
pub numbers_are_tickets : (t : TicketsView) (n : ℕ) → AreNumbers t.held n → t.given ≡ n → n ≤ most_tickets → AreTickets t
numbers_are_tickets t n h given few =
    record {
      ascending = λ i j d lt within. omega (arith, number_at t.held n i d h (omega (arith, lt, within)), number_at t.held n j d h within, lt);
      below = λ k d within. omega (arith, number_at t.held n k d h within, h.each, given, within);
      few = omega (arith, given, few);
    }

pub numbers_none : AreNumbers [] 0
numbers_none = record { each = refl; same = λ k low. absurd (omega (arith, low)) }

before_last : (xs : List ℕ) (y k n : ℕ) → slice_get xs k ≡ Some n → slice_get (xs ++ y ∷ []) k ≡ Some n
before_last [] y k n e = absurd (cc)
before_last (x ∷ xs) y zero n e = e
before_last (x ∷ xs) y (suc k) n e = before_last xs y k n e

next_number_at : (xs : List ℕ) (i k : ℕ) → AreNumbers xs i → (k < i) ⊎ (k ≡ i) → slice_get (xs ++ i ∷ []) k ≡ Some k
next_number_at xs i k h (inl low) = before_last xs i k k (h.same k low)
next_number_at xs i k h (inr here) =
    ap (slice_get (xs ++ i ∷ [])) (here ∙ sym h.each) ∙ (get_append_at xs i ∙ ap Some (sym here))

split_at : (k i : ℕ) → k < i + 1 → (k < i) ⊎ (k ≡ i)
split_at k i low = elim (cases_lt k i) [
  | inl less ↦ inl less
  | inr more ↦ inr (omega (arith, more, low))
]

pub numbers_more : (xs : List ℕ) (i : ℕ) → AreNumbers xs i → AreNumbers (xs ++ i ∷ []) (i + 1)
numbers_more xs i h =
    record {
      each = omega (arith, length_push xs i, h.each);
      same = λ k low. next_number_at xs i k h (split_at k i low);
    }

-- the task that has the ticket
place_of : (xs : List ℕ) (k n : ℕ) → slice_get xs k ≡ Some n → (k < length xs) × (get_or xs k 0 ≡ n)
place_of xs k n e = (slice_get_within xs k n e, get_or_from_slice_get xs k n 0 e)

no_decrease : (xs : List ℕ) → Rise xs → (i j : ℕ) → i ≤ j → j < length xs → get_or xs i 0 ≤ get_or xs j 0
no_decrease xs h i j le within = elim (cases_lt i j) [
  | inl less ↦ let up : get_or xs i 0 < get_or xs j 0 = h i j 0 less within in omega (arith, up)
  | inr more ↦ let same : i ≡ j = omega (arith, more, le) in subst (λ k. get_or xs i 0 ≤ get_or xs k 0) same (omega arith)
]

-- no other task has it
pub one_of : (xs : List ℕ) → Rise xs → (i j n : ℕ) → slice_get xs i ≡ Some n → slice_get xs j ≡ Some n → i ≡ j
one_of xs h i j n at_i at_j =
    let a = place_of xs i n at_i in
    let b = place_of xs j n at_j in
    elim (cases_lt i j) [
      | inl less ↦ let up : get_or xs i 0 < get_or xs j 0 = h i j 0 less b.0 in absurd (omega (arith, up, a.1, b.1))
      | inr more ↦ elim (cases_lt j i) [
        | inl less ↦ let up : get_or xs j 0 < get_or xs i 0 = h j i 0 less a.0 in absurd (omega (arith, up, a.1, b.1))
        | inr other ↦ omega (arith, more, other)
      ]
    ]

pub found_task : (t : TicketsView) (ticket : Ticket) (place : ℕ) → AreTickets t → IsBinarySearchResult (λ y. nat_cmp y ticket.0) t.held (Ok place) → IsTaskOf t ticket (Some (record { 0 = place }))
found_task t ticket place h r =
    let f = searched t.held ticket.0 (Ok place) r (no_decrease t.held h.ascending) in
    let here : slice_get t.held place ≡ Some ticket.0 = slice_get-get_or t.held place 0 f.0 ∙ ap Some f.1 in (
      here,
      λ other has. ap (λ (n : ℕ). let task : TaskId = record { 0 = n } in task) (one_of t.held h.ascending other.0 place ticket.0 has here),
    )

pub found_none : (t : TicketsView) (ticket : Ticket) (place : ℕ) → AreTickets t → IsBinarySearchResult (λ y. nat_cmp y ticket.0) t.held (Err place) → IsTaskOf t ticket None
found_none t ticket place h r task has =
    let f = searched t.held ticket.0 (Err place) r (no_decrease t.held h.ascending) in
    let p = place_of t.held task.0 ticket.0 has in
    elim (cases_lt task.0 place) [
      | inl less ↦ let low : get_or t.held task.0 0 < ticket.0 = f.1 task.0 less in omega (arith, low, p.1)
      | inr more ↦ let high : ticket.0 < get_or t.held task.0 0 = f.2 task.0 (omega (arith, more)) p.0 in omega (arith, high, p.1)
    ]
