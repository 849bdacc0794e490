-- Rows of bytes, and the tasks that they show.
use Rattle.std.proofs.Common.{◌≡◌, ◌≢◌, inl, inr, ℕ, zero, suc, ◌+◌, ◌*◌, ◌<◌, ◌≤◌, pos, Bool, ◌||◌, cond, List, [], ◌∷◌, ◌++◌, length, map, Some, get_or, set, take, drop, replicate, refl, sym, ◌∙◌, ap, subst, arith}
use Rattle.std.specs.List.{slice_get}
use Rattle.std.proofs.lemmas.Bool.{cases_eq, cases_lt, cond-true, cond-false, le-leb, lt-leb}
use Rattle.std.proofs.lemmas.Nat.{row_fits}
use Rattle.std.proofs.lemmas.List.{length-set, get_or-set_same, get_or-set_other, drop_more}
use Rattle.std.proofs.lemmas.Option.{same_Some}
use Rattle.txn_programs.specs.declared.limits.TheConstants.{MAX_VARIABLES}
use Rattle.attempt.specs.Asking.{Known}
use Rattle.attempt.specs.Order.{AllKnown}
use Rattle.std.specs.Prelude.{nat_eq, nat_le}
use Rattle.book.specs.Tasks.{Task, Ready, Running, Parked}
use Rattle.book.specs.declared.task.Slot.{Slot}
use Rattle.book.specs.declared.task.Slot.TheVariants as standing
use Rattle.book.specs.Table.{unvalued, low_bits, names, names_low, flagged}
use Rattle.book.specs.Standings.{row, named_by, naming, Kept, kept_log, shown, shown_from, HaveRows, bare, unlogged}
use Rattle.book.proofs.Lists.{get_set_same, get_set_other, get_replicate, get_append_last}
use Rattle.book.proofs.Sleeping.{no_pair}

-- bytes that are the same make the same row
pub row_same : (n a : ℕ) (now was : List ℕ) → ((k : ℕ) → a ≤ k → k < a + n → get_or now k 0 ≡ get_or was k 0) → row now a n ≡ row was a n
row_same zero a now was h = refl
row_same (suc n) a now was h =
    ap (λ (x : ℕ). x ∷ row now (a + 1) n) (h a (omega arith) (omega arith))
    ∙ ap (λ (xs : List ℕ). get_or was a 0 ∷ xs) (row_same n (a + 1) now was (λ k low high. h k (omega (arith, low)) (omega (arith, high))))

-- bytes that stand elsewhere make the same row
pub row_moved : (n a b : ℕ) (now was : List ℕ) → ((j : ℕ) → j < n → get_or now (b + j) 0 ≡ get_or was (a + j) 0) → row now b n ≡ row was a n
row_moved zero a b now was h = refl
row_moved (suc n) a b now was h =
    let from : a ≡ a + 0 = omega arith in
    let to : b ≡ b + 0 = omega arith in
    ap (λ (x : ℕ). x ∷ row now (b + 1) n) (ap (λ (k : ℕ). get_or now k 0) to ∙ (h 0 (omega arith) ∙ ap (λ (k : ℕ). get_or was k 0) (sym from)))
    ∙ ap (λ (xs : List ℕ). get_or was a 0 ∷ xs)
    (row_moved n (a + 1) (b + 1) now was (λ j low.
    let from_next : a + suc j ≡ (a + 1) + j = omega arith in
    let to_next : (b + 1) + j ≡ b + suc j = omega arith in
    ap (λ (k : ℕ). get_or now k 0) to_next ∙ (h (suc j) (omega (arith, low)) ∙ ap (λ (k : ℕ). get_or was k 0) from_next)))

-- a row that was written byte by byte
pub row_is : (log : Known) (a : ℕ) (now : List ℕ) → ((j : ℕ) → j < length log → get_or now (a + j) 0 ≡ (get_or log j no_pair).0.0) → row now a (length log) ≡ named_by log
row_is [] a now h = refl
row_is (p ∷ rest) a now h =
    let here : a ≡ a + 0 = omega arith in
    ap (λ (x : ℕ). x ∷ row now (a + 1) (length rest)) (ap (λ (k : ℕ). get_or now k 0) here ∙ h 0 (omega arith))
    ∙ ap (λ (xs : List ℕ). p.0.0 ∷ xs)
    (row_is rest (a + 1) now (λ j low. let next : (a + 1) + j ≡ a + suc j = omega arith in ap (λ (k : ℕ). get_or now k 0) next ∙ h (suc j) (omega (arith, low))))

pub naming_names : (log : Known) → naming (named_by log) ≡ unvalued log
naming_names [] = refl
naming_names (p ∷ rest) = ap (λ (l : Known). (p.0, pos 0) ∷ l) (naming_names rest)

pub known_unvalued : (n : ℕ) (log : Known) → AllKnown n log → AllKnown n (unvalued log)
known_unvalued n [] h = tt
known_unvalued n (p ∷ rest) h = (h.0, known_unvalued n rest h.1)

pub known_valued : (n : ℕ) (log : Known) → AllKnown n (unvalued log) → AllKnown n log
known_valued n [] h = tt
known_valued n (p ∷ rest) h = (h.0, known_valued n rest h.1)

pub known_byte : (n : ℕ) (log : Known) → n ≤ MAX_VARIABLES → AllKnown n log → AllKnown MAX_VARIABLES log
known_byte n [] few h = tt
known_byte n (p ∷ rest) few h = (omega (arith, h.0, few), known_byte n rest few h.1)

names_unvalued : (x : ℕ) (log : Known) → names_low x (unvalued log) ≡ names_low x log
names_unvalued x [] = refl
names_unvalued x (p ∷ rest) = ap (λ (b : Bool). nat_eq (low_bits p.0.0) x || b) (names_unvalued x rest)

pub named_unvalued : (x : ℕ) (log : Known) → names x (unvalued log) ≡ names x log
named_unvalued x [] = refl
named_unvalued x (p ∷ rest) = ap (λ (b : Bool). nat_eq p.0.0 x || b) (named_unvalued x rest)

pub flagged_unvalued : (flag : Bool) (log : Known) (t x : ℕ) (s : List Bool) → flagged flag log t x s ≡ flagged flag (unvalued log) t x s
flagged_unvalued flag log t x s = ap (λ (b : Bool). cond b (set s t flag) s) (sym (names_unvalued x log))

-- the variable of a name
pub naming_at : (ns : List ℕ) (i : ℕ) → i < length ns → (get_or (naming ns) i no_pair).0.0 ≡ get_or ns i 0
naming_at [] i low = absurd (omega (arith, low))
naming_at (x ∷ ns) zero low = refl
naming_at (x ∷ ns) (suc i) low = naming_at ns i (omega (arith, low))

pub naming_length : (ns : List ℕ) → length (naming ns) ≡ length ns
naming_length [] = refl
naming_length (x ∷ ns) = ap suc (naming_length ns)

-- a row is a part of the bytes
pub row_part : (n a : ℕ) (names : List ℕ) → a + n ≤ length names → take n (drop a names) ≡ row names a n
row_part zero a names h = refl
row_part (suc n) a names h =
    ap (take (suc n)) (drop_more names a 0 (omega (arith, h))) ∙ ap (λ (xs : List ℕ). get_or names a 0 ∷ xs) (row_part n (a + 1) names (omega (arith, h)))

-- the variables of the first i pairs are put
pub record PutSoFar (log : Known) (start i at : ℕ) (now was : List ℕ) : Type 0 where
  pub here : at ≡ start + i
  pub size : length now ≡ length was
  pub written : (j : ℕ) → j < i → get_or now (start + j) 0 ≡ (get_or log j no_pair).0.0
  pub before : (k : ℕ) → k < start → get_or now k 0 ≡ get_or was k 0
  pub after : (k : ℕ) → start + length log ≤ k → get_or now k 0 ≡ get_or was k 0

pub put_first : (log : Known) (start : ℕ) (was : List ℕ) → PutSoFar log start 0 start was was
put_first log start was =
    record { here = omega arith; size = refl; written = λ j low. absurd (omega (arith, low)); before = λ k low. refl; after = λ k low. refl }

pub put_next : (log : Known) (start i at v : ℕ) (now was : List ℕ) → i < length log → start + length log ≤ length was → v ≡ (get_or log i no_pair).0.0 → PutSoFar log start i at now was → PutSoFar log start (i + 1) (at + 1) (set now at v) was
put_next log start i at v now was low room e h =
    record {
      here = omega (arith, h.here);
      size = length-set now at v ∙ h.size;
      written = λ j less.
          elim (cases_eq j i) [
            | inl same ↦
                let place : start + j ≡ at = omega (arith, same, h.here) in
                ap (λ (k : ℕ). get_or (set now at v) k 0) place
                ∙ (get_or-set_same now at v 0 (omega (arith, h.here, h.size, low, room)) ∙ (e ∙ ap (λ (k : ℕ). (get_or log k no_pair).0.0) (sym same)))
            | inr other ↦ get_or-set_other now at (start + j) v 0 (λ (w : start + j ≡ at). other (omega (arith, w, h.here))) ∙ h.written j (omega (arith, less, other))
          ];
      before = λ k less. get_or-set_other now at k v 0 (λ (w : k ≡ at). omega (arith, w, less, h.here)) ∙ h.before k less;
      after = λ k more. get_or-set_other now at k v 0 (λ (w : k ≡ at). omega (arith, w, more, h.here, low)) ∙ h.after k more;
    }

pub put_row : (log : Known) (start i at : ℕ) (now was : List ℕ) → length log ≤ i → PutSoFar log start i at now was → row now start (length log) ≡ named_by log
put_row log start i at now was past h = row_is log start now (λ j low. h.written j (omega (arith, low, past)))

-- with at most 256 variables a row tells what a task waits for
pub log_of_row : (w : ℕ) (kept : Kept) (k n : ℕ) → w ≤ 256 → kept_log w kept k n ≡ naming (row kept.bytes (k * w) n)
log_of_row w kept k n few = cond-true (nat_le w 256) (naming (row kept.bytes (k * w) n)) (unvalued (get_or kept.logs k [])) (le-leb w 256 few)

-- and with more of them its log does
pub log_of_list : (w : ℕ) (kept : Kept) (k n : ℕ) → 256 < w → kept_log w kept k n ≡ unvalued (get_or kept.logs k [])
log_of_list w kept k n many = cond-false (nat_le w 256) (naming (row kept.bytes (k * w) n)) (unvalued (get_or kept.logs k [])) (lt-leb w 256 many)

length_from : (w : ℕ) (names : Kept) (k : ℕ) (ss : List Slot) → length (shown_from w names k ss) ≡ length ss
length_from w names k [] = refl
length_from w names k (s ∷ ss) = ap suc (length_from w names (k + 1) ss)

pub length_shown : (w : ℕ) (names : Kept) (ss : List Slot) → length (shown_from w names 0 ss) ≡ length ss
length_shown w names ss = length_from w names 0 ss

-- a standing shows its task
from_at : (w : ℕ) (names : Kept) (k : ℕ) (ss : List Slot) (t : ℕ) (s : Slot) → slice_get ss t ≡ Some s → slice_get (shown_from w names k ss) t ≡ Some (shown w names (k + t) s)
from_at w names k [] t s h = absurd (cc)
from_at w names k (u ∷ ss) zero s h =
    let same : u ≡ s = same_Some u s h in
    let here : k ≡ k + 0 = omega arith in
    ap (λ (v : Slot). Some (shown w names k v)) same ∙ ap (λ (j : ℕ). Some (shown w names j s)) here
from_at w names k (u ∷ ss) (suc t) s h =
    let next : (k + 1) + t ≡ k + suc t = omega arith in
    from_at w names (k + 1) ss t s h ∙ ap (λ (j : ℕ). Some (shown w names j s)) next

plus_none : (t : ℕ) → 0 + t ≡ t
plus_none t = omega arith

pub shown_at : (w : ℕ) (names : Kept) (ss : List Slot) (t : ℕ) (s : Slot) → slice_get ss t ≡ Some s → slice_get (shown_from w names 0 ss) t ≡ Some (shown w names t s)
shown_at w names ss t s h = from_at w names 0 ss t s h ∙ ap (λ (j : ℕ). Some (shown w names j s)) (plus_none t)

at_from : (w : ℕ) (names : Kept) (k : ℕ) (ss : List Slot) (t : ℕ) (task : Task) → slice_get (shown_from w names k ss) t ≡ Some task → (s : Slot) × (slice_get ss t ≡ Some s) × (shown w names (k + t) s ≡ task)
at_from w names k [] t task h = absurd (cc)
at_from w names k (s ∷ ss) zero task h =
    let here : k + 0 ≡ k = omega arith in
    (s, refl, ap (λ (j : ℕ). shown w names j s) here ∙ same_Some (shown w names k s) task h)
at_from w names k (s ∷ ss) (suc t) task h =
    let g = at_from w names (k + 1) ss t task h in
    let next : k + suc t ≡ (k + 1) + t = omega arith in
    (g.0, g.1, ap (λ (j : ℕ). shown w names j g.0) next ∙ g.2)

-- a task is shown by a standing
pub at_shown : (w : ℕ) (names : Kept) (ss : List Slot) (t : ℕ) (task : Task) → slice_get (shown_from w names 0 ss) t ≡ Some task → (s : Slot) × (slice_get ss t ≡ Some s) × (shown w names t s ≡ task)
at_shown w names ss t task h =
    let g = at_from w names 0 ss t task h in
    (g.0, g.1, ap (λ (j : ℕ). shown w names j g.0) (sym (plus_none t)) ∙ g.2)

from_set : (w : ℕ) (names : Kept) (k : ℕ) (ss : List Slot) (t : ℕ) (s : Slot) → shown_from w names k (set ss t s) ≡ set (shown_from w names k ss) t (shown w names (k + t) s)
from_set w names k [] t s = refl
from_set w names k (u ∷ ss) zero s =
    let here : k ≡ k + 0 = omega arith in
    ap (λ (j : ℕ). shown w names j s ∷ shown_from w names (k + 1) ss) here
from_set w names k (u ∷ ss) (suc t) s =
    let next : (k + 1) + t ≡ k + suc t = omega arith in
    ap (λ (ts : List Task). shown w names k u ∷ ts)
    (from_set w names (k + 1) ss t s ∙ ap (λ (j : ℕ). set (shown_from w names (k + 1) ss) t (shown w names j s)) next)

-- one task stands otherwise
pub shown_set : (w : ℕ) (names : Kept) (ss : List Slot) (t : ℕ) (s : Slot) → shown_from w names 0 (set ss t s) ≡ set (shown_from w names 0 ss) t (shown w names t s)
shown_set w names ss t s = from_set w names 0 ss t s ∙ ap (λ (j : ℕ). set (shown_from w names 0 ss) t (shown w names j s)) (plus_none t)

one_same : (w : ℕ) (now was : Kept) (k : ℕ) (s : Slot) → ((n : ℕ) → s ≡ standing.Parked n → kept_log w now k n ≡ kept_log w was k n) → shown w now k s ≡ shown w was k s
one_same w now was k standing.Ready h = refl
one_same w now was k standing.Running h = refl
one_same w now was k (standing.Parked n) h = ap Parked (h n refl)
one_same w now was k (standing.Done n) h = refl
one_same w now was k standing.GivenUp h = refl

from_names : (w : ℕ) (now was : Kept) (k : ℕ) (ss : List Slot) → ((t n : ℕ) → slice_get ss t ≡ Some (standing.Parked n) → kept_log w now (k + t) n ≡ kept_log w was (k + t) n) → shown_from w now k ss ≡ shown_from w was k ss
from_names w now was k [] h = refl
from_names w now was k (s ∷ ss) h =
    let here : k + 0 ≡ k = omega arith in
    ap (λ (t : Task). t ∷ shown_from w now (k + 1) ss)
    (one_same w now was k s (λ n e. subst (λ (j : ℕ). kept_log w now j n ≡ kept_log w was j n) here (h zero n (ap Some e))))
    ∙ ap (λ (ts : List Task). shown w was k s ∷ ts)
    (from_names w now was (k + 1) ss (λ t n at. let next : k + suc t ≡ (k + 1) + t = omega arith in subst (λ (j : ℕ). kept_log w now j n ≡ kept_log w was j n) next (h (suc t) n at)))

-- where the same is kept of the parked tasks, the same tasks are shown
pub shown_names : (w : ℕ) (now was : Kept) (ss : List Slot) → ((t n : ℕ) → slice_get ss t ≡ Some (standing.Parked n) → kept_log w now t n ≡ kept_log w was t n) → shown_from w now 0 ss ≡ shown_from w was 0 ss
shown_names w now was ss h =
    from_names w now was 0 ss (λ t n at. subst (λ (j : ℕ). kept_log w now j n ≡ kept_log w was j n) (sym (plus_none t)) (h t n at))

from_more : (w : ℕ) (names : Kept) (k : ℕ) (ss : List Slot) → shown_from w names k (ss ++ standing.Ready ∷ []) ≡ shown_from w names k ss ++ Ready ∷ []
from_more w names k [] = refl
from_more w names k (s ∷ ss) = ap (λ (ts : List Task). shown w names k s ∷ ts) (from_more w names (k + 1) ss)

-- a ready task more
pub shown_more : (w : ℕ) (names : Kept) (ss : List Slot) → shown_from w names 0 (ss ++ standing.Ready ∷ []) ≡ shown_from w names 0 ss ++ Ready ∷ []
shown_more w names ss = from_more w names 0 ss

from_ready : (w : ℕ) (names : Kept) (k n : ℕ) → shown_from w names k (replicate n standing.Ready) ≡ replicate n Ready
from_ready w names k zero = refl
from_ready w names k (suc n) = ap (λ (ts : List Task). Ready ∷ ts) (from_ready w names (k + 1) n)

pub shown_ready : (w : ℕ) (names : Kept) (n : ℕ) → shown_from w names 0 (replicate n standing.Ready) ≡ replicate n Ready
shown_ready w names n = from_ready w names 0 n

-- a task that runs stands so, and so does one that waits
running_standing : (w : ℕ) (names : Kept) (k : ℕ) (s : Slot) → shown w names k s ≡ Running → s ≡ standing.Running
running_standing w names k standing.Ready e = absurd (cc)
running_standing w names k standing.Running e = refl
running_standing w names k (standing.Parked n) e = absurd (cc)
running_standing w names k (standing.Done n) e = absurd (cc)
running_standing w names k standing.GivenUp e = absurd (cc)

pub stands_running : (w : ℕ) (names : Kept) (ss : List Slot) (t : ℕ) → slice_get (shown_from w names 0 ss) t ≡ Some Running → slice_get ss t ≡ Some standing.Running
stands_running w names ss t e = let g = at_shown w names ss t Running e in g.1 ∙ ap Some (running_standing w names t g.0 g.2)

ready_standing : (w : ℕ) (names : Kept) (k : ℕ) (s : Slot) → shown w names k s ≡ Ready → s ≡ standing.Ready
ready_standing w names k standing.Ready e = refl
ready_standing w names k standing.Running e = absurd (cc)
ready_standing w names k (standing.Parked n) e = absurd (cc)
ready_standing w names k (standing.Done n) e = absurd (cc)
ready_standing w names k standing.GivenUp e = absurd (cc)

pub stands_ready : (w : ℕ) (names : Kept) (ss : List Slot) (t : ℕ) → slice_get (shown_from w names 0 ss) t ≡ Some Ready → slice_get ss t ≡ Some standing.Ready
stands_ready w names ss t e = let g = at_shown w names ss t Ready e in g.1 ∙ ap Some (ready_standing w names t g.0 g.2)

parked_standing : (w : ℕ) (names : Kept) (k : ℕ) (s : Slot) (log : Known) → shown w names k s ≡ Parked log → (n : ℕ) × (s ≡ standing.Parked n) × (log ≡ kept_log w names k n)
parked_standing w names k standing.Ready log e = absurd (cc)
parked_standing w names k standing.Running log e = absurd (cc)
parked_standing w names k (standing.Parked n) log e =
    let same : Parked (kept_log w names k n) ≡ Parked log = e in
    let here : kept_log w names k n ≡ log = cc in
    (n, refl, sym here)
parked_standing w names k (standing.Done n) log e = absurd (cc)
parked_standing w names k standing.GivenUp log e = absurd (cc)

pub stands_parked : (w : ℕ) (names : Kept) (ss : List Slot) (t : ℕ) (log : Known) → slice_get (shown_from w names 0 ss) t ≡ Some (Parked log) → (n : ℕ) × (slice_get ss t ≡ Some (standing.Parked n)) × (log ≡ kept_log w names t n)
stands_parked w names ss t log e =
    let g = at_shown w names ss t (Parked log) e in
    let p = parked_standing w names t g.0 log g.2 in
    (p.0, g.1 ∙ ap Some p.1, p.2)

bare_shown : (w : ℕ) (names : Kept) (k : ℕ) (s : Slot) → bare s ≡ unlogged (shown w names k s)
bare_shown w names k standing.Ready = refl
bare_shown w names k standing.Running = refl
bare_shown w names k (standing.Parked n) = refl
bare_shown w names k (standing.Done n) = refl
bare_shown w names k standing.GivenUp = refl

bare_from : (w : ℕ) (names : Kept) (k : ℕ) (ss : List Slot) → map bare ss ≡ map unlogged (shown_from w names k ss)
bare_from w names k [] = refl
bare_from w names k (s ∷ ss) =
    ap (λ (t : Task). t ∷ map bare ss) (bare_shown w names k s) ∙ ap (λ (ts : List Task). unlogged (shown w names k s) ∷ ts) (bare_from w names (k + 1) ss)

pub all_bare : (w : ℕ) (names : Kept) (ss : List Slot) → map bare ss ≡ map unlogged (shown_from w names 0 ss)
all_bare w names ss = bare_from w names 0 ss

-- what is kept when a task comes to be parked: all that is kept of the others
pub record RowWritten (w t : ℕ) (now was : Kept) : Type 0 where
  pub whole : w ≤ 256 → t * w + w ≤ length now.bytes
  pub longer : length was.bytes ≤ length now.bytes
  pub logged : 256 < w → t < length now.logs
  pub more_logs : length was.logs ≤ length now.logs
  pub others : (u n : ℕ) → u ≢ t → n ≤ w → (w ≤ 256 → u * w + w ≤ length was.bytes) → kept_log w now u n ≡ kept_log w was u n

-- as its row is written
pub row_written : (w t : ℕ) (now was : Kept) → w ≤ 256 → t * w + w ≤ length now.bytes → length was.bytes ≤ length now.bytes → length was.logs ≤ length now.logs
    → ((k : ℕ) → k < length was.bytes → k < t * w → get_or now.bytes k 0 ≡ get_or was.bytes k 0)
    → ((k : ℕ) → k < length was.bytes → t * w + w ≤ k → get_or now.bytes k 0 ≡ get_or was.bytes k 0) → RowWritten w t now was
row_written w t now was narrow whole longer more before after =
    record {
      whole = λ few. whole;
      longer = longer;
      logged = λ wide. absurd (omega (arith, narrow, wide));
      more_logs = more;
      others = λ u n other fits there.
          let all = there narrow in
          log_of_row w now u n narrow
          ∙ (ap naming (row_same n (u * w) now.bytes was.bytes (λ k low high.
          elim (cases_lt u t) [
            | inl less ↦ before k (omega (arith, high, fits, all)) (omega (arith, high, fits, row_fits u w t w less (omega arith)))
            | inr more ↦ after k (omega (arith, high, fits, all)) (omega (arith, low, row_fits t w u w (omega (arith, more, other)) (omega arith)))
          ]))
          ∙ sym (log_of_row w was u n narrow));
    }

-- as its log is
pub log_written : (w t : ℕ) (now was : Kept) → 256 < w → length was.bytes ≤ length now.bytes → t < length now.logs → length was.logs ≤ length now.logs → ((u : ℕ) → u ≢ t → get_or now.logs u [] ≡ get_or was.logs u []) → RowWritten w t now was
log_written w t now was wide longer logged more others =
    record {
      whole = λ few. absurd (omega (arith, few, wide));
      longer = longer;
      logged = λ many. logged;
      more_logs = more;
      others = λ u n other fits there. log_of_list w now u n wide ∙ (ap unvalued (others u other) ∙ sym (log_of_list w was u n wide));
    }

-- where no parked task stands there, all tasks are shown as they were
pub written_else : (w t : ℕ) (now was : Kept) (ss : List Slot) → RowWritten w t now was → HaveRows w was ss → ((n : ℕ) → slice_get ss t ≢ Some (standing.Parked n)) → shown_from w now 0 ss ≡ shown_from w was 0 ss
written_else w t now was ss h rows none =
    shown_names w now was ss (λ u n parked.
    let other : u ≢ t = λ e. none n (ap (slice_get ss) (sym e) ∙ parked) in
    h.others u n other (rows.fits u n parked) (λ few. rows.whole few u n parked))

pub written_same : (w t : ℕ) (now was : Kept) (ss : List Slot) → RowWritten w t now was → HaveRows w was ss → slice_get ss t ≡ Some standing.Running → shown_from w now 0 ss ≡ shown_from w was 0 ss
written_same w t now was ss h rows at =
    written_else w t now was ss h rows (λ n parked. let bad : standing.Running ≡ standing.Parked n = same_Some _ _ (sym at ∙ parked) in cc)

-- the task that is parked is shown with what is kept of it, and every other as it was
pub shown_parked : (w t n : ℕ) (now was : Kept) (ss : List Slot) (log : Known) → RowWritten w t now was → HaveRows w was ss → slice_get ss t ≡ Some standing.Running → kept_log w now t n ≡ log
    → shown_from w now 0 (set ss t (standing.Parked n)) ≡ set (shown_from w was 0 ss) t (Parked log)
shown_parked w t n now was ss log h rows at written =
    shown_set w now ss t (standing.Parked n)
    ∙ (ap (λ (ts : List Task). set ts t (Parked (kept_log w now t n))) (written_same w t now was ss h rows at)
    ∙ ap (λ (l : Known). set (shown_from w was 0 ss) t (Parked l)) written)

-- as long as there are no fewer, other rows and logs take none away
pub rows_kept : (w : ℕ) (now was : Kept) (ss : List Slot) → length was.bytes ≤ length now.bytes → length was.logs ≤ length now.logs → HaveRows w was ss → HaveRows w now ss
rows_kept w now was ss longer more h =
    record {
      fits = h.fits;
      whole = λ narrow t n e. omega (arith, h.whole narrow t n e, longer);
      logged = λ wide t n e. omega (arith, h.logged wide t n e, more);
    }

-- each parked task still has its row, or its log
pub rows_parked : (w t n : ℕ) (now was : Kept) (ss : List Slot) → RowWritten w t now was → HaveRows w was ss → n ≤ w → slice_get ss t ≡ Some standing.Running → HaveRows w now (set ss t (standing.Parked n))
rows_parked w t n now was ss h rows few at =
    record {
      fits = λ u m parked.
          elim (cases_eq u t) [
            | inl same ↦
                let it : standing.Parked n ≡ standing.Parked m = same_Some _ _ (sym (get_set_same ss t standing.Running (standing.Parked n) at) ∙ (ap (slice_get (set ss t (standing.Parked n))) (sym same) ∙ parked)) in
                let size : n ≡ m = cc in
                omega (arith, few, size)
            | inr other ↦ rows.fits u m (sym (get_set_other ss t u (standing.Parked n) other) ∙ parked)
          ];
      whole = λ narrow u m parked.
          elim (cases_eq u t) [
            | inl same ↦ subst (λ (k : ℕ). k * w + w ≤ length now.bytes) (sym same) (h.whole narrow)
            | inr other ↦ omega (arith, rows.whole narrow u m (sym (get_set_other ss t u (standing.Parked n) other) ∙ parked), h.longer)
          ];
      logged = λ wide u m parked.
          elim (cases_eq u t) [
            | inl same ↦ subst (λ (k : ℕ). k < length now.logs) (sym same) (h.logged wide)
            | inr other ↦ omega (arith, rows.logged wide u m (sym (get_set_other ss t u (standing.Parked n) other) ∙ parked), h.more_logs)
          ];
    }

-- a task that is not parked needs no row and no log
pub rows_awake : (w t : ℕ) (names : Kept) (ss : List Slot) (was is : Slot) → HaveRows w names ss → slice_get ss t ≡ Some was → ((n : ℕ) → is ≢ standing.Parked n) → HaveRows w names (set ss t is)
rows_awake w t names ss was is rows at awake =
    record {
      fits = λ u m parked. rows.fits u m (still u m parked);
      whole = λ narrow u m parked. rows.whole narrow u m (still u m parked);
      logged = λ wide u m parked. rows.logged wide u m (still u m parked);
    } where
      still : (u m : ℕ) → slice_get (set ss t is) u ≡ Some (standing.Parked m) → slice_get ss u ≡ Some (standing.Parked m)
      still u m parked =
          elim (cases_eq u t) [
            | inl same ↦ absurd (awake m (same_Some _ _ (sym (get_set_same ss t was is at) ∙ (ap (slice_get (set ss t is)) (sym same) ∙ parked))))
            | inr other ↦ sym (get_set_other ss t u is other) ∙ parked
          ]

-- a task that is no longer parked is shown so, whatever is kept of it
pub shown_awake : (w t : ℕ) (now was : Kept) (ss : List Slot) (stood is : Slot) → RowWritten w t now was → HaveRows w was ss → slice_get ss t ≡ Some stood → ((n : ℕ) → is ≢ standing.Parked n) → shown_from w now 0 (set ss t is) ≡ set (shown_from w was 0 ss) t (shown w was t is)
shown_awake w t now was ss stood is h rows at awake =
    written_else w t now was (set ss t is) h (rows_awake w t was ss stood is rows at awake) (λ n e. awake n (same_Some _ _ (sym (get_set_same ss t stood is at) ∙ e)))
    ∙ shown_set w was ss t is

pub rows_ready : (w n : ℕ) (names : Kept) → HaveRows w names (replicate n standing.Ready)
rows_ready w n names =
    record {
      fits = λ t m e. let bad : standing.Ready ≡ standing.Parked m = get_replicate n t standing.Ready (standing.Parked m) e in absurd (cc);
      whole = λ narrow t m e. let bad : standing.Ready ≡ standing.Parked m = get_replicate n t standing.Ready (standing.Parked m) e in absurd (cc);
      logged = λ wide t m e. let bad : standing.Ready ≡ standing.Parked m = get_replicate n t standing.Ready (standing.Parked m) e in absurd (cc);
    }

pub rows_more : (w : ℕ) (names : Kept) (ss : List Slot) → HaveRows w names ss → HaveRows w names (ss ++ standing.Ready ∷ [])
rows_more w names ss rows =
    record {
      fits = λ t m e. rows.fits t m (before t m e);
      whole = λ narrow t m e. rows.whole narrow t m (before t m e);
      logged = λ wide t m e. rows.logged wide t m (before t m e);
    } where
      before : (t m : ℕ) → slice_get (ss ++ standing.Ready ∷ []) t ≡ Some (standing.Parked m) → slice_get ss t ≡ Some (standing.Parked m)
      before t m e =
          elim (get_append_last ss standing.Ready t (standing.Parked m) e) [
            | inl h ↦ h
            | inr h ↦ let bad : standing.Ready ≡ standing.Parked m = h.1 in absurd (cc)
          ]

-- a standing that was read, without its log
pub bare_here : (ss : List Slot) (i : ℕ) (d : Slot) → i < length ss → bare (get_or ss i d) ≡ get_or (map bare ss) i (bare (get_or ss i d))
bare_here [] i d low = absurd (omega (arith, low))
bare_here (u ∷ ss) zero d low = refl
bare_here (u ∷ ss) (suc i) d low = bare_here ss i d (omega (arith, low))
