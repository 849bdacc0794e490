-- The transactions of the tasks that come over, in one list with their tasks.
use Rattle.std.proofs.Common.{◌≡◌, inl, inr, ℕ, zero, suc, ◌+◌, ◌<◌, ◌≤◌, Bool, true, false, cond, List, [], ◌∷◌, ◌++◌, length, map, get_or, set, take, drop, refl, sym, ◌∙◌, ap, arith}
use Rattle.std.specs.List.{All}
use Rattle.std.proofs.lemmas.Bool.{cases_lt, cond_both}
use Rattle.std.proofs.lemmas.List.{take_more, take_more_set, take_all, drop_more, drop-set-lt, length-set, length-take-le, append-nil}
use Rattle.std.proofs.lemmas.List.Elements.{All-nil, All-cons, All-head, All-tail}
use Rattle.book.specs.Tasks.{Task}
use Rattle.book.specs.Tasks.{Ready}
use Rattle.book.specs.declared.task.Slot.{Slot}
use Rattle.book.specs.Standings.{bare}
use Rattle.book.specs.Turns.{readied_one}
use Rattle.book.specs.Carrying.{stays, carried, staying}

-- one more task at the end
pub staying_more : {X : Type 0} (xs : List X) (ts : List Task) (x : X) (t : Task) → length xs ≡ length ts → staying (xs ++ x ∷ []) (ts ++ t ∷ []) ≡ staying xs ts ++ staying (x ∷ []) (t ∷ [])
staying_more [] [] x t e = refl
staying_more [] (u ∷ ts) x t e = absurd (omega (arith, e))
staying_more (y ∷ xs) [] x t e = absurd (omega (arith, e))
staying_more (y ∷ xs) (u ∷ ts) x t e =
    let rest = staying_more xs ts x t (omega (arith, e)) in
    cond_both (stays u) (y ∷ staying (xs ++ x ∷ []) (ts ++ t ∷ [])) (staying (xs ++ x ∷ []) (ts ++ t ∷ [])) (λ r. r ≡ cond (stays u) (y ∷ staying xs ts) (staying xs ts) ++ staying (x ∷ []) (t ∷ []))
    (λ h. ap (λ r. y ∷ r) rest ∙ ap (λ (b : Bool). cond b (y ∷ staying xs ts) (staying xs ts) ++ staying (x ∷ []) (t ∷ [])) (sym h))
    (λ h. rest ∙ ap (λ (b : Bool). cond b (y ∷ staying xs ts) (staying xs ts) ++ staying (x ∷ []) (t ∷ [])) (sym h))

-- of the first i those that stay stand at the beginning, and the others are as they were
pub record KeptSoFar {X : Type 0} (was : List X) (ts : List Task) (i kept : ℕ) (now : List X) : Type 0 where
  pub low : kept ≤ i
  pub size : length now ≡ length was
  pub head : take kept now ≡ staying (take i was) (take i ts)
  pub rest : drop i now ≡ drop i was

pub kept_first : {X : Type 0} (was : List X) (ts : List Task) → KeptSoFar was ts 0 0 was
kept_first was ts = record { low = omega arith; size = refl; head = refl; rest = refl }

pub next_drop : {X : Type 0} (xs ys : List X) (i : ℕ) (d : X) → i < length xs → i < length ys → drop i xs ≡ drop i ys → drop (i + 1) xs ≡ drop (i + 1) ys
next_drop xs ys i d low high e = ap (drop 1) (sym (drop_more xs i d low) ∙ (e ∙ drop_more ys i d high))

pub same_next : {X : Type 0} (xs ys : List X) (i : ℕ) (d : X) → i < length xs → i < length ys → drop i xs ≡ drop i ys → get_or xs i d ≡ get_or ys i d
same_next xs ys i d low high e = ap (λ zs. get_or zs 0 d) (sym (drop_more xs i d low) ∙ (e ∙ drop_more ys i d high))

more_is : {X : Type 0} (was : List X) (ts : List Task) (i : ℕ) (d : X) → length ts ≡ length was → i < length was → staying (take (i + 1) was) (take (i + 1) ts) ≡ staying (take i was) (take i ts) ++ staying (get_or was i d ∷ []) (get_or ts i Ready ∷ [])
more_is was ts i d size within =
    let low : i < length ts = omega (arith, within, size) in
    ap (λ xs. staying xs (take (i + 1) ts)) (take_more was i d within)
    ∙ (ap (staying (take i was ++ get_or was i d ∷ [])) (take_more ts i Ready low)
    ∙ staying_more (take i was) (take i ts) (get_or was i d) (get_or ts i Ready) (first_length was ts i size)) where
      first_length : {X : Type 0} (xs : List X) (us : List Task) (i : ℕ) → length us ≡ length xs → length (take i xs) ≡ length (take i us)
      first_length xs us zero e = refl
      first_length [] [] (suc i) e = refl
      first_length [] (u ∷ us) (suc i) e = absurd (omega (arith, e))
      first_length (x ∷ xs) [] (suc i) e = absurd (omega (arith, e))
      first_length (x ∷ xs) (u ∷ us) (suc i) e = ap suc (first_length xs us i (omega (arith, e)))

-- task i stays
pub kept_stays : {X : Type 0} (was : List X) (ts : List Task) (i kept : ℕ) (now : List X) (x : X) → length ts ≡ length was → i < length was → stays (get_or ts i Ready) ≡ true → x ≡ get_or now i x → KeptSoFar was ts i kept now → KeptSoFar was ts (i + 1) (kept + 1) (set now kept x)
kept_stays was ts i kept now x size within e read h =
    let here : i < length now = omega (arith, within, h.size) in
    let one : staying (get_or was i x ∷ []) (get_or ts i Ready ∷ []) ≡ get_or was i x ∷ [] = ap (λ (b : Bool). cond b (get_or was i x ∷ []) []) e in
    let same : x ≡ get_or was i x = read ∙ same_next now was i x here within h.rest in
    record {
      low = omega (arith, h.low);
      size = length-set now kept x ∙ h.size;
      head = take_more_set now kept x (omega (arith, h.low, here))
          ∙ (ap (λ xs. xs ++ x ∷ []) h.head
          ∙ (ap (λ y. staying (take i was) (take i ts) ++ y ∷ []) same
          ∙ (ap (λ xs. staying (take i was) (take i ts) ++ xs) (sym one) ∙ sym (more_is was ts i x size within))));
      rest = drop-set-lt (i + 1) now kept x (omega (arith, h.low)) ∙ next_drop now was i x here within h.rest;
    }

-- task i goes
pub kept_goes : {X : Type 0} (was : List X) (ts : List Task) (i kept : ℕ) (now : List X) (d : X) → length ts ≡ length was → i < length was → stays (get_or ts i Ready) ≡ false → KeptSoFar was ts i kept now → KeptSoFar was ts (i + 1) kept now
kept_goes was ts i kept now d size within e h =
    let here : i < length now = omega (arith, within, h.size) in
    let none : staying (get_or was i d ∷ []) (get_or ts i Ready ∷ []) ≡ [] = ap (λ (b : Bool). cond b (get_or was i d ∷ []) []) e in
    record {
      low = omega (arith, h.low);
      size = h.size;
      head = h.head ∙ (sym (append-nil (staying (take i was) (take i ts))) ∙ (ap (λ xs. staying (take i was) (take i ts) ++ xs) (sym none) ∙ sym (more_is was ts i d size within)));
      rest = next_drop now was i d here within h.rest;
    }

-- all were looked at
kept_all : {X : Type 0} (was : List X) (ts : List Task) (i kept : ℕ) (now : List X) → length ts ≡ length was → length was ≤ i → KeptSoFar was ts i kept now → take kept now ≡ staying was ts
kept_all was ts i kept now size past h = h.head ∙ (ap (λ xs. staying xs (take i ts)) (take_all i was past) ∙ ap (staying was) (take_all i ts (omega (arith, past, size))))

-- what holds of all transactions holds of those that stay
pub staying_all : {X : Type 0} (P : X → Type 0) (xs : List X) (ts : List Task) → All P xs → All P (staying xs ts)
staying_all P xs [] h = All-nil P
staying_all P [] (t ∷ ts) h = All-nil P
staying_all P (x ∷ xs) (t ∷ ts) h =
    let rest = staying_all P xs ts (All-tail P x xs h) in
    cond_both (stays t) (x ∷ staying xs ts) (staying xs ts) (λ ys. All P ys) (λ e. All-cons P x (staying xs ts) (All-head P x xs h) rest) (λ e. rest)

-- what is made of those that stay
pub staying_map : {X Y : Type 0} (f : X → Y) (xs : List X) (ts : List Task) → map f (staying xs ts) ≡ staying (map f xs) ts
staying_map f xs [] = refl
staying_map f [] (t ∷ ts) = refl
staying_map f (x ∷ xs) (t ∷ ts) =
    let rest = staying_map f xs ts in
    cond_both (stays t) (x ∷ staying xs ts) (staying xs ts) (λ ys. map f ys ≡ cond (stays t) (f x ∷ staying (map f xs) ts) (staying (map f xs) ts))
    (λ e. ap (λ ys. f x ∷ ys) rest ∙ ap (λ (b : Bool). cond b (f x ∷ staying (map f xs) ts) (staying (map f xs) ts)) (sym e))
    (λ e. rest ∙ ap (λ (b : Bool). cond b (f x ∷ staying (map f xs) ts) (staying (map f xs) ts)) (sym e))

pub staying_length : {X : Type 0} (xs : List X) (ts : List Task) → length xs ≡ length ts → length (staying xs ts) ≡ length (carried ts)
staying_length [] [] e = refl
staying_length [] (t ∷ ts) e = absurd (omega (arith, e))
staying_length (x ∷ xs) [] e = absurd (omega (arith, e))
staying_length (x ∷ xs) (t ∷ ts) e = both x xs t ts (stays t) (staying_length xs ts (omega (arith, e))) where
  both : {X : Type 0} (x : X) (xs : List X) (t : Task) (ts : List Task) (b : Bool) → length (staying xs ts) ≡ length (carried ts) → length (cond b (x ∷ staying xs ts) (staying xs ts)) ≡ length (cond b (readied_one t ∷ carried ts) (carried ts))
  both x xs t ts true rest = ap suc rest
  both x xs t ts false rest = rest

-- as many stay of the first i as of all: they are the same
same_first : {X : Type 0} (xs : List X) (ts : List Task) (i : ℕ) → length (staying xs ts) ≤ length (staying (take i xs) (take i ts)) → staying (take i xs) (take i ts) ≡ staying xs ts
same_first xs ts zero few = nothing (staying xs ts) few where
  nothing : {X : Type 0} (ys : List X) → length ys ≤ 0 → [] ≡ ys
  nothing [] few = refl
  nothing (y ∷ ys) few = absurd (omega (arith, few))
same_first xs [] (suc i) few = refl
same_first [] (t ∷ ts) (suc i) few = refl
same_first (x ∷ xs) (t ∷ ts) (suc i) few = either x (staying xs ts) (staying (take i xs) (take i ts)) (stays t) (same_first xs ts i) few where
  either : {X : Type 0} (x : X) (all some : List X) (b : Bool) → (length all ≤ length some → some ≡ all) → length (cond b (x ∷ all) all) ≤ length (cond b (x ∷ some) some) → cond b (x ∷ some) some ≡ cond b (x ∷ all) all
  either x all some true rest few = ap (λ ys. x ∷ ys) (rest (omega (arith, few)))
  either x all some false rest few = rest few

kept_count : {X : Type 0} (was : List X) (ts : List Task) (i kept : ℕ) (now : List X) → i ≤ length was → KeptSoFar was ts i kept now → kept ≡ length (staying (take i was) (take i ts))
kept_count was ts i kept now low h = sym (length-take-le kept now (omega (arith, low, h.low, h.size))) ∙ ap length h.head

-- as many were kept as stay
pub kept_enough : {X : Type 0} (was : List X) (ts : List Task) (i kept : ℕ) (now : List X) → length ts ≡ length was → i ≤ length was → length (carried ts) ≤ kept → KeptSoFar was ts i kept now → take kept now ≡ staying was ts
kept_enough was ts i kept now size low enough h =
    h.head ∙ same_first was ts i (omega (arith, staying_length was ts (sym size), enough, kept_count was ts i kept now low h))

-- while fewer were kept than stay there is a next one
pub kept_left : {X : Type 0} (was : List X) (ts : List Task) (i kept : ℕ) (now : List X) → length ts ≡ length was → i ≤ length was → kept < length (carried ts) → KeptSoFar was ts i kept now → i < length was
kept_left was ts i kept now size low less h =
    elim (cases_lt i (length was)) [
      | inl within ↦ within
      | inr past ↦ absurd (omega (arith, less, staying_length was ts (sym size), ap length (kept_all was ts i kept now size past h), length-take-le kept now (omega (arith, low, h.low, h.size))))
    ]

pub staying_shorter : {X : Type 0} (xs : List X) (ts : List Task) → length (staying xs ts) ≤ length xs
staying_shorter xs [] = omega arith
staying_shorter [] (t ∷ ts) = omega arith
staying_shorter (x ∷ xs) (t ∷ ts) =
    let rest = staying_shorter xs ts in
    cond_both (stays t) (x ∷ staying xs ts) (staying xs ts) (λ ys. length ys ≤ length (x ∷ xs)) (λ e. omega (arith, rest)) (λ e. omega (arith, rest))

few_carried : (ts : List Task) → length (carried ts) ≤ length ts
few_carried [] = omega arith
few_carried (t ∷ ts) =
    let rest = few_carried ts in
    cond_both (stays t) (readied_one t ∷ carried ts) (carried ts) (λ us. length us ≤ length (t ∷ ts)) (λ e. omega (arith, rest)) (λ e. omega (arith, rest))

-- as many stay as there are: each does
pub all_stay : {X : Type 0} (xs : List X) (ts : List Task) → length ts ≡ length xs → length (carried ts) ≡ length ts → staying xs ts ≡ xs
all_stay [] [] size all = refl
all_stay (x ∷ xs) [] size all = absurd (omega (arith, size))
all_stay [] (t ∷ ts) size all = absurd (omega (arith, size))
all_stay (x ∷ xs) (t ∷ ts) size all = either x xs t ts (stays t) (all_stay xs ts (omega (arith, size))) all (few_carried ts) where
  either : {X : Type 0} (x : X) (xs : List X) (t : Task) (ts : List Task) (b : Bool) → (length (carried ts) ≡ length ts → staying xs ts ≡ xs) → length (cond b (readied_one t ∷ carried ts) (carried ts)) ≡ length (t ∷ ts) → length (carried ts) ≤ length ts → cond b (x ∷ staying xs ts) (staying xs ts) ≡ x ∷ xs
  either x xs t ts true rest all few = ap (λ ys. x ∷ ys) (rest (omega (arith, all)))
  either x xs t ts false rest all few = absurd (omega (arith, all, few))

-- whether a task stays, as it is read
pub stays_read : (ss : List Slot) (i : ℕ) (d : Slot) → i < length ss → stays (get_or (map bare ss) i Ready) ≡ stays (bare (get_or ss i d))
stays_read [] i d low = absurd (omega (arith, low))
stays_read (s ∷ ss) zero d low = refl
stays_read (s ∷ ss) (suc i) d low = stays_read ss i d (omega (arith, low))
