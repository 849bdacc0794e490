-- A table of values by variable, and the ascending list of its pairs.
use Rattle.std.proofs.Common.{◌≡◌, ◌≢◌, ℕ, zero, suc, ◌+◌, ◌<◌, ◌≤◌, List, [], ◌∷◌, ◌++◌, length, Option, Some, None, ℤ, refl, sym, ap, ◌∙◌, subst, arith, ⊎_elim, true, false, ◌==◌, get_or, replicate, slice_get}
use Rattle.std.proofs.lemmas.Bool.{cases_lt}
use Rattle.std.proofs.lemmas.Bool.Decides.{nat_tests, eqb_tells}
use Rattle.std.proofs.Math.ListN.{set}
use Rattle.txn_programs.specs.declared.ast.VarId.{VarId}
use Rattle.attempt_writes.specs.Known.{Known, known_at, or_known, write}
use Rattle.attempt_writes.specs.Order.{AllAfter, AllKnown, Ascending}
use Rattle.attempt_writes.specs.Own.{flat, value_in, onto, listed, valued, IsListed, AreListed}
use Rattle.attempt_writes.proofs.InOrder.{known_past}
use Rattle.attempt_writes.proofs.Pairs.{Ascending-write, known_at-append}

pub get_same : {X : Type 0} (t : List X) (i : ℕ) (a : X) → i < length t → slice_get (set t i a) i ≡ Some a
get_same [] i a lt = absurd (omega arith)
get_same (y ∷ t) zero a lt = refl
get_same (y ∷ t) (suc i) a lt = get_same t i a (omega arith)

pub get_other : {X : Type 0} (t : List X) (i j : ℕ) (a : X) → j ≢ i → slice_get (set t i a) j ≡ slice_get t j
get_other [] i j a ne = refl
get_other (y ∷ t) zero zero a ne = absurd (ne refl)
get_other (y ∷ t) zero (suc j) a ne = refl
get_other (y ∷ t) (suc i) zero a ne = refl
get_other (y ∷ t) (suc i) (suc j) a ne = get_other t i j a (λ e. ne (ap suc e))

-- the two cases of two numbers
pub same_or_other : {G : Type 0} (m n : ℕ) → (m ≡ n → G) → (m ≢ n → G) → G
same_or_other m n f g = ⊎_elim (λ (t : (m == n ≡ true) × (m ≡ n)). f t.1) (λ (t : (m == n ≡ false) × (m ≢ n)). g t.1) (eqb_tells m n)

pub same_id : (x y : VarId) → x.0 ≡ y.0 → x ≡ y
same_id x y e = ap (λ (n : ℕ). let z : VarId = record { 0 = n } in z) e

pub known_here : (p : VarId × ℤ) (rest : Known) (x : VarId) → p.0.0 ≡ x.0 → known_at (p ∷ rest) x ≡ Some p.1
known_here p rest x e = grind (arith, nat_tests)

pub none_after : (w : Known) (y x : VarId) → x.0 ≤ y.0 → AllAfter y w → known_at w x ≡ None
none_after [] y x le a = refl
none_after (p ∷ rest) y x le a =
    let ne : p.0.0 ≢ x.0 = λ e. omega (arith, e, le, a.0) in
    known_past p rest x ne ∙ none_after rest y x le a.1

known_onto : (x : VarId) (o : Option ℤ) (rest : Known) (y : VarId) → x.0 ≢ y.0 → known_at (onto x o rest) y ≡ known_at rest y
known_onto x None rest y ne = refl
known_onto x (Some v) rest y ne = known_past (x, v) rest y ne

known_onto_here : (x : VarId) (o : Option ℤ) (rest : Known) (y : VarId) → x.0 ≡ y.0 → AllAfter x rest → known_at (onto x o rest) y ≡ o
known_onto_here x None rest y e a =
    let le : y.0 ≤ x.0 = omega (arith, e) in
    none_after rest x y le a
known_onto_here x (Some v) rest y e a = known_here (x, v) rest y e

after_onto : (y x : VarId) (o : Option ℤ) (rest : Known) → y.0 < x.0 → AllAfter y rest → AllAfter y (onto x o rest)
after_onto y x None rest lt a = a
after_onto y x (Some v) rest lt a = (lt, a)

ascending_onto : (x : VarId) (o : Option ℤ) (rest : Known) → AllAfter x rest → Ascending rest → Ascending (onto x o rest)
ascending_onto x None rest a s = s
ascending_onto x (Some v) rest a s = (a, s)

listed_after : (i : ℕ) (t : List (Option ℤ)) (y : VarId) → y.0 < i → AllAfter y (listed i t)
listed_after i [] y lt = tt
listed_after i (o ∷ t) y lt = after_onto y (record { 0 = i }) o (listed (i + 1) t) lt (listed_after (i + 1) t y (omega arith))

ascending_from : (i : ℕ) (t : List (Option ℤ)) → Ascending (listed i t)
ascending_from i [] = tt
ascending_from i (o ∷ t) = ascending_onto (record { 0 = i }) o (listed (i + 1) t) (listed_after (i + 1) t (record { 0 = i }) (omega arith)) (ascending_from (i + 1) t)

pub listed_ascending : (t : List (Option ℤ)) → Ascending (listed 0 t)
listed_ascending t = ascending_from 0 t

known_from : (i : ℕ) (t : List (Option ℤ)) (x : VarId) (j : ℕ) → x.0 ≡ i + j → known_at (listed i t) x ≡ flat (slice_get t j)
known_from i [] x j e = refl
known_from i (o ∷ t) x zero e =
    let here : i ≡ x.0 = omega (arith, e) in
    known_onto_here (record { 0 = i }) o (listed (i + 1) t) x here (listed_after (i + 1) t (record { 0 = i }) (omega arith))
known_from i (o ∷ t) x (suc j) e =
    let ne : i ≢ x.0 = λ same. omega (arith, e, same) in
    let there : x.0 ≡ i + 1 + j = omega (arith, e) in
    known_onto (record { 0 = i }) o (listed (i + 1) t) x ne ∙ known_from (i + 1) t x j there

-- a variable's own write is what the table has
pub known_listed : (t : List (Option ℤ)) (x : VarId) → known_at (listed 0 t) x ≡ value_in t x
known_listed t x =
    let here : x.0 ≡ 0 + x.0 = omega arith in
    known_from 0 t x x.0 here

first_first : (p q : VarId × ℤ) (a b : Known) → Ascending (p ∷ a) → Ascending (q ∷ b) → known_at (p ∷ a) p.0 ≡ known_at (q ∷ b) p.0 → q.0.0 ≤ p.0.0
first_first p q a b s r h =
    ⊎_elim
    (λ (lt : p.0.0 < q.0.0).
    let ne : q.0.0 ≢ p.0.0 = λ e. omega (arith, e, lt) in
    let le : p.0.0 ≤ q.0.0 = omega (arith, lt) in
    let e = sym (known_here p a p.0 refl) ∙ h ∙ known_past q b p.0 ne ∙ none_after b q.0 p.0 le r.0 in
    absurd (cc))
    (λ (le : q.0.0 ≤ p.0.0). le)
    (cases_lt p.0.0 q.0.0)

-- ascending lists are the same where each variable has the same value
pub ascending_same : (a b : Known) → Ascending a → Ascending b → ((x : VarId) → known_at a x ≡ known_at b x) → a ≡ b
ascending_same [] [] s r h = refl
ascending_same [] (q ∷ b) s r h = let e = h q.0 ∙ known_here q b q.0 refl in absurd (cc)
ascending_same (p ∷ a) [] s r h = let e = sym (known_here p a p.0 refl) ∙ h p.0 in absurd (cc)
ascending_same (p ∷ a) (q ∷ b) s r h =
    let le = first_first p q a b s r (h p.0) in
    let ge = first_first q p b a r s (sym (h q.0)) in
    let key : p.0.0 ≡ q.0.0 = omega (arith, le, ge) in
    let value : Some p.1 ≡ Some q.1 = sym (known_here p a p.0 refl) ∙ h p.0 ∙ known_here q b p.0 (sym key) in
    let id = same_id p.0 q.0 key in
    let number : p.1 ≡ q.1 = cc in
    let head : p ≡ q = ap (λ (y : VarId). (y, p.1)) id ∙ ap (λ (v : ℤ). (q.0, v)) number in
    let rest = ascending_same a b s.1 r.1 (λ x. same_or_other p.0.0 x.0
    (λ e. let low : x.0 ≤ p.0.0 = omega (arith, e) in let low' : x.0 ≤ q.0.0 = omega (arith, e, key) in none_after a p.0 x low s.0 ∙ sym (none_after b q.0 x low' r.0))
    (λ ne. let ne' : q.0.0 ≢ x.0 = λ e. ne (key ∙ e) in sym (known_past p a x ne) ∙ h x ∙ known_past q b x ne')) in
    ap (λ l. p ∷ l) rest ∙ ap (λ (d : VarId × ℤ). d ∷ b) head

here_step : (p : VarId × ℤ) (rest : Known) (x : VarId) (v : ℤ) → known_at (write rest x v) x ≡ Some v → known_at (write (p ∷ rest) x v) x ≡ Some v
here_step p rest x v h = grind (arith, nat_tests)

pub known_write : (w : Known) (x : VarId) (v : ℤ) → known_at (write w x v) x ≡ Some v
known_write [] x v = known_here (x, v) [] x refl
known_write (p ∷ rest) x v = here_step p rest x v (known_write rest x v)

other_step : (p : VarId × ℤ) (rest : Known) (x : VarId) (v : ℤ) (y : VarId) → x.0 ≢ y.0 → known_at (write rest x v) y ≡ known_at rest y → known_at (write (p ∷ rest) x v) y ≡ known_at (p ∷ rest) y
other_step p rest x v y ne h = grind (arith, nat_tests)

pub known_other : (w : Known) (x : VarId) (v : ℤ) (y : VarId) → x.0 ≢ y.0 → known_at (write w x v) y ≡ known_at w y
known_other [] x v y ne = known_past (x, v) [] y ne
known_other (p ∷ rest) x v y ne = other_step p rest x v y ne (known_other rest x v y ne)

-- a value that is put into a table is a write
pub listed_write : (t : List (Option ℤ)) (x : VarId) (v : ℤ) → x.0 < length t → listed 0 (set t x.0 (Some v)) ≡ write (listed 0 t) x v
listed_write t x v lt =
    ascending_same (listed 0 (set t x.0 (Some v))) (write (listed 0 t) x v) (listed_ascending (set t x.0 (Some v))) (Ascending-write (listed 0 t) x v (listed_ascending t))
    (λ y. known_listed (set t x.0 (Some v)) y ∙ same_or_other x.0 y.0
    (λ e. ap (λ k. flat (slice_get (set t x.0 (Some v)) k)) (sym e) ∙ ap flat (get_same t x.0 (Some v) lt) ∙ sym (known_write (listed 0 t) x v) ∙ ap (λ (z : VarId). known_at (write (listed 0 t) x v) z) (same_id x y e))
    (λ ne. ap flat (get_other t x.0 y.0 (Some v) (λ e. ne (sym e))) ∙ sym (known_listed t y) ∙ sym (known_other (listed 0 t) x v y ne)))

-- no variable is listed, and so none has a value
pub listed_nothing : (t : List (Option ℤ)) → AreListed [] t → listed 0 t ≡ []
listed_nothing t h = ascending_same (listed 0 t) [] (listed_ascending t) tt (λ x. known_listed t x ∙ at x (value_in t x) refl)
  where
    at : (x : VarId) (o : Option ℤ) → value_in t x ≡ o → value_in t x ≡ None
    at x None e = e
    at x (Some v) e = let p = h x v e in absurd (cc p.1)

get_nothing : (n i : ℕ) → flat (slice_get (replicate n None) i) ≡ None
get_nothing zero i = refl
get_nothing (suc n) zero = refl
get_nothing (suc n) (suc i) = get_nothing n i

-- a new table
pub new_listed : (n : ℕ) → AreListed [] (replicate n None)
new_listed n x v e = let none = get_nothing n x.0 in absurd (cc)

after_valued : (y : VarId) (w : Known) (t : List (Option ℤ)) → AllAfter y w → AllAfter y (valued w t)
after_valued y [] t a = tt
after_valued y (p ∷ w) t a = after_onto y p.0 (value_in t p.0) (valued w t) a.0 (after_valued y w t a.1)

ascending_valued : (w : Known) (t : List (Option ℤ)) → Ascending w → Ascending (valued w t)
ascending_valued [] t s = tt
ascending_valued (p ∷ w) t s = ascending_onto p.0 (value_in t p.0) (valued w t) (after_valued p.0 w t s.0) (ascending_valued w t s.1)

valued_some : (w : Known) (t : List (Option ℤ)) (x : VarId) (p : ℤ) → Ascending w → known_at w x ≡ Some p → known_at (valued w t) x ≡ value_in t x
valued_some [] t x p s e = absurd (cc)
valued_some (q ∷ w) t x p s e = same_or_other q.0.0 x.0
    (λ same. known_onto_here q.0 (value_in t q.0) (valued w t) x same (after_valued q.0 w t s.0) ∙ ap (λ k. flat (slice_get t k)) same)
    (λ ne. known_onto q.0 (value_in t q.0) (valued w t) x ne ∙ valued_some w t x p s.1 (sym (known_past q w x ne) ∙ e))

-- a variable that is not known is another than the first that is
other_head : (p : VarId × ℤ) (rest : Known) (x : VarId) → known_at (p ∷ rest) x ≡ None → (p.0.0 ≢ x.0) × (known_at rest x ≡ None)
other_head p rest x e =
    let ne : p.0.0 ≢ x.0 = λ same. let never = sym (known_here p rest x same) ∙ e in absurd (cc never) in
    (ne, sym (known_past p rest x ne) ∙ e)

valued_none : (w : Known) (t : List (Option ℤ)) (x : VarId) → known_at w x ≡ None → known_at (valued w t) x ≡ None
valued_none [] t x e = refl
valued_none (q ∷ w) t x e =
    let other = other_head q w x e in
    known_onto q.0 (value_in t q.0) (valued w t) x other.0 ∙ valued_none w t x other.1

-- the listed variables with their values are all that have one
pub valued_listed : (w : Known) (t : List (Option ℤ)) → Ascending w → AreListed w t → valued w t ≡ listed 0 t
valued_listed w t s h = ascending_same (valued w t) (listed 0 t) (ascending_valued w t s) (listed_ascending t) (λ x. at x (known_at w x) (value_in t x) refl refl ∙ sym (known_listed t x))
  where
    at : (x : VarId) (o u : Option ℤ) → known_at w x ≡ o → value_in t x ≡ u → known_at (valued w t) x ≡ value_in t x
    at x (Some p) u e f = valued_some w t x p s e
    at x None None e f = valued_none w t x e ∙ sym f
    at x None (Some v) e f = let p = h x v f in let never = sym e ∙ p.1 in absurd (cc)

-- what is listed from a table is listed
pub listed_all : (t : List (Option ℤ)) → AreListed (listed 0 t) t
listed_all t x v e = (v, known_listed t x ∙ e)

pub known_small : (n : ℕ) (w : Known) (x : VarId) → AllKnown n w → IsListed w x → x.0 < n
known_small n [] x k l = let e = l.1 in absurd (cc)
known_small n (p ∷ w) x k l = same_or_other p.0.0 x.0
    (λ e. let lt = k.0 in omega (arith, e, lt))
    (λ ne. known_small n w x k.1 (l.0, sym (known_past p w x ne) ∙ l.1))

known_onto_all : (n : ℕ) (x : VarId) (o : Option ℤ) (rest : Known) → x.0 < n → AllKnown n rest → AllKnown n (onto x o rest)
known_onto_all n x None rest lt k = k
known_onto_all n x (Some v) rest lt k = (lt, k)

pub known_valued : (n : ℕ) (w : Known) (t : List (Option ℤ)) → AllKnown n w → AllKnown n (valued w t)
known_valued n [] t k = tt
known_valued n (p ∷ w) t k = known_onto_all n p.0 (value_in t p.0) (valued w t) k.0 (known_valued n w t k.1)

-- a variable that is written is listed, as the others are
pub still_listed : (w : Known) (x : VarId) (v : ℤ) (y : VarId) → IsListed w y → IsListed (write w x v) y
still_listed w x v y l = same_or_other x.0 y.0
    (λ e. (v, ap (λ (z : VarId). known_at (write w x v) z) (sym (same_id x y e)) ∙ known_write w x v))
    (λ ne. (l.0, known_other w x v y ne ∙ l.1))

-- the table after a change at a listed variable, with more pairs
pub put_listed : (w : Known) (t : List (Option ℤ)) (x : VarId) (o : Option ℤ) (u : Known) → AreListed w t → IsListed u x → ((y : VarId) → IsListed w y → IsListed u y) → AreListed u (set t x.0 o)
put_listed w t x o u h here still y b e = same_or_other x.0 y.0
    (λ same. subst (IsListed u) (same_id x y same) here)
    (λ ne. still y (h y b (sym (ap flat (get_other t x.0 y.0 o (λ s. ne (sym s)))) ∙ e)))

-- what is not the last pair's variable is listed before it
listed_before : (w : Known) (p : VarId × ℤ) (y : VarId) → p.0.0 ≢ y.0 → IsListed (w ++ p ∷ []) y → IsListed w y
listed_before w p y ne l = (l.0, first (known_at w y) l.0 (ap (or_known (known_at w y)) (sym (known_past p [] y ne)) ∙ (sym (known_at-append w p.0 p.1 y) ∙ l.1)))
  where
    first : (o : Option ℤ) (v : ℤ) → or_known o None ≡ Some v → o ≡ Some v
    first None v e = e
    first (Some u) v e = e

-- the table without the last pair's value
pub forget_listed : (w : Known) (p : VarId × ℤ) (t : List (Option ℤ)) → p.0.0 < length t → AreListed (w ++ p ∷ []) t → AreListed w (set t p.0.0 None)
forget_listed w p t lt h y b e = same_or_other p.0.0 y.0
    (λ same. let none = ap flat (get_same t p.0.0 None lt) in let e' = sym none ∙ ap (λ k. flat (slice_get (set t p.0.0 None) k)) same ∙ e in absurd (cc e'))
    (λ ne. listed_before w p y ne (h y b (sym (ap flat (get_other t p.0.0 y.0 None (λ s. ne (sym s)))) ∙ e)))

pub known_but_last : (n : ℕ) (w : Known) (p : VarId × ℤ) → AllKnown n (w ++ p ∷ []) → AllKnown n w × (p.0.0 < n)
known_but_last n [] p k = (tt, k.0)
known_but_last n (q ∷ w) p k = let rest = known_but_last n w p k.1 in ((k.0, rest.0), rest.1)

pub value_or : (t : List (Option ℤ)) (i : ℕ) → flat (slice_get t i) ≡ get_or t i None
value_or [] i = refl
value_or (o ∷ t) zero = refl
value_or (o ∷ t) (suc i) = value_or t i

same_tested : (m n : ℕ) → (m == n) ≡ true → m ≡ n
same_tested m n e = ⊎_elim (λ (t : (m == n ≡ true) × (m ≡ n)). t.1) (λ (t : (m == n ≡ false) × (m ≢ n)). absurd (cc)) (eqb_tells m n)

-- where no variable is listed nothing is written
pub unwritten : (w : Known) (t : List (Option ℤ)) → (length w == 0) ≡ true → AreListed w t → w ≡ listed 0 t
unwritten [] t e h = sym (listed_nothing t h)
unwritten (p ∷ w) t e h = let none = same_tested (length (p ∷ w)) 0 e in absurd (omega (arith, none))

-- where no variable is listed none has a value
pub empty_known : (w : Known) (t : List (Option ℤ)) (x : VarId) → (length w == 0) ≡ true → AreListed w t → None ≡ known_at (listed 0 t) x
empty_known [] t x e h = ap (λ (l : Known). known_at l x) (sym (listed_nothing t h))
empty_known (p ∷ w) t x e h = let none = same_tested (length (p ∷ w)) 0 e in absurd (omega (arith, none))
