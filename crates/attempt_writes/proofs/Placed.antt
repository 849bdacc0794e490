-- A variable is found by its place.
use Rattle.std.proofs.Common.{nat_lt, ◌≡◌, ◌≢◌, ℕ, zero, suc, ◌+◌, ◌<◌, ◌≤◌, Bool, true, false, List, [], ◌∷◌, ◌++◌, length, Option, Some, None, ℤ, refl, sym, ap, ◌∙◌, arith, ⊎_elim, ◌==◌, if◌then◌else◌, slice_get, slice_set}
use Rattle.std.proofs.lemmas.Bool.{ltb-true, ltb-false}
use Rattle.std.proofs.lemmas.Bool.Decides.{eqb_tells}
use Rattle.std.proofs.lemmas.List.{get_or-set_same, get_or-set_other}
use Rattle.std.proofs.lemmas.Option.{slice_get-get_or, slice_get_within, get_or_from_slice_get}
use Rattle.std.proofs.Math.ListN.{set, length-set}
use Rattle.txn_programs.specs.declared.ast.VarId.{VarId}
use Rattle.attempt_writes.specs.Known.{Known, known_at}
use Rattle.attempt_writes.specs.FarPlaces.{far_place}
use Rattle.attempt_writes.specs.Places.{ArePlaced, far_of, pair_value, placed_value}

pub same_number : (n : ℕ) → (n == n) ≡ true
same_number n = ⊎_elim (λ (t : ((n == n) ≡ true) × (n ≡ n)). t.0) (λ (t : ((n == n) ≡ false) × (n ≢ n)). absurd (t.1 refl)) (eqb_tells n n)

pub key_of : (m n : ℕ) → (m == n) ≡ true → m ≡ n
key_of m n e = ⊎_elim (λ (t : ((m == n) ≡ true) × (m ≡ n)). t.1) (λ (t : ((m == n) ≡ false) × (m ≢ n)). absurd (cc)) (eqb_tells m n)

pub other_of : (m n : ℕ) → (m == n) ≡ false → m ≢ n
other_of m n e = ⊎_elim (λ (t : ((m == n) ≡ true) × (m ≡ n)). absurd (cc)) (λ (t : ((m == n) ≡ false) × (m ≢ n)). t.1) (eqb_tells m n)

abbrev Found : ℕ → Known → List ℕ → VarId → ℤ → Type 0
Found i w places x v = (k : ℕ) × (slice_get places x.0 ≡ Some (i + k)) × (slice_get w k ≡ Some (x, v))

found_step : (i : ℕ) (p : VarId × ℤ) (rest : Known) (places : List ℕ) (x : VarId) (v : ℤ) (b : Bool) → x.0 < 256 → (p.0.0 == x.0) ≡ b → ArePlaced i (p ∷ rest) places
    → (if b then Some p.1 else known_at rest x) ≡ Some v → (known_at rest x ≡ Some v → Found (i + 1) rest places x v) → Found i (p ∷ rest) places x v
found_step i p rest places x v true lt same a e more =
    let key : p.0.0 ≡ x.0 = key_of p.0.0 x.0 same in
    let key' : p.0 ≡ x = ap (λ (n : ℕ). let y : VarId = record { 0 = n } in y) key in
    let value : p.1 ≡ v = cc in
    let here : i ≡ i + 0 = omega arith in
    let low : p.0.0 < 256 = omega (arith, key, lt) in
    (0, ap (λ n. slice_get places n) (sym key) ∙ a.0 low ∙ ap Some here, ap (λ (y : VarId). Some (y, p.1)) key' ∙ ap (λ (u : ℤ). Some (x, u)) value)
found_step i p rest places x v false lt same a e more =
    let r = more e in
    let there : i + 1 + r.0 ≡ i + suc r.0 = omega arith in
    (suc r.0, r.1 ∙ ap Some there, r.2)

found : (i : ℕ) (w : Known) (places : List ℕ) (x : VarId) (v : ℤ) → x.0 < 256 → ArePlaced i w places → known_at w x ≡ Some v → Found i w places x v
found i [] places x v lt a e = absurd (cc)
found i (p ∷ rest) places x v lt a e = found_step i p rest places x v (p.0.0 == x.0) lt refl a e (found (i + 1) rest places x v lt a.1)

pub none_here : (q : VarId × ℤ) (rest : Known) (x : VarId) (b : Bool) → (if b then Some q.1 else known_at rest x) ≡ None → (b ≡ false) × (known_at rest x ≡ None)
none_here q rest x true e = absurd (cc)
none_here q rest x false e = (refl, e)

apart_from : (w : Known) (x : VarId) (k : ℕ) (p : VarId × ℤ) → known_at w x ≡ None → slice_get w k ≡ Some p → (p.0.0 == x.0) ≡ false
apart_from [] x k p e g = absurd (cc)
apart_from (q ∷ rest) x zero p e g =
    let same : q ≡ p = cc in
    ap (λ (r : VarId × ℤ). r.0.0 == x.0) (sym same) ∙ (none_here q rest x (q.0.0 == x.0) e).0
apart_from (q ∷ rest) x (suc k) p e g = apart_from rest x k p (none_here q rest x (q.0.0 == x.0) e).1 g

none_of : (w : Known) (x : VarId) (k : ℕ) (o : Option (VarId × ℤ)) → known_at w x ≡ None → slice_get w k ≡ o → None ≡ pair_value o x
none_of w x k None e g = refl
none_of w x k (Some p) e g = ap (λ b. if b then Some p.1 else None) (sym (apart_from w x k p e g))

by_cases : (w : Known) (places : List ℕ) (x : VarId) (o : Option ℤ) (place : Option ℕ) → x.0 < 256 → known_at w x ≡ o → slice_get places x.0 ≡ place → ArePlaced 0 w places → o ≡ placed_value place w x
by_cases w places x None None lt e f a = refl
by_cases w places x None (Some k) lt e f a = none_of w x k (slice_get w k) e refl
by_cases w places x (Some v) None lt e f a = let r = found 0 w places x v lt a e in absurd (cc)
by_cases w places x (Some v) (Some k) lt e f a =
    let r = found 0 w places x v lt a e in
    let at : 0 + r.0 ≡ k = cc in
    let at' : r.0 ≡ k = omega (arith, at) in
    let here : slice_get w k ≡ Some (x, v) = ap (λ n. slice_get w n) (sym at') ∙ r.2 in
    ap (λ b. if b then Some v else None) (sym (same_number x.0)) ∙ ap (λ (o : Option (VarId × ℤ)). pair_value o x) (sym here)

-- the value of a variable of the table is that of the pair at its place
pub known_by_place : (w : Known) (places : List ℕ) (x : VarId) → x.0 < 256 → ArePlaced 0 w places → known_at w x ≡ placed_value (slice_get places x.0) w x
known_by_place w places x lt a = by_cases w places x (known_at w x) (slice_get places x.0) lt refl refl a

get_same : (places : List ℕ) (k n : ℕ) → k < length places → slice_get (slice_set places k n) k ≡ Some n
get_same places k n lt =
    let l : k < length (slice_set places k n) = omega (arith, lt, length-set places k n) in
    slice_get-get_or (slice_set places k n) k 0 l ∙ ap Some (get_or-set_same places k n 0 lt)

get_other : (places : List ℕ) (k n j i : ℕ) → j ≢ k → slice_get places j ≡ Some i → slice_get (slice_set places k n) j ≡ Some i
get_other places k n j i ne e =
    let lt = slice_get_within places j i e in
    let l : j < length (slice_set places k n) = omega (arith, lt, length-set places k n) in
    slice_get-get_or (slice_set places k n) j 0 l ∙ ap Some (get_or-set_other places k j n 0 ne ∙ get_or_from_slice_get places j i 0 e)

-- one more pair at the end, and its place
pub placed_more : (i : ℕ) (w : Known) (places : List ℕ) (x : VarId) (v : ℤ) (n : ℕ) → n ≡ i + length w → x.0 < length places → known_at w x ≡ None → ArePlaced i w places → ArePlaced i (w ++ (x, v) ∷ []) (slice_set places x.0 n)
placed_more i [] places x v n m lt e a =
    let at : n ≡ i = omega arith in
    (λ _. get_same places x.0 n lt ∙ ap Some at, tt)
placed_more i (p ∷ rest) places x v n m lt e a =
    let no = none_here p rest x (p.0.0 == x.0) e in
    let m' : n ≡ i + 1 + length rest = omega arith in
    (λ low. get_other places x.0 n p.0.0 i (other_of p.0.0 x.0 no.0) (a.0 low), placed_more (i + 1) rest places x v n m' lt no.1 a.1)

-- one more pair at the end that has no place in the table
pub placed_far : (i : ℕ) (w : Known) (places : List ℕ) (x : VarId) (v : ℤ) → 256 ≤ x.0 → ArePlaced i w places → ArePlaced i (w ++ (x, v) ∷ []) places
placed_far i [] places x v le a = (λ low. absurd (omega (arith, low, le)), tt)
placed_far i (p ∷ rest) places x v le a = (a.0, placed_far (i + 1) rest places x v le a.1)

passed : (b : Bool) (n m i : ℕ) (o : Option ℕ) → (n == m) ≡ b → n ≢ m → (if b then Some i else o) ≡ o
passed true n m i o e ne = absurd (ne (key_of n m e))
passed false n m i o e ne = refl

abbrev FarFound : ℕ → Known → VarId → ℤ → Type 0
FarFound i w x v = (k : ℕ) × (far_place (far_of i w) x.0 ≡ Some (i + k)) × (slice_get w k ≡ Some (x, v))

-- the places of the pairs behind one, and its own where it has none in the table
abbrev with_far : Bool → ℕ → ℕ → List (ℕ × ℕ) → List (ℕ × ℕ)
with_far near n i more = if near then more else (n, i) ∷ more

far_further : (i : ℕ) (p : VarId × ℤ) (rest : Known) (x : VarId) (v : ℤ) (near : Bool) → p.0.0 ≢ x.0 → FarFound (i + 1) rest x v
    → (k : ℕ) × (far_place (with_far near p.0.0 i (far_of (i + 1) rest)) x.0 ≡ Some (i + k)) × (slice_get (p ∷ rest) k ≡ Some (x, v))
far_further i p rest x v true ne r =
    let there : i + 1 + r.0 ≡ i + suc r.0 = omega arith in
    (suc r.0, r.1 ∙ ap Some there, r.2)
far_further i p rest x v false ne r =
    let there : i + 1 + r.0 ≡ i + suc r.0 = omega arith in
    (suc r.0, passed (p.0.0 == x.0) p.0.0 x.0 i _ refl ne ∙ r.1 ∙ ap Some there, r.2)

far_here : (i : ℕ) (p : VarId × ℤ) (rest : Known) (x : VarId) (v : ℤ) (near : Bool) → 256 ≤ x.0 → nat_lt p.0.0 256 ≡ near → p.0.0 ≡ x.0 → Some p.1 ≡ Some v
    → (k : ℕ) × (far_place (with_far near p.0.0 i (far_of (i + 1) rest)) x.0 ≡ Some (i + k)) × (slice_get (p ∷ rest) k ≡ Some (x, v))
far_here i p rest x v true le near key e =
    let low : p.0.0 < 256 = ltb-true p.0.0 256 near in
    absurd (omega (arith, low, key, le))
far_here i p rest x v false le near key e =
    let key' : p.0 ≡ x = ap (λ (n : ℕ). let y : VarId = record { 0 = n } in y) key in
    let value : p.1 ≡ v = cc in
    let here : i ≡ i + 0 = omega arith in
    (0, ap (λ b. if b then Some i else far_place (far_of (i + 1) rest) x.0) (ap (λ n. n == x.0) key ∙ same_number x.0) ∙ ap Some here, ap (λ (y : VarId). Some (y, p.1)) key' ∙ ap (λ (u : ℤ). Some (x, u)) value)

far_step : (i : ℕ) (p : VarId × ℤ) (rest : Known) (x : VarId) (v : ℤ) (b : Bool) → 256 ≤ x.0 → (p.0.0 == x.0) ≡ b → (if b then Some p.1 else known_at rest x) ≡ Some v
    → (known_at rest x ≡ Some v → FarFound (i + 1) rest x v) → FarFound i (p ∷ rest) x v
far_step i p rest x v true le same e more = far_here i p rest x v (nat_lt p.0.0 256) le refl (key_of p.0.0 x.0 same) e
far_step i p rest x v false le same e more = far_further i p rest x v (nat_lt p.0.0 256) (other_of p.0.0 x.0 same) (more e)

far_found : (i : ℕ) (w : Known) (x : VarId) (v : ℤ) → 256 ≤ x.0 → known_at w x ≡ Some v → FarFound i w x v
far_found i [] x v le e = absurd (cc)
far_found i (p ∷ rest) x v le e = far_step i p rest x v (p.0.0 == x.0) le refl e (far_found (i + 1) rest x v le)

far_cases : (w : Known) (x : VarId) (o : Option ℤ) (place : Option ℕ) → 256 ≤ x.0 → known_at w x ≡ o → far_place (far_of 0 w) x.0 ≡ place → o ≡ placed_value place w x
far_cases w x None None le e f = refl
far_cases w x None (Some k) le e f = none_of w x k (slice_get w k) e refl
far_cases w x (Some v) None le e f = let r = far_found 0 w x v le e in absurd (cc)
far_cases w x (Some v) (Some k) le e f =
    let r = far_found 0 w x v le e in
    let at : 0 + r.0 ≡ k = cc in
    let at' : r.0 ≡ k = omega (arith, at) in
    let here : slice_get w k ≡ Some (x, v) = ap (λ n. slice_get w n) (sym at') ∙ r.2 in
    ap (λ b. if b then Some v else None) (sym (same_number x.0)) ∙ ap (λ (o : Option (VarId × ℤ)). pair_value o x) (sym here)

-- the value of a far variable is that of the pair at its place
pub known_by_far : (w : Known) (x : VarId) → 256 ≤ x.0 → known_at w x ≡ placed_value (far_place (far_of 0 w) x.0) w x
known_by_far w x le = far_cases w x (known_at w x) (far_place (far_of 0 w) x.0) le refl refl

no_far_step : (i n m : ℕ) (rest : List (ℕ × ℕ)) (near : Bool) → n ≢ m → far_place rest m ≡ None → far_place (with_far near n i rest) m ≡ None
no_far_step i n m rest true ne h = h
no_far_step i n m rest false ne h = passed (n == m) n m i _ refl ne ∙ h

-- a variable that has no pair has no place
pub no_far : (i : ℕ) (w : Known) (x : VarId) → known_at w x ≡ None → far_place (far_of i w) x.0 ≡ None
no_far i [] x e = refl
no_far i (p ∷ rest) x e =
    let no = none_here p rest x (p.0.0 == x.0) e in
    no_far_step i p.0.0 x.0 (far_of (i + 1) rest) (nat_lt p.0.0 256) (other_of p.0.0 x.0 no.0) (no_far (i + 1) rest x no.1)

near_end : (i n m : ℕ) (near : Bool) → nat_lt n 256 ≡ near → n < 256 → with_far near n i [] ≡ []
near_end i n m true e lt = refl
near_end i n m false e lt = absurd (omega (arith, lt, ltb-false n 256 e))

far_end : (i n : ℕ) (near : Bool) → nat_lt n 256 ≡ near → 256 ≤ n → with_far near n i [] ≡ (n, i) ∷ []
far_end i n true e le = absurd (omega (arith, le, ltb-true n 256 e))
far_end i n false e le = refl

-- a pair that has a place in the table adds no other
pub far_of_near : (i : ℕ) (w : Known) (x : VarId) (v : ℤ) → x.0 < 256 → far_of i (w ++ (x, v) ∷ []) ≡ far_of i w
far_of_near i [] x v lt = near_end i x.0 0 (nat_lt x.0 256) refl lt
far_of_near i (p ∷ rest) x v lt = ap (with_far (nat_lt p.0.0 256) p.0.0 i) (far_of_near (i + 1) rest x v lt)

with_far_more : (near : Bool) (n i : ℕ) (a b : List (ℕ × ℕ)) → with_far near n i (a ++ b) ≡ with_far near n i a ++ b
with_far_more true n i a b = refl
with_far_more false n i a b = refl

-- a pair that has none adds its own
pub far_of_more : (i : ℕ) (w : Known) (x : VarId) (v : ℤ) (n : ℕ) → n ≡ i + length w → 256 ≤ x.0 → far_of i (w ++ (x, v) ∷ []) ≡ far_of i w ++ (x.0, n) ∷ []
far_of_more i [] x v n e le =
    let at : i ≡ n = omega arith in
    far_end i x.0 (nat_lt x.0 256) refl le ∙ ap (λ (k : ℕ). (x.0, k) ∷ []) at
far_of_more i (p ∷ rest) x v n e le =
    let at : n ≡ i + 1 + length rest = omega arith in
    ap (with_far (nat_lt p.0.0 256) p.0.0 i) (far_of_more (i + 1) rest x v n at le) ∙ with_far_more (nat_lt p.0.0 256) p.0.0 i (far_of (i + 1) rest) ((x.0, n) ∷ [])

far_few_step : (near : Bool) (n i m : ℕ) (a : List (ℕ × ℕ)) → length a ≤ m → length (with_far near n i a) ≤ suc m
far_few_step true n i m a le = omega (arith, le)
far_few_step false n i m a le = omega (arith, le)

-- there are no more far pairs than pairs
pub far_few : (i : ℕ) (w : Known) → length (far_of i w) ≤ length w
far_few i [] = omega arith
far_few i (p ∷ rest) = far_few_step (nat_lt p.0.0 256) p.0.0 i (length rest) (far_of (i + 1) rest) (far_few (i + 1) rest)
