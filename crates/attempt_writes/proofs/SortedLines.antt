-- Lines as pairs: those that are sorted are what is gathered of them.
use Rattle.std.proofs.Common.{◌≡◌, ◌≢◌, ℕ, zero, suc, ◌+◌, ◌<◌, ◌≤◌, false, List, [], ◌∷◌, ◌++◌, length, Option, Some, None, ℤ, refl, sym, ap, ◌∙◌, subst, arith, ◌-◌, append_assoc, length-append, take, eqb, drop, get_or, slice_get, map}
use Rattle.std.specs.List.{AllByRecursion, IsDistinct, Contains}
use Rattle.std.specs.List.Sorted.{IsPermutation, IsNonDecreasingBy}
use Rattle.std.proofs.lemmas.List.Sorted.{IsPermutation-sym, IsPermutation-map, Contains-permutation}
use Rattle.std.proofs.lemmas.Map.Keys.{IsDistinct-IsPermutation}
use Rattle.std.proofs.lemmas.Option.{slice_get-get_or, slice_get_within, get_or_from_slice_get}
use Rattle.std.proofs.Math.Seq.{drop-append_seam, take-append_seam}
use Rattle.txn_programs.specs.declared.ast.VarId.{VarId}
use Rattle.attempt_writes.specs.FarWrites.{gathered, in_lines, listed_if, written_if}
use Rattle.attempt_writes.specs.Known.{Known, known_at}
use Rattle.attempt_writes.specs.Order.{Ascending, AllAfter}
use Rattle.attempt_writes.proofs.FarLines.{gathered_ascending, known_last}
use Rattle.attempt_writes.proofs.Indexed.{apart, all_at, not_apart}
use Rattle.attempt_writes.proofs.InOrder.{known_past}
use Rattle.attempt_writes.proofs.OwnTable.{ascending_same, known_here, known_other, same_id, same_or_other}

-- the numbers of pairs
abbrev pub keys : Known → List ℕ
keys w = map (λ (p : VarId × ℤ). p.0.0) w

if_same : (n : ℕ) (o : Option ℤ) (a b : Known) (x : VarId) → known_at a x ≡ known_at b x → known_at (listed_if n o a) x ≡ known_at (written_if n o b) x
if_same n None a b x e = e
if_same n (Some v) a b x e = same_or_other n x.0
    (λ s. known_here (record { 0 = n }, v) a x s ∙ sym (known_last b (record { 0 = n }) x v s))
    (λ ne. known_past (record { 0 = n }, v) a x ne ∙ e ∙ sym (known_other b (record { 0 = n }) v x ne))

-- each variable has in lines the value that is gathered
in_lines_known : (ns : List ℕ) (os : List (Option ℤ)) (x : VarId) → known_at (in_lines ns os) x ≡ known_at (gathered ns os) x
in_lines_known [] os x = refl
in_lines_known (n ∷ ns) [] x = refl
in_lines_known (n ∷ ns) (o ∷ os) x = if_same n o (in_lines ns os) (gathered ns os) x (in_lines_known ns os x)

all_listed : (P : ℕ → Type 0) (n : ℕ) (o : Option ℤ) (w : Known) → P n → AllByRecursion P (keys w) → AllByRecursion P (keys (listed_if n o w))
all_listed P n None w p a = a
all_listed P n (Some v) w p a = (p, a)

all_lines : (P : ℕ → Type 0) (ns : List ℕ) (os : List (Option ℤ)) → AllByRecursion P ns → AllByRecursion P (keys (in_lines ns os))
all_lines P [] os a = tt
all_lines P (n ∷ ns) [] a = tt
all_lines P (n ∷ ns) (o ∷ os) a = all_listed P n o (in_lines ns os) a.0 (all_lines P ns os a.1)

distinct_listed : (n : ℕ) (o : Option ℤ) (w : Known) → AllByRecursion (λ y. eqb n y ≡ false) (keys w) → IsDistinct eqb (keys w) → IsDistinct eqb (keys (listed_if n o w))
unfolding IsDistinct
distinct_listed n None w a d = d
distinct_listed n (Some v) w a d = (a, d)

pub distinct_lines : (ns : List ℕ) (os : List (Option ℤ)) → IsDistinct eqb ns → IsDistinct eqb (keys (in_lines ns os))
unfolding IsDistinct
distinct_lines [] os d = tt
distinct_lines (n ∷ ns) [] d = tt
distinct_lines (n ∷ ns) (o ∷ os) d = distinct_listed n o (in_lines ns os) (all_lines (λ y. eqb n y ≡ false) ns os d.0) (distinct_lines ns os d.1)

first_distinct : (p : VarId × ℤ) (w : Known) → IsDistinct eqb (keys (p ∷ w)) → AllByRecursion (λ y. eqb p.0.0 y ≡ false) (keys w) × IsDistinct eqb (keys w)
unfolding IsDistinct
first_distinct p w d = d

after_all : (x : VarId) (w : Known) → ((j : ℕ) (d : VarId × ℤ) → j < length w → x.0 ≤ (get_or w j d).0.0) → AllByRecursion (λ y. eqb x.0 y ≡ false) (keys w) → AllAfter x w
after_all x [] h a = tt
after_all x (q ∷ w) h a =
    let le : x.0 ≤ q.0.0 = h 0 q (omega arith) in
    let ne : x.0 ≢ q.0.0 = λ e. not_apart q.0.0 (subst (λ (n : ℕ). eqb n q.0.0 ≡ false) e a.0) in
    (omega (arith, le, ne), after_all x w (λ j d lt. h (suc j) d (omega (arith, lt))) a.1)

-- pairs of distinct variables that do not fall ascend
ascending_from : (w : Known) → IsNonDecreasingBy (λ (p : VarId × ℤ). p.0.0) w → IsDistinct eqb (keys w) → Ascending w
ascending_from [] s d = tt
ascending_from (p ∷ w) s d =
    let r = first_distinct p w d in
    (after_all p.0 w (λ j e lt. s 0 (suc j) e (omega arith) (omega (arith, lt))) r.0, ascending_from w (λ i j e le lt. s (suc i) (suc j) e (omega (arith, le)) (omega (arith, lt))) r.1)

get_known : (w : Known) (k : ℕ) (p : VarId × ℤ) → IsDistinct eqb (keys w) → slice_get w k ≡ Some p → known_at w p.0 ≡ Some p.1
get_known [] k p d e = absurd (cc)
get_known (q ∷ w) zero p d e =
    let same : q ≡ p = cc in
    known_here q w p.0 (ap (λ (r : VarId × ℤ). r.0.0) same) ∙ ap (λ (r : VarId × ℤ). Some r.1) same
get_known (q ∷ w) (suc k) p d e =
    let r = first_distinct q w d in
    let there : slice_get (keys w) k ≡ Some p.0.0 = get_key w k p e in
    let ne : q.0.0 ≢ p.0.0 = λ s. not_apart p.0.0 (subst (λ (n : ℕ). eqb n p.0.0 ≡ false) s (all_at (λ y. eqb q.0.0 y ≡ false) (keys w) k p.0.0 r.0 there)) in
    known_past q w p.0 ne ∙ get_known w k p r.1 e
  where
    get_key : (w : Known) (k : ℕ) (p : VarId × ℤ) → slice_get w k ≡ Some p → slice_get (keys w) k ≡ Some p.0.0
    get_key [] k p e = absurd (cc)
    get_key (q ∷ w) zero p e = let same : q ≡ p = cc in ap (λ (r : VarId × ℤ). Some r.0.0) same
    get_key (q ∷ w) (suc k) p e = get_key w k p e

contains_known : (w : Known) (p : VarId × ℤ) → IsDistinct eqb (keys w) → Contains w p → known_at w p.0 ≡ Some p.1
contains_known w p d h = get_known w h.0 p d (slice_get-get_or w h.0 p h.1 ∙ ap Some h.2)

abbrev Has : Known → VarId × ℤ → Type 0
Has w p = (k : ℕ) × (slice_get w k ≡ Some p)

has_step : (q : VarId × ℤ) (w : Known) (x : VarId) (v : ℤ) → known_at (q ∷ w) x ≡ Some v → (known_at w x ≡ Some v → Has w (x, v)) → Has (q ∷ w) (x, v)
has_step q w x v e more = same_or_other q.0.0 x.0
    (λ s.
    let value : Some q.1 ≡ Some v = sym (known_here q w x s) ∙ e in
    let number : q.1 ≡ v = cc in
    (zero, ap (λ (y : VarId). Some (y, q.1)) (same_id q.0 x s) ∙ ap (λ (u : ℤ). Some (x, u)) number))
    (λ ne. let r = more (sym (known_past q w x ne) ∙ e) in (suc r.0, r.1))

has_known : (w : Known) (x : VarId) (v : ℤ) → known_at w x ≡ Some v → Has w (x, v)
has_known [] x v e = absurd (cc)
has_known (q ∷ w) x v e = has_step q w x v e (has_known w x v)

contains_has : (w : Known) (x : VarId) (v : ℤ) → known_at w x ≡ Some v → Contains w (x, v)
contains_has w x v e =
    let h = has_known w x v e in
    (h.0, slice_get_within w h.0 (x, v) h.1, get_or_from_slice_get w h.0 (x, v) (x, v) h.1)

moved_known : (a b : Known) (x : VarId) (o q : Option ℤ) → IsDistinct eqb (keys a) → IsDistinct eqb (keys b) → IsPermutation a b → known_at a x ≡ o → known_at b x ≡ q → q ≡ o
moved_known a b x None None d e p f g = refl
moved_known a b x None (Some v) d e p f g =
    let back = contains_known a (x, v) d (Contains-permutation b a (x, v) (IsPermutation-sym a b p) (contains_has b x v g)) in
    absurd (cc)
moved_known a b x (Some v) q d e p f g =
    sym g ∙ contains_known b (x, v) e (Contains-permutation a b (x, v) p (contains_has a x v f))

flips : (x y : ℕ) → eqb x y ≡ eqb y x
flips x y = same_or_other x y (λ e. ap (λ n. eqb n y) e ∙ ap (λ n. eqb y n) (sym e)) (λ ne. apart x y ne ∙ sym (apart y x (λ e. ne (sym e))))

-- lines that were sorted are what is gathered
pub sorted_same : (ns : List ℕ) (os : List (Option ℤ)) (w : Known) → IsDistinct eqb ns → IsPermutation (in_lines ns os) w → IsNonDecreasingBy (λ (p : VarId × ℤ). p.0.0) w → w ≡ gathered ns os
sorted_same ns os w d p s =
    let l = in_lines ns os in
    let dl = distinct_lines ns os d in
    let dw = IsDistinct-IsPermutation eqb flips (keys l) (keys w) (IsPermutation-map (λ (q : VarId × ℤ). q.0.0) l w p) dl in
    ascending_same w (gathered ns os) (ascending_from w s dw) (gathered_ascending ns os)
    (λ x. moved_known l w x (known_at l x) (known_at w x) dl dw p refl refl ∙ in_lines_known ns os x)

drop_here : {X : Type 0} (l : List X) (k : ℕ) (d : X) → k < length l → drop k l ≡ get_or l k d ∷ drop (k + 1) l
drop_here [] k d lt = absurd (omega (arith, lt))
drop_here (x ∷ l) zero d lt = refl
drop_here (x ∷ l) (suc k) d lt =
    let next : suc (k + 1) ≡ suc k + 1 = omega arith in
    drop_here l k d (omega (arith, lt)) ∙ ap (λ n. get_or l k d ∷ drop n (x ∷ l)) next

-- the lines from one on begin with it
pub line_here : (ns : List ℕ) (os : List (Option ℤ)) (k : ℕ) → k < length ns → length os ≡ length ns → in_lines (drop k ns) (drop k os) ≡ listed_if (get_or ns k 0) (get_or os k None) (in_lines (drop (k + 1) ns) (drop (k + 1) os))
line_here ns os k lt e =
    ap (λ (l : List ℕ). in_lines l (drop k os)) (drop_here ns k 0 lt)
    ∙ ap (in_lines (get_or ns k 0 ∷ drop (k + 1) ns)) (drop_here os k None (omega (arith, lt, e)))

-- a list whose back comes to the front
pub rotated : (s old near : Known) (m k : ℕ) → s ≡ old ++ near → m ≡ length s - k → k ≡ length near → drop m s ++ take m s ≡ near ++ old
rotated s old near m k e at len =
    let long : length s ≡ length (old ++ near) = ap length e in
    let here : m ≡ length old = omega (arith, at, len, long, length-append old near) in
    ap (λ n. drop n s ++ take n s) here ∙ ap (λ (l : Known). drop (length old) l ++ take (length old) l) e
    ∙ ap (λ (l : Known). l ++ take (length old) (old ++ near)) (drop-append_seam old near)
    ∙ ap (λ (l : Known). near ++ l) (take-append_seam old near)

-- a line that was listed, and the lines behind it
pub listed_on : (a : Known) (n : ℕ) (o : Option ℤ) (rest : Known) → (a ++ listed_if n o []) ++ rest ≡ a ++ listed_if n o rest
listed_on a n None rest = append_assoc a [] rest
listed_on a n (Some v) rest = let y : VarId = record { 0 = n } in append_assoc a ((y, v) ∷ []) rest
