-- Numbers with a place each: the place is found, and one more comes behind.
use Rattle.std.proofs.Common.{◌≡◌, ◌≢◌, ℕ, zero, suc, Bool, true, false, List, [], ◌∷◌, ◌++◌, length, Option, Some, None, refl, sym, ap, ◌∙◌, arith, ◌==◌, if◌then◌else◌, slice_get}
use Rattle.std.specs.Prelude.{IfSome}
use Rattle.attempt_writes.specs.NumberIndex.{IsAbsent}
use Rattle.attempt_writes.specs.FarPlaces.{far_place, with_places}
use Rattle.attempt_writes.proofs.Placed.{key_of, same_number}

pub length_with_places : (ns ps : List ℕ) → length ps ≡ length ns → length (with_places ns ps) ≡ length ns
length_with_places [] ps e = refl
length_with_places (n ∷ ns) [] e = absurd (omega (arith, e))
length_with_places (n ∷ ns) (p ∷ ps) e = let h : length ps ≡ length ns = omega (arith, e) in ap suc (length_with_places ns ps h)

pub more_with_places : (ns ps : List ℕ) (n p : ℕ) → length ps ≡ length ns → with_places (ns ++ n ∷ []) (ps ++ p ∷ []) ≡ with_places ns ps ++ (n, p) ∷ []
more_with_places [] [] n p e = refl
more_with_places [] (q ∷ ps) n p e = absurd (omega (arith, e))
more_with_places (m ∷ ns) [] n p e = absurd (omega (arith, e))
more_with_places (m ∷ ns) (q ∷ ps) n p e = let h : length ps ≡ length ns = omega (arith, e) in ap (λ (rest : List (ℕ × ℕ)). (m, q) ∷ rest) (more_with_places ns ps n p h)

absent_step : (b : Bool) (m q n : ℕ) (o : Option ℕ) → (m == n) ≡ b → (if b then Some q else o) ≡ None → (m ≢ n) × (o ≡ None)
absent_step true m q n o e h = absurd (cc)
absent_step false m q n o e h = (λ (s : m ≡ n). absurd (cc (ap (λ k. k == n) s, same_number n)), h)

absent_at : (ns ps : List ℕ) (n k : ℕ) → length ps ≡ length ns → far_place (with_places ns ps) n ≡ None → slice_get ns k ≢ Some n
absent_at [] ps n k e h g = absurd (cc)
absent_at (m ∷ ns) [] n k e h g = absurd (omega (arith, e))
absent_at (m ∷ ns) (q ∷ ps) n zero e h g = (absent_step (m == n) m q n _ refl h).0 (cc)
absent_at (m ∷ ns) (q ∷ ps) n (suc k) e h g =
    let shorter : length ps ≡ length ns = omega (arith, e) in
    absent_at ns ps n k shorter (absent_step (m == n) m q n _ refl h).1 g

-- a number with no place is not there
pub absent_far : (ns ps : List ℕ) (n : ℕ) → length ps ≡ length ns → far_place (with_places ns ps) n ≡ None → IsAbsent ns n
absent_far ns ps n e h = λ k. absent_at ns ps n k e h

none_step : (b : Bool) (m q n : ℕ) (o : Option ℕ) → (m == n) ≡ b → m ≢ n → o ≡ None → (if b then Some q else o) ≡ None
none_step true m q n o e ne h = absurd (ne (key_of m n e))
none_step false m q n o e ne h = h

-- a number that is not there has no place
pub far_absent : (ns ps : List ℕ) (n : ℕ) → IsAbsent ns n → far_place (with_places ns ps) n ≡ None
far_absent [] ps n h = refl
far_absent (m ∷ ns) [] n h = refl
far_absent (m ∷ ns) (q ∷ ps) n h = none_step (m == n) m q n _ refl (λ (s : m ≡ n). h zero (ap Some s)) (far_absent ns ps n (λ k. h (suc k)))

found_step : (b : Bool) (m q n : ℕ) (o p : Option ℕ) → (m == n) ≡ b → m ≢ n → o ≡ p → (if b then Some q else o) ≡ p
found_step true m q n o p e ne h = absurd (ne (key_of m n e))
found_step false m q n o p e ne h = h

-- a number's place, where the number stands once
pub far_found : (ns ps : List ℕ) (n k : ℕ) → length ps ≡ length ns → slice_get ns k ≡ Some n → ((j : ℕ) → slice_get ns j ≡ Some n → j ≡ k) → far_place (with_places ns ps) n ≡ slice_get ps k
far_found [] ps n k e g only = absurd (cc)
far_found (m ∷ ns) [] n k e g only = absurd (omega (arith, e))
far_found (m ∷ ns) (q ∷ ps) n zero e g only =
    let same : m ≡ n = cc in
    ap (λ b. if b then Some q else far_place (with_places ns ps) n) (ap (λ j. j == n) same ∙ same_number n)
far_found (m ∷ ns) (q ∷ ps) n (suc k) e g only =
    let shorter : length ps ≡ length ns = omega (arith, e) in
    let other : m ≢ n = λ (s : m ≡ n). let z : zero ≡ suc k = only zero (ap Some s) in absurd (omega (arith, z)) in
    found_step (m == n) m q n _ _ refl other (far_found ns ps n k shorter g (λ j h. let z : suc j ≡ suc k = only (suc j) h in omega (arith, z)))

abbrev PlaceAt : Option ℕ → List ℕ → Option ℕ
PlaceAt None ps = None
PlaceAt (Some k) ps = slice_get ps k

found_by : (ns ps : List ℕ) (n : ℕ) (o : Option ℕ) → length ps ≡ length ns → IfSome o (λ k. slice_get ns k ≡ Some n) → IfSome o (λ k. (j : ℕ) → slice_get ns j ≡ Some n → j ≡ k) → (o ≡ None → IsAbsent ns n) → PlaceAt o ps ≡ far_place (with_places ns ps) n
found_by ns ps n None e there only nowhere = sym (far_absent ns ps n (nowhere refl))
found_by ns ps n (Some k) e there only nowhere = sym (far_found ns ps n k e there only)

pub found_place : (ns ps : List ℕ) (n k : ℕ) (o : Option ℕ) → length ps ≡ length ns → IfSome o (λ k. slice_get ns k ≡ Some n) → IfSome o (λ k. (j : ℕ) → slice_get ns j ≡ Some n → j ≡ k) → (o ≡ None → IsAbsent ns n) → o ≡ Some k → slice_get ps k ≡ far_place (with_places ns ps) n
found_place ns ps n k o e there only nowhere is = ap (λ q. PlaceAt q ps) (sym is) ∙ found_by ns ps n o e there only nowhere

pub found_no_place : (ns ps : List ℕ) (n : ℕ) (o : Option ℕ) → length ps ≡ length ns → IfSome o (λ k. slice_get ns k ≡ Some n) → IfSome o (λ k. (j : ℕ) → slice_get ns j ≡ Some n → j ≡ k) → (o ≡ None → IsAbsent ns n) → o ≡ None → None ≡ far_place (with_places ns ps) n
found_no_place ns ps n o e there only nowhere is = ap (λ q. PlaceAt q ps) (sym is) ∙ found_by ns ps n o e there only nowhere
