-- A variable in an ascending list: what lies before it is passed.
use Rattle.std.proofs.lemmas.Option.{slice_get-get_or}
use Rattle.std.proofs.Math.Seq.{take-length}
use Rattle.std.proofs.Common.{◌-◌, ◌≡◌, ◌≢◌, ℕ, zero, suc, ◌<◌, ◌≤◌, [], ◌∷◌, ◌++◌, length, Some, None, ℤ, refl, sym, ap, ◌∙◌, subst, arith, take, drop, get_or, slice_get}
use Rattle.std.proofs.lemmas.Bool.Decides.{nat_tests}
use Rattle.txn_programs.specs.declared.ast.VarId.{VarId}
use Rattle.attempt_writes.specs.Known.{Known, known_at, write}
use Rattle.attempt_writes.specs.Order.{AllAfter, AllBefore, Ascending}

pub write_past : (p : VarId × ℤ) (rest : Known) (x : VarId) (v : ℤ) → p.0.0 < x.0 → write (p ∷ rest) x v ≡ p ∷ write rest x v
write_past p rest x v lt = grind (arith, nat_tests)

pub known_past : (p : VarId × ℤ) (rest : Known) (x : VarId) → p.0.0 ≢ x.0 → known_at (p ∷ rest) x ≡ known_at rest x
known_past p rest x ne = grind (arith, nat_tests)

known_here : (p : VarId × ℤ) (rest : Known) (x : VarId) → p.0.0 ≡ x.0 → known_at (p ∷ rest) x ≡ Some p.1
known_here p rest x e = grind (arith, nat_tests)

-- what comes before is no matter to a write
pub write_behind : (w : Known) (i : ℕ) (x : VarId) (v : ℤ) → AllBefore x (take i w) → take i w ++ write (drop i w) x v ≡ write w x v
write_behind w zero x v b = refl
write_behind [] (suc i) x v b = refl
write_behind (p ∷ rest) (suc i) x v b = ap (λ l. p ∷ l) (write_behind rest i x v b.1) ∙ sym (write_past p rest x v b.0)

-- nor to a look-up
pub known_behind : (w : Known) (i : ℕ) (x : VarId) → AllBefore x (take i w) → known_at (drop i w) x ≡ known_at w x
known_behind w zero x b = refl
known_behind [] (suc i) x b = refl
known_behind (p ∷ rest) (suc i) x b =
    let ne : p.0.0 ≢ x.0 = λ e. omega (arith, e, b.0) in
    known_behind rest i x b.1 ∙ sym (known_past p rest x ne)

none_after : (w : Known) (y x : VarId) → x.0 ≤ y.0 → AllAfter y w → known_at w x ≡ None
none_after [] y x le a = refl
none_after (p ∷ rest) y x le a =
    let ne : p.0.0 ≢ x.0 = λ e. omega (arith, e, le, a.0) in
    known_past p rest x ne ∙ none_after rest y x le a.1

-- where a later variable stands, an earlier one does not come any more
pub none_from : (w : Known) (i : ℕ) (x : VarId) (p : VarId × ℤ) → Ascending w → slice_get w i ≡ Some p → x.0 < p.0.0 → known_at (drop i w) x ≡ None
none_from [] i x p a e lt = absurd (cc)
none_from (q ∷ rest) zero x p a e lt =
    let same : q ≡ p = cc in
    let key : p.0.0 ≡ q.0.0 = ap (λ (r : VarId × ℤ). r.0.0) (sym same) in
    let ne : q.0.0 ≢ x.0 = λ e. omega (arith, e, lt, key) in
    let le : x.0 ≤ q.0.0 = omega (arith, lt, key) in
    known_past q rest x ne ∙ none_after rest q.0 x le a.0
none_from (q ∷ rest) (suc i) x p a e lt = none_from rest i x p a.1 e lt

after_at : (w : Known) (i : ℕ) (y : VarId) (p : VarId × ℤ) → AllAfter y w → slice_get w i ≡ Some p → y.0 < p.0.0
after_at [] i y p a e = absurd (cc)
after_at (q ∷ rest) zero y p a e =
    let same : q ≡ p = cc in
    subst (λ (r : VarId × ℤ). y.0 < r.0.0) same a.0
after_at (q ∷ rest) (suc i) y p a e = after_at rest i y p a.1 e

-- all up to an earlier variable are earlier
pub before_to : (w : Known) (i : ℕ) (x : VarId) (p : VarId × ℤ) → Ascending w → slice_get w i ≡ Some p → p.0.0 < x.0 → AllBefore x (take (suc i) w)
before_to [] i x p a e lt = absurd (cc)
before_to (q ∷ rest) zero x p a e lt =
    let same : q ≡ p = cc in
    (subst (λ (r : VarId × ℤ). r.0.0 < x.0) (sym same) lt, tt)
before_to (q ∷ rest) (suc i) x p a e lt =
    let here = after_at rest i q.0 p a.0 e in
    (omega (arith, here, lt), before_to rest i x p a.1 e lt)

-- where the variable itself stands, that is its value
pub known_from : (w : Known) (i : ℕ) (x : VarId) (p d : VarId × ℤ) → (get_or w i d).0.0 ≡ x.0 → i < length w → slice_get w i ≡ Some p → known_at (drop i w) x ≡ Some p.1
known_from [] i x p d key lt e = absurd (cc)
known_from (q ∷ rest) zero x p d key lt e =
    let same : q ≡ p = cc in
    known_here q rest x key ∙ ap (λ (r : VarId × ℤ). Some r.1) same
known_from (q ∷ rest) (suc i) x p d key lt e = known_from rest i x p d key (omega arith) e

-- all up to the variable itself are earlier
pub before_at : (w : Known) (i : ℕ) (x : VarId) (p : VarId × ℤ) → Ascending w → slice_get w i ≡ Some p → p.0.0 ≡ x.0 → AllBefore x (take i w)
before_at [] i x p a e key = absurd (cc)
before_at (q ∷ rest) zero x p a e key = tt
before_at (q ∷ rest) (suc i) x p a e key =
    let here = after_at rest i q.0 p a.0 e in
    (omega (arith, here, key), before_at rest i x p a.1 e key)

-- all are earlier where the last one is
pub before_all : (w : Known) (x : VarId) (d : VarId × ℤ) → Ascending w → 0 < length w → (get_or w (length w - 1) d).0.0 < x.0 → AllBefore x w
before_all w x d a some lt =
    let i = length w - 1 in
    let within : i < length w = omega (arith, some) in
    let all : suc i ≡ length w = omega (arith, some) in
    subst (AllBefore x) (ap (λ n. take n w) all ∙ take-length w) (before_to w i x (get_or w i d) a (slice_get-get_or w i d within) lt)
