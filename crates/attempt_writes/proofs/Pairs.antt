-- How pairs lie after a write, and with one more at the end.
use Rattle.std.proofs.Common.{◌≡◌, ◌≢◌, ℕ, ◌<◌, ◌≤◌, Bool, true, false, [], ◌∷◌, ◌++◌, Some, None, ℤ, refl, sym, ap, ◌∙◌, arith, ⊎_elim, nat_lt, ◌==◌, if◌then◌else◌}
use Rattle.std.proofs.lemmas.Bool.{ltb-true, ltb-false}
use Rattle.std.proofs.lemmas.Bool.Decides.{nat_tests, eqb_tells}
use Rattle.txn_programs.specs.declared.ast.VarId.{VarId}
use Rattle.attempt_writes.specs.Known.{Known, known_at, write, or_known}
use Rattle.attempt_writes.specs.Order.{AllKnown, Apart, AllAfter, Ascending}

-- the same on each side of a test
abbrev placed : Bool → Bool → VarId × ℤ → Known → VarId → ℤ → Known
placed b c p rest x v = if b then (x, v) ∷ rest else (if c then (x, v) ∷ p ∷ rest else p ∷ write rest x v)

known_placed : (n : ℕ) (p : VarId × ℤ) (rest : Known) (x : VarId) (v : ℤ) (b c : Bool) → x.0 < n → AllKnown n (p ∷ rest) → AllKnown n (write rest x v) → AllKnown n (placed b c p rest x v)
known_placed n p rest x v true c lt k h = (lt, k.1)
known_placed n p rest x v false true lt k h = (lt, k)
known_placed n p rest x v false false lt k h = (k.0, h)

pub AllKnown-write : (n : ℕ) (w : Known) (x : VarId) (v : ℤ) → x.0 < n → AllKnown n w → AllKnown n (write w x v)
AllKnown-write n [] x v lt k = (lt, tt)
AllKnown-write n (p ∷ rest) x v lt k = known_placed n p rest x v (p.0.0 == x.0) (nat_lt x.0 p.0.0) lt k (AllKnown-write n rest x v lt k.1)

after_placed : (y : VarId) (p : VarId × ℤ) (rest : Known) (x : VarId) (v : ℤ) (b c : Bool) → y.0 < x.0 → AllAfter y (p ∷ rest) → AllAfter y (write rest x v) → AllAfter y (placed b c p rest x v)
after_placed y p rest x v true c lt k h = (lt, k.1)
after_placed y p rest x v false true lt k h = (lt, k)
after_placed y p rest x v false false lt k h = (k.0, h)

pub AllAfter-write : (y : VarId) (w : Known) (x : VarId) (v : ℤ) → y.0 < x.0 → AllAfter y w → AllAfter y (write w x v)
AllAfter-write y [] x v lt k = (lt, tt)
AllAfter-write y (p ∷ rest) x v lt k = after_placed y p rest x v (p.0.0 == x.0) (nat_lt x.0 p.0.0) lt k (AllAfter-write y rest x v lt k.1)

AllAfter-down : (x y : VarId) (w : Known) → y.0 ≤ x.0 → AllAfter x w → AllAfter y w
AllAfter-down x y [] le k = tt
AllAfter-down x y (p ∷ rest) le k = (omega (arith, k.0), AllAfter-down x y rest le k.1)

ascending_placed : (p : VarId × ℤ) (rest : Known) (x : VarId) (v : ℤ) (b c : Bool) → p.0.0 == x.0 ≡ b → nat_lt x.0 p.0.0 ≡ c →
    Ascending (p ∷ rest) → Ascending (write rest x v) → Ascending (placed b c p rest x v)
ascending_placed p rest x v true c e f a h =
    ⊎_elim
    (λ (t : (p.0.0 == x.0 ≡ true) × (p.0.0 ≡ x.0)). let le : x.0 ≤ p.0.0 = omega (arith, t.1) in (AllAfter-down p.0 x rest le a.0, a.1))
    (λ (t : (p.0.0 == x.0 ≡ false) × (p.0.0 ≢ x.0)). absurd (cc))
    (eqb_tells p.0.0 x.0)
ascending_placed p rest x v false true e f a h =
    let lt : x.0 < p.0.0 = ltb-true _ _ f in
    let le : x.0 ≤ p.0.0 = omega (arith, lt) in
    ((lt, AllAfter-down p.0 x rest le a.0), a)
ascending_placed p rest x v false false e f a h =
    let le : p.0.0 ≤ x.0 = ltb-false _ _ f in
    ⊎_elim
    (λ (t : (p.0.0 == x.0 ≡ true) × (p.0.0 ≡ x.0)). absurd (cc))
    (λ (t : (p.0.0 == x.0 ≡ false) × (p.0.0 ≢ x.0)). let lt : p.0.0 < x.0 = omega (arith, le, t.1) in (AllAfter-write p.0 rest x v lt a.0, h))
    (eqb_tells p.0.0 x.0)

pub Ascending-write : (w : Known) (x : VarId) (v : ℤ) → Ascending w → Ascending (write w x v)
Ascending-write [] x v a = (tt, tt)
Ascending-write (p ∷ rest) x v a = ascending_placed p rest x v (p.0.0 == x.0) (nat_lt x.0 p.0.0) refl refl a (Ascending-write rest x v a.1)

pub AllKnown-append : (n : ℕ) (log : Known) (x : VarId) (v : ℤ) → x.0 < n → AllKnown n log → AllKnown n (log ++ (x, v) ∷ [])
AllKnown-append n [] x v lt k = (lt, tt)
AllKnown-append n (p ∷ rest) x v lt k = (k.0, AllKnown-append n rest x v lt k.1)

append_step : (p : VarId × ℤ) (rest : Known) (x : VarId) (v : ℤ) (y : VarId) →
    known_at (rest ++ (x, v) ∷ []) y ≡ or_known (known_at rest y) (known_at ((x, v) ∷ []) y) →
    known_at (p ∷ rest ++ (x, v) ∷ []) y ≡ or_known (known_at (p ∷ rest) y) (known_at ((x, v) ∷ []) y)
append_step p rest x v y h = grind (arith, nat_tests)

pub known_at-append : (log : Known) (x : VarId) (v : ℤ) (y : VarId) → known_at (log ++ (x, v) ∷ []) y ≡ or_known (known_at log y) (known_at ((x, v) ∷ []) y)
known_at-append [] x v y = refl
known_at-append (p ∷ rest) x v y = append_step p rest x v y (known_at-append rest x v y)

-- a variable that is not known is another than each that is
other_head : (p : VarId × ℤ) (rest : Known) (x : VarId) → known_at (p ∷ rest) x ≡ None → (p.0.0 ≢ x.0) × (known_at rest x ≡ None)
other_head p rest x e =
    ⊎_elim
    (λ (t : (p.0.0 == x.0 ≡ true) × (p.0.0 ≡ x.0)). let never : Some p.1 ≡ None = sym (ap (λ b. if b then Some p.1 else known_at rest x) t.0) ∙ e in absurd (cc))
    (λ (t : (p.0.0 == x.0 ≡ false) × (p.0.0 ≢ x.0)). (t.1, sym (ap (λ b. if b then Some p.1 else known_at rest x) t.0) ∙ e))
    (eqb_tells p.0.0 x.0)

not_the_last : (x y : VarId) (v : ℤ) → y.0 ≢ x.0 → known_at ((x, v) ∷ []) y ≡ None
not_the_last x y v ne = grind (arith, nat_tests)

pub Apart-append : (log : Known) (x : VarId) (v : ℤ) → known_at log x ≡ None → Apart log → Apart (log ++ (x, v) ∷ [])
Apart-append [] x v e a = (refl, tt)
Apart-append (p ∷ rest) x v e a =
    let other = other_head p rest x e in
    (known_at-append rest x v p.0 ∙ ap (λ o. or_known o (known_at ((x, v) ∷ []) p.0)) a.0 ∙ not_the_last x p.0 v other.0, Apart-append rest x v other.1 a.1)
