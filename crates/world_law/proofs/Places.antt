-- Lists at their places.
use Rattle.std.proofs.Common.{◌≡◌, ◌≢◌, ◌⊎◌, ℕ, zero, suc, ◌+◌, take, List, [], ◌∷◌, ◌++◌, length, set, ℤ, sym, refl, ap, ◌∙◌, subst, arith, ⊎_elim, inl, inr, Some, None, slice_get}
use mathlib.Core.Logic.{dite}
use native.Mathlib.Decide.{ℕ_discrete}
use Rattle.txn_programs.specs.Meaning.{State, value_at}
use Rattle.txn_programs.specs.declared.ast.VarId.{VarId}
use Rattle.attempt.specs.Asking.{Known}
use Rattle.attempt.specs.Frame.{Agrees}

module _ {X : Type 0} where
  pub get_set_same : (l : List X) (i : ℕ) (x y : X) → slice_get l i ≡ Some y → slice_get (set l i x) i ≡ Some x
  get_set_same [] i x y e = absurd (cc)
  get_set_same (z ∷ l) zero x y e = refl
  get_set_same (z ∷ l) (suc i) x y e = get_set_same l i x y e

  pub get_set_other : (l : List X) (i j : ℕ) (x : X) → j ≢ i → slice_get (set l i x) j ≡ slice_get l j
  get_set_other [] i j x n = refl
  get_set_other (z ∷ l) zero zero x n = absurd (n refl)
  get_set_other (z ∷ l) zero (suc j) x n = refl
  get_set_other (z ∷ l) (suc i) zero x n = refl
  get_set_other (z ∷ l) (suc i) (suc j) x n = get_set_other l i j x (λ e. n (ap suc e))

  pub same_some : (a b : X) → Some a ≡ Some b → a ≡ b
  same_some a b e = cc

  pub get_set : (l : List X) (i j : ℕ) (x y z : X) → slice_get l i ≡ Some y → slice_get (set l i x) j ≡ Some z → ((j ≢ i) × (slice_get l j ≡ Some z)) ⊎ ((j ≡ i) × (x ≡ z))
  get_set l i j x y z is e = dite (ℕ_discrete j i)
      (λ same. inr (same, same_some x z (sym (get_set_same l i x y is) ∙ (ap (slice_get (set l i x)) (sym same) ∙ e))))
      (λ other. inl (other, sym (get_set_other l i j x other) ∙ e))

  pub get_push_old : (l : List X) (x : X) (j : ℕ) (z : X) → slice_get l j ≡ Some z → slice_get (l ++ x ∷ []) j ≡ Some z
  get_push_old [] x j z e = absurd (cc)
  get_push_old (y ∷ l) x zero z e = e
  get_push_old (y ∷ l) x (suc j) z e = get_push_old l x j z e

  pub get_push : (l : List X) (x : X) (j : ℕ) (z : X) → slice_get (l ++ x ∷ []) j ≡ Some z → (slice_get l j ≡ Some z) ⊎ ((j ≡ length l) × (x ≡ z))
  get_push [] x zero z e = inr (refl, same_some x z e)
  get_push [] x (suc j) z e = absurd (cc)
  get_push (y ∷ l) x zero z e = inl e
  get_push (y ∷ l) x (suc j) z e = ⊎_elim (λ (h : slice_get l j ≡ Some z). inl h) (λ (h : (j ≡ length l) × (x ≡ z)). inr (ap suc h.0, h.1)) (get_push l x j z e)

pub agrees_more : (log : Known) (m : State) (x : VarId) (v : ℤ) → Agrees log m → value_at m x ≡ v → Agrees (log ++ (x, v) ∷ []) m
agrees_more [] m x v a e = (e, tt)
agrees_more (p ∷ log) m x v a e = (a.0, agrees_more log m x v a.1 e)

-- one pair more of what was read
agrees_suc : (log : Known) (n : ℕ) (m : State) (x : VarId) (v : ℤ) → slice_get log n ≡ Some (x, v) → Agrees (take n log) m → value_at m x ≡ v → Agrees (take (suc n) log) m
agrees_suc [] n m x v e a is = absurd (cc)
agrees_suc (p ∷ log) zero m x v e a is = let same : p ≡ (x, v) = cc in (ap (λ (q : VarId × ℤ). value_at m q.0) same ∙ (is ∙ sym (ap (λ (q : VarId × ℤ). q.1) same)), tt)
agrees_suc (p ∷ log) (suc n) m x v e a is = (a.0, agrees_suc log n m x v e a.1 is)

pub agrees_next : (log : Known) (n : ℕ) (m : State) (x : VarId) (v : ℤ) → slice_get log n ≡ Some (x, v) → Agrees (take n log) m → value_at m x ≡ v → Agrees (take (n + 1) log) m
agrees_next log n m x v e a is = let next : suc n ≡ n + 1 = omega arith in subst (λ (k : ℕ). Agrees (take k log) m) next (agrees_suc log n m x v e a is)

-- where none is left it is all that was read
pub agrees_all : (log : Known) (n : ℕ) (m : State) → slice_get log n ≡ None → Agrees (take n log) m → Agrees log m
agrees_all [] n m e a = tt
agrees_all (p ∷ log) zero m e a = absurd (cc)
agrees_all (p ∷ log) (suc n) m e a = (a.0, agrees_all log n m e a.1)

pub agrees_none : (log : Known) (m : State) → Agrees (take 0 log) m
agrees_none [] m = tt
agrees_none (p ∷ log) m = tt
