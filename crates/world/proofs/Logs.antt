-- Logs and the states that they agree with.
use Rattle.std.proofs.Common.{◌≡◌, ℕ, ℤ, zero, suc, ◌<◌, ◌≤◌, length, [], ◌∷◌, Some, None, refl, sym, ◌∙◌, ap, arith, slice_get}
use Rattle.txn_programs.specs.declared.ast.VarId.{VarId}
use Rattle.txn_programs.specs.Meaning.{State, value_at}
use Rattle.attempt.specs.Asking.{Known}
use Rattle.attempt.specs.Frame.{Agrees}
use Rattle.attempt.specs.Order.{AllKnown}

-- a logged variable is known
pub known_pair : (n : ℕ) (log : Known) (i : ℕ) (p : VarId × ℤ) → AllKnown n log → slice_get log i ≡ Some p → p.0.0 < n
known_pair n [] i p h e = absurd (cc)
known_pair n (q ∷ rest) zero p h e = let same : q ≡ p = cc in omega (arith, ap (λ (x : VarId × ℤ). x.0.0) same, h.0)
known_pair n (q ∷ rest) (suc i) p h e = known_pair n rest i p h.1 e

pub agrees_all : (log : Known) (m : State) → ((i : ℕ) (p : VarId × ℤ) → slice_get log i ≡ Some p → value_at m p.0 ≡ p.1) → Agrees log m
agrees_all [] m h = tt
agrees_all (p ∷ rest) m h = (h zero p refl, agrees_all rest m (λ i q e. h (suc i) q e))

pub agrees_pair : (log : Known) (m : State) (i : ℕ) (p : VarId × ℤ) → Agrees log m → slice_get log i ≡ Some p → value_at m p.0 ≡ p.1
agrees_pair [] m i p h e = absurd (cc)
agrees_pair (q ∷ rest) m zero p h e =
    let same : q ≡ p = cc in
    ap (λ (x : VarId × ℤ). value_at m x.0) (sym same) ∙ (h.0 ∙ ap (λ (x : VarId × ℤ). x.1) same)
agrees_pair (q ∷ rest) m (suc i) p h e = agrees_pair rest m i p h.1 e

-- where a log ends
pub past_end : (log : Known) (i : ℕ) → length log ≤ i → slice_get log i ≡ None
past_end [] i low = refl
past_end (p ∷ rest) zero low = absurd (omega arith)
past_end (p ∷ rest) (suc i) low = past_end rest i (omega arith)
