-- Which tasks were seen on lines.
use Rattle.std.proofs.Common.{◌≡◌, ◌∙◌, ℕ, zero, suc, ◌+◌, ◌<◌, Bool, true, false, List, [], ◌∷◌, length, replicate, get_or, set, Some, refl, sym, ap, subst, arith, ◌⊎◌, inl, inr}
use Rattle.std.specs.List.{slice_get}
use Rattle.std.proofs.lemmas.Option.{same_Some}
use Rattle.txn_programs.specs.declared.ast.TaskId.{TaskId}
use Rattle.txn_programs.specs.declared.ast.TxId.{TxId}
use Rattle.explain_reports.specs.Parts.{IsNew}
use Rattle.checker.proofs.Firsts.{less_or_same}
use Rattle.checker.proofs.Lists.{set_here}

-- a task stands on a line before this place
abbrev pub Stood : List (TaskId × TxId) → ℕ → ℕ → Type 0
Stood lines i t = (j : ℕ) × (q : TaskId × TxId) × (j < i) × (slice_get lines j ≡ Some q) × (q.0.0 ≡ t)

-- a mark is set exactly for the tasks that stand before this place
pub record SeenBefore (lines : List (TaskId × TxId)) (i : ℕ) (seen : List Bool) : Type 0 where
  pub stood : (t : ℕ) → get_or seen t false ≡ true → Stood lines i t
  pub marked : (j : ℕ) (q : TaskId × TxId) → j < i → slice_get lines j ≡ Some q → get_or seen q.0.0 true ≡ true

unmarked : (n t : ℕ) → get_or (replicate n false) t false ≡ true → ⊥
unmarked zero t e = cc
unmarked (suc n) zero e = cc
unmarked (suc n) (suc t) e = unmarked n t e

pub none_seen : (lines : List (TaskId × TxId)) (n : ℕ) → SeenBefore lines 0 (replicate n false)
none_seen lines n = record { stood = λ t e. absurd (unmarked n t e); marked = λ j q lt e. absurd (omega arith) }

kept : (xs : List Bool) (t u : ℕ) → get_or xs u true ≡ true → get_or (set xs t true) u true ≡ true
kept [] zero u e = e
kept [] (suc t) u e = e
kept (x ∷ xs) zero zero e = refl
kept (x ∷ xs) zero (suc u) e = e
kept (x ∷ xs) (suc t) zero e = e
kept (x ∷ xs) (suc t) (suc u) e = kept xs t u e

set_or_was : (xs : List Bool) (t u : ℕ) → get_or (set xs t true) u false ≡ true → (t ≡ u) ⊎ (get_or xs u false ≡ true)
set_or_was [] zero u e = inr e
set_or_was [] (suc t) u e = inr e
set_or_was (x ∷ xs) zero zero e = inl refl
set_or_was (x ∷ xs) zero (suc u) e = inr e
set_or_was (x ∷ xs) (suc t) zero e = inr e
set_or_was (x ∷ xs) (suc t) (suc u) e = elim (set_or_was xs t u e) [ inl h ↦ inl (ap suc h) | inr h ↦ inr h ]

later : (lines : List (TaskId × TxId)) (i t : ℕ) → Stood lines i t → Stood lines (i + 1) t
later lines i t s = (s.0, s.1, omega (arith, s.2), s.3, s.4)

pub one_seen : (lines : List (TaskId × TxId)) (i : ℕ) (seen : List Bool) (p : TaskId × TxId) → slice_get lines i ≡ Some p → SeenBefore lines i seen → SeenBefore lines (i + 1) (set seen p.0.0 true)
one_seen lines i seen p at h =
    record {
      stood = λ t e. elim (set_or_was seen p.0.0 t e) [
        | inl same ↦ (i, p, omega arith, at, same)
        | inr was ↦ later lines i t (h.stood t was)
      ];
      marked = λ j q lt e. elim (less_or_same j i lt) [
        | inl less ↦ kept seen p.0.0 q.0.0 (h.marked j q less e)
        | inr same ↦
            let here : p ≡ q = same_Some p q (sym at ∙ (ap (slice_get lines) (sym same) ∙ e)) in
            subst (λ (x : TaskId × TxId). get_or (set seen p.0.0 true) x.0.0 true ≡ true) here (set_here seen p.0.0)
      ];
    }

false_default : (xs : List Bool) (t : ℕ) → t < length xs → get_or xs t true ≡ get_or xs t false
false_default [] t lt = absurd (omega arith)
false_default (x ∷ xs) zero lt = refl
false_default (x ∷ xs) (suc t) lt = false_default xs t (omega arith)

-- a marked task is not new, and one that is not marked is
pub seen_again : (lines : List (TaskId × TxId)) (i : ℕ) (seen : List Bool) (p : TaskId × TxId) → SeenBefore lines i seen → get_or seen p.0.0 false ≡ true → IsNew lines i p → ⊥
seen_again lines i seen p h e new = let s = h.stood p.0.0 e in new s.0 s.1 s.2 s.3 s.4

pub seen_new : (lines : List (TaskId × TxId)) (i : ℕ) (seen : List Bool) (p : TaskId × TxId) → SeenBefore lines i seen → get_or seen p.0.0 true ≡ false → IsNew lines i p
seen_new lines i seen p h e j q lt at same =
    let marked = h.marked j q lt at in
    let bad : get_or seen p.0.0 true ≡ true = subst (λ t. get_or seen t true ≡ true) same marked in
    cc (bad, e)
