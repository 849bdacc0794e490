-- Lists that are searched for the first that is wrong.
use Rattle.std.proofs.Common.{◌≡◌, ◌∙◌, ℕ, ◌+◌, ◌≤◌, List, length, get_or, Some, sym, ap, subst, arith, inl, inr}
use Rattle.std.specs.List.{slice_get, All}
use Rattle.std.proofs.lemmas.Option.{same_Some, slice_get_within, slice_get-get_or, get_or_from_slice_get}
use Rattle.checker.proofs.Firsts.{less_or_same}
use Rattle.explain_reports.specs.First.{RightBefore, AllRight, IsFirstWrong}

pub none_before : {A : Type 0} (R : ℕ → A → Type 0) (xs : List A) → RightBefore R xs 0
none_before R xs j x lt e = absurd (omega arith)

-- what stands at one place
same_at : {A : Type 0} (xs : List A) (i j : ℕ) (x y : A) → j ≡ i → slice_get xs i ≡ Some x → slice_get xs j ≡ Some y → x ≡ y
same_at xs i j x y s a b = same_Some x y (sym a ∙ (ap (slice_get xs) (sym s) ∙ b))

pub one_before : {A : Type 0} (R : ℕ → A → Type 0) (xs : List A) (i : ℕ) (x : A) → slice_get xs i ≡ Some x → R i x → RightBefore R xs i → RightBefore R xs (i + 1)
one_before R xs i x at right before j y lt e = elim (less_or_same j i lt) [
  | inl h ↦ before j y h e
  | inr h ↦ subst (λ k. R k y) (sym h) (subst (λ z. R i z) (same_at xs i j x y h at e) right)
]

pub all_before : {A : Type 0} (R : ℕ → A → Type 0) (xs : List A) (i : ℕ) → length xs ≤ i → RightBefore R xs i → AllRight R xs
all_before R xs i past before j x e = let lt = slice_get_within xs j x e in before j x (omega arith) e

pub found : {A : Type 0} (R : ℕ → A → Type 0) (xs : List A) (i : ℕ) (x : A) → slice_get xs i ≡ Some x → (R i x → ⊥) → RightBefore R xs i → IsFirstWrong R xs i
found R xs i x at wrong before = record { item = x; stands = at; wrong = wrong; before = before }

-- a place that is wrong
pub not_all : {A : Type 0} (R : ℕ → A → Type 0) (xs : List A) (i : ℕ) → IsFirstWrong R xs i → AllRight R xs → ⊥
not_all R xs i f all = f.wrong (all i f.item f.stands)

pub as_all : {A : Type 0} (P : A → Type 0) (xs : List A) → AllRight (λ i x. P x) xs → All P xs
as_all P xs right k d lt = right k (get_or xs k d) (slice_get-get_or xs k d lt)

pub from_all : {A : Type 0} (P : A → Type 0) (xs : List A) → All P xs → AllRight (λ i x. P x) xs
from_all P xs all i x e = subst P (get_or_from_slice_get xs i x x e) (all i x (slice_get_within xs i x e))
