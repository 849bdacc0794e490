-- One element more of a list.
use Rattle.std.proofs.Common.{◌≡◌, ◌∙◌, ℕ, zero, suc, ◌+◌, ◌<◌, List, [], ◌∷◌, ◌++◌, Some, length, take, get_or, sym, ap, subst, arith, inl, inr}
use Rattle.std.specs.List.{slice_get, All}
use Rattle.std.proofs.lemmas.List.{length-take, get_or-take}
use Rattle.std.proofs.lemmas.Option.{same_Some, slice_get-get_or}
use Rattle.checker.proofs.Firsts.{less_or_same}

pub one_more : {X : Type 0} (P : X → Type 0) (xs : List X) (i : ℕ) (d : X) → i < length xs → All P (take i xs) → P (get_or xs i d) → All P (take (i + 1) xs)
one_more P xs i d within before here k e lt =
    let sized = length-take (i + 1) xs in
    let few : k < i + 1 = omega (arith, sized, lt) in
    let there = get_or-take (i + 1) xs k e few in
    elim (less_or_same k i few) [
      | inl h ↦
          let long = length-take i xs in
          let inside : k < length (take i xs) = omega (arith, long, h, within) in
          subst P (sym there) (subst P (get_or-take i xs k e h) (before k e inside))
      | inr h ↦
          let at : k < length xs = omega (arith, h, within) in
          let same = same_Some _ _ (sym (slice_get-get_or xs k d at) ∙ slice_get-get_or xs k e at) in
          subst P (sym there) (subst P same (subst (λ (j : ℕ). P (get_or xs j d)) (sym h) here))
    ]

take_suc : {X : Type 0} (xs : List X) (i : ℕ) (x : X) → slice_get xs i ≡ Some x → take (suc i) xs ≡ take i xs ++ x ∷ []
take_suc [] i x e = absurd (cc)
take_suc (y ∷ ys) zero x e = ap (λ z. z ∷ []) (same_Some y x e)
take_suc (y ∷ ys) (suc i) x e = ap (λ zs. y ∷ zs) (take_suc ys i x e)

next : (i : ℕ) → i + 1 ≡ suc i
next i = omega arith

pub take_more : {X : Type 0} (xs : List X) (i : ℕ) (x : X) → slice_get xs i ≡ Some x → take (i + 1) xs ≡ take i xs ++ x ∷ []
take_more xs i x e = ap (λ (j : ℕ). take j xs) (next i) ∙ take_suc xs i x e
