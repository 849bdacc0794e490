-- A text made of pieces, one piece for each element of a list, one more at a time.
use Rattle.std.proofs.Common.{◌≡◌, ◌∙◌, ℕ, zero, suc, ◌+◌, ◌<◌, ◌≤◌, List, [], ◌∷◌, ◌++◌, length, take, get_or, map, Some, sym, ap, subst, add-one}
use Rattle.std.specs.List.{slice_get, flat_map, AllByRecursion}
use Rattle.std.proofs.lemmas.List.{take_all, flat_map_more}
use Rattle.std.proofs.lemmas.Option.{same_Some, slice_get-map, slice_get-get_or}
use Rattle.std.specs.Option.{option_map}

-- the first elements, and one more
pub take_next : {X : Type 0} (xs : List X) (i : ℕ) (x : X) → slice_get xs i ≡ Some x → take (i + 1) xs ≡ take i xs ++ x ∷ []
take_next xs i x e = rw add-one (next xs i e)
  where
    next : (ys : List _) (k : ℕ) → slice_get ys k ≡ Some x → take (suc k) ys ≡ take k ys ++ x ∷ []
    next [] k e = absurd (cc)
    next (y ∷ ys) zero e = ap (λ z. z ∷ []) (same_Some _ _ e)
    next (y ∷ ys) (suc k) e = ap (λ zs. y ∷ zs) (next ys k e)

-- one piece more
pub piece_more : {X : Type 0} (f : X → List ℕ) (xs : List X) (i : ℕ) (x : X) (o out after : List ℕ) → slice_get xs i ≡ Some x → out ≡ o ++ flat_map f (take i xs) → after ≡ out ++ f x → after ≡ o ++ flat_map f (take (i + 1) xs)
piece_more f xs i x o out after e so_far more =
    more ∙ ap (λ (ys : List ℕ). ys ++ f x) so_far ∙ flat_map_more f o (take i xs) x ∙ ap (λ ys. o ++ flat_map f ys) (sym (take_next xs i x e))

all-push : {X : Type 0} (P : X → Type 0) (xs : List X) (x : X) → AllByRecursion P xs → P x → AllByRecursion P (xs ++ x ∷ [])
all-push P [] x h here = (here, tt)
all-push P (y ∷ ys) x h here = (h.0, all-push P ys x h.1 here)

-- what holds of the first elements, and of one more
pub all_more : {X : Type 0} (P : X → Type 0) (xs : List X) (i : ℕ) (x : X) → slice_get xs i ≡ Some x → AllByRecursion P (take i xs) → P x → AllByRecursion P (take (i + 1) xs)
all_more P xs i x e h here = subst (AllByRecursion P) (sym (take_next xs i x e)) (all-push P (take i xs) x h here)

-- an element of a list that is made by a function
pub at_map : {X Y : Type 0} (f : X → Y) (xs : List X) (i : ℕ) (d : X) → i < length xs → slice_get (map f xs) i ≡ Some (f (get_or xs i d))
at_map f xs i d lt = slice_get-map f xs i ∙ ap (option_map f) (slice_get-get_or xs i d lt)

-- the whole list, at its end
pub at_end : {X : Type 0} (f : X → List ℕ) (xs : List X) (i : ℕ) (o out : List ℕ) → length xs ≤ i → out ≡ o ++ flat_map f (take i xs) → out ≡ o ++ flat_map f xs
at_end f xs i o out long e = e ∙ ap (λ ys. o ++ flat_map f ys) (take_all i xs long)

pub all_at_end : {X : Type 0} (P : X → Type 0) (xs : List X) (i : ℕ) → length xs ≤ i → AllByRecursion P (take i xs) → AllByRecursion P xs
all_at_end P xs i long h = subst (AllByRecursion P) (take_all i xs long) h
