-- Names that are declared once, and their places.
use Rattle.std.proofs.Common.{◌≡◌, ℕ, zero, suc, ◌<◌, Bool, true, false, ◌||◌, not, List, [], ◌∷◌, ◌++◌, length, get_or, Some, refl, arith}
use Rattle.std.specs.Prelude.{position, bytes_eq}
use Rattle.std.specs.List.{list_any, position_or_len}
use Rattle.std.proofs.lemmas.Slice.Eq.{bytes_eq-Decides}
use Rattle.std.proofs.lemmas.Bool.{and_parts, lt-ltb}
use Rattle.txn_programs.specs.Names.{are_new, are_distinct}

neither : (a b : Bool) → (a || b) ≡ false → (a ≡ false) × (b ≡ false)
neither false b h = (refl, h)
neither true b h = absurd cc

not_true : (b : Bool) → not b ≡ true → b ≡ false
not_true true h = absurd cc
not_true false h = refl

-- none of the front and not the last
any_end : (p : List ℕ → Bool) (xs : List (List ℕ)) (x : List ℕ) → list_any p (xs ++ x ∷ []) ≡ false → (list_any p xs ≡ false) × (p x ≡ false)
any_end p [] x h = (refl, (neither (p x) false h).0)
any_end p (y ∷ ys) x h =
    let a = neither (p y) (list_any p (ys ++ x ∷ [])) h in
    let b = any_end p ys x a.1 in
    (rw a.0 b.0, b.1)

-- a name that comes later is none of the earlier ones
later_new : (earlier names : List (List ℕ)) (i : ℕ) → are_new earlier names ≡ true → i < length names → list_any (bytes_eq (get_or names i [])) earlier ≡ false
later_new earlier [] i h lt = absurd (omega arith)
later_new earlier (name ∷ rest) zero h lt = not_true _ (and_parts _ _ h).0
later_new earlier (name ∷ rest) (suc i) h lt = (any_end (bytes_eq (get_or rest i [])) earlier name (later_new (earlier ++ name ∷ []) rest i (and_parts _ _ h).1 (omega arith))).0

first_place : (earlier names : List (List ℕ)) (i : ℕ) → are_new earlier names ≡ true → i < length names → position_or_len (bytes_eq (get_or names i [])) names ≡ i
first_place earlier [] i h lt = absurd (omega arith)
first_place earlier (name ∷ rest) zero h lt = rw ((bytes_eq-Decides name name).1 refl) refl
first_place earlier (name ∷ rest) (suc i) h lt =
    let more = (and_parts _ _ h).1 in
    let other : bytes_eq (get_or rest i []) name ≡ false = (any_end (bytes_eq (get_or rest i [])) earlier name (later_new (earlier ++ name ∷ []) rest i more (omega arith))).1 in
    let ih : position_or_len (bytes_eq (get_or rest i [])) rest ≡ i = first_place (earlier ++ name ∷ []) rest i more (omega arith) in
    rw (other, ih) (omega arith)

-- a name stands at its place
pub place_again : (names : List (List ℕ)) (i : ℕ) → are_distinct names ≡ true → i < length names → position (bytes_eq (get_or names i [])) names ≡ Some i
place_again names i h lt = rw (first_place [] names i h lt, lt-ltb i (length names) lt) refl
