-- Variables and their initial values, side by side.
use Rattle.std.proofs.Common.{◌≡◌, ℕ, zero, suc, ◌<◌, ◌≤◌, ℤ, List, [], ◌∷◌, length, get_or, Some, refl, ap, arith}
use Rattle.std.specs.List.{slice_get}
use Rattle.std.proofs.lemmas.Option.{same_Some}
use Rattle.text_grammar.specs.Tree.{Pair}
use Rattle.text_grammar.specs.Written.{written_vars}

-- a variable with its initial value
pub vars_at : (names : List (List ℕ)) (values : List ℤ) (i : ℕ) (name : List ℕ) (d : ℤ) → i < length values → slice_get names i ≡ Some name → slice_get (written_vars names values) i ≡ Some (record { name = name; value = get_or values i d })
vars_at [] values i name d lt e = absurd (cc)
vars_at (n ∷ names) [] i name d lt e = absurd (omega arith)
vars_at (n ∷ names) (v ∷ values) zero name d lt e =
    let pair : List ℕ → Pair = λ m. record { name = m; value = v } in
    ap (λ m. Some (pair m)) (same_Some _ _ e)
vars_at (n ∷ names) (v ∷ values) (suc i) name d lt e = vars_at names values i name d (omega arith) e

-- as many as there are names
pub length-vars : (names : List (List ℕ)) (values : List ℤ) → length names ≤ length values → length (written_vars names values) ≡ length names
length-vars [] values few = refl
length-vars (n ∷ names) [] few = absurd (omega arith)
length-vars (n ∷ names) (v ∷ values) few = ap suc (length-vars names values (omega arith))
