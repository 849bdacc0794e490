-- A write at the place of its variable.
use Rattle.std.proofs.lemmas.List.Edits.{insert_end}
use Rattle.std.proofs.lemmas.Option.{slice_get-get_or}
use Rattle.std.proofs.Common.{insert, None, Some, sym, slice_get, ◌-◌, ◌≢◌, ◌≡◌, ℕ, zero, suc, ◌<◌, List, [], ◌∷◌, ◌++◌, ℤ, refl, ap, ◌∙◌, arith, take, drop, drop-cons, length, get_or}
use Rattle.std.proofs.lemmas.Bool.Decides.{nat_tests}
use Rattle.std.proofs.Math.ListN.{set}
use Rattle.txn_programs.specs.declared.ast.VarId.{VarId}
use Rattle.attempt_writes.specs.Known.{Known, known_at, write}
use Rattle.attempt_writes.specs.Order.{AllBefore, Ascending}
use Rattle.attempt_writes.proofs.InOrder.{write_past, write_behind, known_past, known_behind, known_from, before_at, before_all}

put_head : (p : VarId × ℤ) (rest : Known) (x : VarId) (v : ℤ) → p.0.0 ≡ x.0 → write (p ∷ rest) x v ≡ (x, v) ∷ rest
put_head p rest x v e = grind (arith, nat_tests)

set_split : {X : Type 0} (w : List X) (i : ℕ) (a : X) → i < length w → take i w ++ a ∷ drop (suc i) w ≡ set w i a
set_split [] i a lt = absurd (omega arith)
set_split (q ∷ w) zero a lt = refl
set_split (q ∷ w) (suc i) a lt = ap (λ l. q ∷ l) (set_split w i a (omega arith))

pub put_same : (w : Known) (i : ℕ) (x : VarId) (v : ℤ) (d : VarId × ℤ) → i < length w → (get_or w i d).0.0 ≡ x.0 → take i w ++ write (drop i w) x v ≡ set w i (x, v)
put_same w i x v d lt e =
    ap (λ l. take i w ++ write l x v) (drop-cons w i d lt)
    ∙ ap (λ l. take i w ++ l) (put_head (get_or w i d) (drop (suc i) w) x v e)
    ∙ set_split w i (x, v) lt

-- the last pair
pub last_set : (w : Known) (i : ℕ) (x : VarId) (v : ℤ) (d : VarId × ℤ) → Ascending w → i < length w → (get_or w i d).0.0 ≡ x.0 → set w i (x, v) ≡ write w x v
last_set w i x v d a lt key = sym (put_same w i x v d lt key) ∙ write_behind w i x v (before_at w i x (get_or w i d) a (slice_get-get_or w i d lt) key)

pub last_known : (w : Known) (i : ℕ) (x : VarId) (p d : VarId × ℤ) → Ascending w → i < length w → (get_or w i d).0.0 ≡ x.0 → slice_get w i ≡ Some p → known_at w x ≡ Some p.1
last_known w i x p d a lt key e = sym (known_behind w i x (before_at w i x (get_or w i d) a (slice_get-get_or w i d lt) key)) ∙ known_from w i x p d key lt e

joined : (w : Known) (x : VarId) (v : ℤ) → AllBefore x w → w ++ (x, v) ∷ [] ≡ write w x v
joined [] x v b = refl
joined (p ∷ rest) x v b = ap (λ l. p ∷ l) (joined rest x v b.1) ∙ sym (write_past p rest x v b.0)

-- behind the last pair
pub end_put : (w : Known) (x : VarId) (v : ℤ) (d : VarId × ℤ) → Ascending w → 0 < length w → (get_or w (length w - 1) d).0.0 < x.0 → insert w (length w) (x, v) ≡ write w x v
end_put w x v d a some lt = insert_end w (x, v) ∙ joined w x v (before_all w x d a some lt)

none_before : (w : Known) (x : VarId) → AllBefore x w → known_at w x ≡ None
none_before [] x b = refl
none_before (p ∷ rest) x b =
    let ne : p.0.0 ≢ x.0 = λ e. omega (arith, e, b.0) in
    known_past p rest x ne ∙ none_before rest x b.1

pub end_none : (w : Known) (x : VarId) (d : VarId × ℤ) → Ascending w → 0 < length w → (get_or w (length w - 1) d).0.0 < x.0 → known_at w x ≡ None
end_none w x d a some lt = none_before w x (before_all w x d a some lt)

-- behind all that are there
pub behind_put : (w : Known) (x : VarId) (v : ℤ) (d : VarId × ℤ) → Ascending w → 0 < length w → (get_or w (length w - 1) d).0.0 < x.0 → w ++ (x, v) ∷ [] ≡ write w x v
behind_put w x v d a some lt = joined w x v (before_all w x d a some lt)
