-- The attempts of a world at their places.
use Rattle.std.proofs.lemmas.Grind.{get_or_default_zero}
use Rattle.std.proofs.Common.{◌≡◌, ◌<◌, length, slice_index, Result, Ok, Err, OnErr, ℕ, zero, suc, List, [], ◌∷◌, ◌++◌, map, set, get_or, sym, refl, ap, ◌∙◌, Some, slice_get, option_map}
use Rattle.std.proofs.lemmas.Option.{get_or_from_slice_get}
use Rattle.world_law.specs.World.{Started}
use Rattle.world.specs.declared.trial.Trial.{Trial}
use Rattle.world.specs.Trials.{started_of}

pub seen_at : (l : List Trial) (i : ℕ) (y : Trial) → slice_get l i ≡ Some y → slice_get (map started_of l) i ≡ Some (started_of y)
seen_at [] i y e = absurd (cc)
seen_at (z ∷ l) zero y e = ap (option_map started_of) e
seen_at (z ∷ l) (suc i) y e = seen_at l i y e

pub seen_from : (l : List Trial) (i : ℕ) (y : Started) → slice_get (map started_of l) i ≡ Some y → (t : Trial) × (slice_get l i ≡ Some t) × (started_of t ≡ y)
seen_from [] i y e = absurd (cc)
seen_from (z ∷ l) zero y e = (z, refl, cc)
seen_from (z ∷ l) (suc i) y e = seen_from l i y e

pub seen_set : (l : List Trial) (i : ℕ) (t : Trial) → map started_of (set l i t) ≡ set (map started_of l) i (started_of t)
seen_set [] i t = refl
seen_set (z ∷ l) zero t = refl
seen_set (z ∷ l) (suc i) t = ap (λ (r : List Started). started_of z ∷ r) (seen_set l i t)

module _ {X : Type 0} where
  -- what is read at a place is what is there
  pub read_is : (xs : List X) (i : ℕ) (x r : X) → slice_get xs i ≡ Some x → r ≡ get_or xs i r → r ≡ x
  read_is xs i x r at e = e ∙ get_or_from_slice_get xs i x r at

  pub set_same : (l : List X) (i : ℕ) (y : X) → slice_get l i ≡ Some y → set l i y ≡ l
  set_same [] i y e = refl
  set_same (z ∷ l) zero y e = let s : z ≡ y = cc in ap (λ (u : X). u ∷ l) (sym s)
  set_same (z ∷ l) (suc i) y e = ap (λ (r : List X). z ∷ r) (set_same l i y e)

  pub same_place : (l : List X) (i j : ℕ) (x y : X) → slice_get l i ≡ Some x → slice_get l j ≡ Some y → j ≡ i → x ≡ y
  same_place l i j x y a b e =
      let s : Some x ≡ Some y = sym a ∙ (ap (slice_get l) (sym e) ∙ b) in
      cc

-- what is read of words is the word
pub word_read : (l : List ℕ) (i r : ℕ) → i < length l → r ≡ get_or l i r → r ≡ slice_index l i
word_read l i r h e = e ∙ get_or_default_zero l i r h

pub on_err : {T E : Type 0} (r : Result T E) (P : Type 0) → P → OnErr r P
on_err (Ok x) P p = tt
on_err (Err e) P p = p

module _ {X : Type 0} where
  pub get_push_new : (l : List X) (x : X) → slice_get (l ++ x ∷ []) (length l) ≡ Some x
  get_push_new [] x = refl
  get_push_new (y ∷ l) x = get_push_new l x

pub seen_push : (l : List Trial) (t : Trial) → map started_of (l ++ t ∷ []) ≡ map started_of l ++ started_of t ∷ []
seen_push [] t = refl
seen_push (z ∷ l) t = ap (λ (r : List Started). started_of z ∷ r) (seen_push l t)
