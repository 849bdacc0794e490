-- The last state of the history.
use Rattle.std.proofs.Common.{◌≡◌, ℕ, zero, suc, ◌-◌, ◌<◌, ◌≤◌, List, [], ◌∷◌, length, map, take, ℤ, refl, ap, ◌∙◌, arith, Some, slice_get}
use Rattle.std.specs.declared.alloc.Global.{Global}
use Rattle.std.specs.declared.vec.Vec.{Vec}
use Rattle.std.proofs.lemmas.Option.{get_or_from_slice_get}
use Rattle.txn_words.specs.Words.{last_state, state_of}
use Rattle.world.specs.declared.scene.Scene.{Scene}
use Rattle.world.specs.Inside.{all_states, state_items, Kept}

module _ {X : Type 0} where
  get_take : (l : List X) (n i : ℕ) (x : X) → i < n → slice_get l i ≡ Some x → slice_get (take n l) i ≡ Some x
  get_take [] n i x h e = absurd (cc)
  get_take (y ∷ l) zero i x h e = absurd (omega arith)
  get_take (y ∷ l) (suc n) zero x h e = e
  get_take (y ∷ l) (suc n) (suc i) x h e = get_take l n i x (omega arith) e

  length_taken : (l : List X) (n : ℕ) → n ≤ length l → length (take n l) ≡ n
  length_taken [] zero h = refl
  length_taken [] (suc n) h = absurd (omega arith)
  length_taken (y ∷ l) zero h = refl
  length_taken (y ∷ l) (suc n) h = ap suc (length_taken l n (omega arith))

pub items_at : (l : List (Vec ℤ Global)) (i : ℕ) (m : Vec ℤ Global) → slice_get l i ≡ Some m → slice_get (map state_items l) i ≡ Some m.items
items_at [] i m e = absurd (cc)
items_at (x ∷ l) zero m e = let s : x ≡ m = cc in ap (λ (v : Vec ℤ Global). Some v.items) s
items_at (x ∷ l) (suc i) m e = items_at l i m e

pub items_length : (l : List (Vec ℤ Global)) → length (map state_items l) ≡ length l
items_length [] = refl
items_length (x ∷ l) = ap suc (items_length l)

pub history_length : (c : Scene) → Kept c → length (take c.count (all_states c)) ≡ c.count
history_length c k = length_taken (all_states c) c.count (omega (arith, items_length c.states.items, k.count.1))

pub last_is : (c : Scene) (m : Vec ℤ Global) → Kept c → slice_get c.states.items (c.count - 1) ≡ Some m → last_state (take c.count (all_states c)) ≡ m.items
last_is c m k e =
    ap (λ (n : ℕ). state_of (take c.count (all_states c)) (n - 1)) (history_length c k)
    ∙ get_or_from_slice_get (take c.count (all_states c)) (c.count - 1) m.items [] (get_take (all_states c) c.count (c.count - 1) m.items (omega (arith, k.count.0)) (items_at c.states.items (c.count - 1) m e))
