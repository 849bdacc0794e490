-- The stores of a commit, by their number.
use Rattle.std.proofs.Common.{◌≡◌, ℕ, zero, suc, ◌+◌, ◌-◌, ◌*◌, ◌<◌, ◌≤◌, List, [], ◌∷◌, ◌++◌, map, length, get_or, sym, refl, ap, ◌∙◌, arith, Some, slice_get, length-append, take, fold}
use mathlib.Core.Logic.{dite}
use native.Mathlib.Decide.{dec_lt}
use lib.ListN.{length-map}
use Rattle.txn_words.specs.Words.{Commit}
use Rattle.txn_programs.specs.declared.ast.VarId.{VarId}
use Rattle.txn_words.specs.Stores.{Change, no_change, new_of}
use Rattle.world_law.specs.declared.events.Store.{Store}
use Rattle.world_law.specs.declared.events.Store.TheVariants.{Lock, Put, Tick, Free}
use Rattle.world_law.specs.World.{locks, puts, frees, stores}
use Rattle.world_law.specs.Commits.{after_store, after_stores}

module _ {X : Type 0} where
  get_left : (l r : List X) (i : ℕ) → i < length l → slice_get (l ++ r) i ≡ slice_get l i
  get_left [] r i h = absurd (omega arith)
  get_left (x ∷ l) r zero h = refl
  get_left (x ∷ l) r (suc i) h = get_left l r i (omega arith)

  get_right : (l r : List X) (i : ℕ) → slice_get (l ++ r) (length l + i) ≡ slice_get r i
  get_right [] r i = ap (slice_get r) (let e : 0 + i ≡ i = omega arith in e)
  get_right (x ∷ l) r i = ap (slice_get (x ∷ l ++ r)) (let e : length (x ∷ l) + i ≡ suc (length l + i) = omega arith in e) ∙ get_right l r i

  -- one more of the first
  take_next : (l : List X) (i : ℕ) (x : X) → slice_get l i ≡ Some x → take (i + 1) l ≡ take i l ++ x ∷ []
  take_next [] i x e = absurd (cc)
  take_next (y ∷ l) zero x e = ap (λ (z : X). z ∷ []) (let s : y ≡ x = cc in s)
  take_next (y ∷ l) (suc i) x e = ap (λ (n : ℕ). take n (y ∷ l)) (let s : suc i + 1 ≡ suc (i + 1) = omega arith in s) ∙ ap (λ (z : List X). y ∷ z) (take_next l i x e)

  fold_on : {S : Type 0} (f : S → X → S) (s : S) (l r : List X) → fold f s (l ++ r) ≡ fold f (fold f s l) r
  fold_on f s [] r = refl
  fold_on f s (x ∷ l) r = fold_on f (f s x) l r

get_map : {B : Type 0} (f : Change → B) (cs : List Change) (i : ℕ) → i < length cs → slice_get (map f cs) i ≡ Some (f (get_or cs i no_change))
get_map f [] i h = absurd (omega arith)
get_map f (c ∷ cs) zero h = refl
get_map f (c ∷ cs) (suc i) h = get_map f cs i (omega arith)

-- the variable of the change of this number
abbrev pub variable_at : List Change → ℕ → VarId
variable_at cs i = (get_or cs i no_change).0

module _ (cs : List Change) where
  many_locks : length (locks cs) ≡ length cs
  many_locks = length-map cs (λ (c : Change). Lock c.0)

  many_puts : length (puts cs) ≡ length cs
  many_puts = length-map cs (λ (c : Change). Put c.0 c.1)

  pub many_stores : length (stores cs) ≡ 3 * length cs + 1
  many_stores = let a = many_locks in let b = many_puts in let c = length-map cs (λ (c : Change). Free c.0) in
      omega (arith, length-append (locks cs) (puts cs ++ (Tick ∷ frees cs)), length-append (puts cs) (Tick ∷ frees cs))

  pub is_lock : (p : ℕ) → p < length cs → slice_get (stores cs) p ≡ Some (Lock (variable_at cs p))
  is_lock p h = get_left (locks cs) (puts cs ++ (Tick ∷ frees cs)) p (omega (arith, many_locks)) ∙ get_map (λ (c : Change). Lock c.0) cs p h

  past_locks : (i : ℕ) → slice_get (stores cs) (length cs + i) ≡ slice_get (puts cs ++ (Tick ∷ frees cs)) i
  past_locks i = ap (λ (n : ℕ). slice_get (stores cs) (n + i)) (sym many_locks) ∙ get_right (locks cs) (puts cs ++ (Tick ∷ frees cs)) i

  past_puts : (i : ℕ) → slice_get (stores cs) (2 * length cs + i) ≡ slice_get (Tick ∷ frees cs) i
  past_puts i = ap (slice_get (stores cs)) (let e : 2 * length cs + i ≡ length cs + (length cs + i) = omega arith in e)
      ∙ (past_locks (length cs + i) ∙ (ap (λ (n : ℕ). slice_get (puts cs ++ (Tick ∷ frees cs)) (n + i)) (sym many_puts) ∙ get_right (puts cs) (Tick ∷ frees cs) i))

  pub is_put : (i : ℕ) → i < length cs → slice_get (stores cs) (length cs + i) ≡ Some (Put (variable_at cs i) (new_of cs i))
  is_put i h = past_locks i ∙ (get_left (puts cs) (Tick ∷ frees cs) i (omega (arith, many_puts)) ∙ get_map (λ (c : Change). Put c.0 c.1) cs i h)

  pub is_tick : slice_get (stores cs) (2 * length cs) ≡ Some Tick
  is_tick = ap (slice_get (stores cs)) (let e : 2 * length cs ≡ 2 * length cs + 0 = omega arith in e) ∙ past_puts 0

  pub is_free : (i : ℕ) → i < length cs → slice_get (stores cs) (2 * length cs + 1 + i) ≡ Some (Free (variable_at cs i))
  is_free i h = ap (slice_get (stores cs)) (let e : 2 * length cs + 1 + i ≡ 2 * length cs + suc i = omega arith in e) ∙ (past_puts (suc i) ∙ get_map (λ (c : Change). Free c.0) cs i h)

  -- which store has the number p
  pub data IsStore (p : ℕ) (s : Store) : Type 0 where
    Locks : p < length cs → s ≡ Lock (variable_at cs p) → IsStore p s
    Puts : (i : ℕ) → i < length cs → p ≡ length cs + i → s ≡ Put (variable_at cs i) (new_of cs i) → IsStore p s
    Ticks : p ≡ 2 * length cs → s ≡ Tick → IsStore p s
    Frees : (i : ℕ) → i < length cs → p ≡ 2 * length cs + 1 + i → s ≡ Free (variable_at cs i) → IsStore p s

  -- after the first p + 1 stores
  pub after_next : (p : ℕ) (s : Store) (c : Commit) → slice_get (stores cs) p ≡ Some s → after_stores (take (p + 1) (stores cs)) c ≡ after_store s (after_stores (take p (stores cs)) c)
  after_next p s c e = ap (λ (l : List Store). after_stores l c) (take_next (stores cs) p s e) ∙ fold_on (λ (c : Commit) (s : Store). after_store s c) c (take p (stores cs)) (s ∷ [])

same_store : (s t : Store) → Some s ≡ Some t → s ≡ t
same_store s t e = cc

none_left : (l : List Store) (p : ℕ) (s : Store) → length l ≤ p → slice_get l p ≡ Some s → ⊥
none_left [] p s h e = absurd (cc)
none_left (x ∷ l) zero s h e = absurd (omega arith)
none_left (x ∷ l) (suc p) s h e = none_left l p s (omega arith) e

pub store_at : (cs : List Change) (p : ℕ) (s : Store) → slice_get (stores cs) p ≡ Some s → IsStore cs p s
store_at cs p s e = dite (dec_lt p n) (λ low. Locks low (same_store s _ (sym e ∙ is_lock cs p low)))
    (λ a. dite (dec_lt p (2 * n)) (λ low. let at : p ≡ n + (p - n) = omega arith in Puts (p - n) (omega arith) at (same_store s _ (sym e ∙ (ap (slice_get (stores cs)) at ∙ is_put cs (p - n) (omega arith)))))
    (λ b. dite (dec_lt p (2 * n + 1)) (λ low. let at : p ≡ 2 * n = omega arith in Ticks at (same_store s _ (sym e ∙ (ap (slice_get (stores cs)) at ∙ is_tick cs))))
    (λ c. dite (dec_lt p (3 * n + 1)) (λ low. let at : p ≡ 2 * n + 1 + (p - (2 * n + 1)) = omega arith in Frees (p - (2 * n + 1)) (omega arith) at (same_store s _ (sym e ∙ (ap (slice_get (stores cs)) at ∙ is_free cs (p - (2 * n + 1)) (omega arith)))))
    (λ d. absurd (none_left (stores cs) p s (omega (arith, many_stores cs)) e)))))
  where
    n : ℕ
    n = length cs
