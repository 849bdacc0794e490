-- The last change among the first states of a history, and the values and the versions of one variable more.
use Rattle.std.proofs.Common.{◌≡◌, ◌≢◌, ◌∙◌, ℕ, ℤ, zero, suc, ◌+◌, ◌-◌, ◌<◌, ◌≤◌, List, [], ◌∷◌, ◌++◌, length, map, inl, inr, sym, ap, subst, arith, get_or, Vec, Global}
use Rattle.std.proofs.lemmas.List.{length_push}
use Rattle.txn_words.specs.Words.{IsLastChange, last_state, state_of, state_value}
use Rattle.world.specs.Inside.{state_items}
use Rattle.world_law.proofs.Places.{get_push}
use Rattle.world.specs.WorldText.{ArePresent}
use borrow.Author.Count.{below_more}

-- of the first n states, v is the number of the last one at which x changed
pub record ChangedBy (h : List (List ℤ)) (x n v : ℕ) : Type 0 where
  pub within : v < n
  pub since : (k : ℕ) → v ≤ k → k < n → state_value (state_of h k) x ≡ state_value (state_of h v) x
  pub changed : 0 < v → state_value (state_of h v) x ≢ state_value (state_of h (v - 1)) x

pub first_state : (h : List (List ℤ)) (x : ℕ) → ChangedBy h x 1 0
first_state h x = record {
  within = omega arith;
  since = λ k low lt. let same : k ≡ 0 = omega arith in ap (λ (j : ℕ). state_value (state_of h j) x) same;
  changed = λ some. absurd (omega arith);
}

-- x changed at the next state
pub changed_more : (h : List (List ℤ)) (x n v : ℕ) → ChangedBy h x n v → state_value (state_of h n) x ≢ state_value (state_of h (n - 1)) x → ChangedBy h x (n + 1) n
changed_more h x n v b differ = record {
  within = omega arith;
  since = λ k low lt. let same : k ≡ n = omega arith in ap (λ (j : ℕ). state_value (state_of h j) x) same;
  changed = λ some. differ;
}

-- .. or stayed
pub same_more : (h : List (List ℤ)) (x n v : ℕ) → ChangedBy h x n v → state_value (state_of h n) x ≡ state_value (state_of h (n - 1)) x → ChangedBy h x (n + 1) v
same_more h x n v b same =
    let low : v < n = b.within in
    record {
      within = omega arith;
      since = λ k above lt. below_more (λ (j : ℕ). v ≤ j → state_value (state_of h j) x ≡ state_value (state_of h v) x) n (λ j under le. b.since j le under) (λ le. same ∙ b.since (n - 1) (omega arith) (omega arith)) k lt above;
      changed = b.changed;
    }

-- of all states it is the last change
pub changed_last : (h : List (List ℤ)) (x v n : ℕ) → length h ≤ n → n ≤ length h → ChangedBy h x n v → IsLastChange h x v
changed_last h x v n above below b = record { within = let low = b.within in omega arith; since = λ k low lt. b.since k low (omega arith); changed = b.changed }

-- the state of a number is what the vector at its place has
pub state_at : (h : List (Vec ℤ Global)) (n : ℕ) (m : Vec ℤ Global) → n < length h → m ≡ get_or h n m → state_of (map state_items h) n ≡ m.items
state_at [] n m lt e = absurd (omega arith)
state_at (y ∷ h) zero m lt e = ap state_items (sym e)
state_at (y ∷ h) (suc n) m lt e = state_at h n m (omega arith) e

pub present_more : (h : List (List ℤ)) (count : ℕ) (vars : List (ℤ × ℕ)) (v : ℤ × ℕ) → ArePresent h count vars → v.0 ≡ state_value (last_state h) count → IsLastChange h count v.1 → ArePresent h (count + 1) (vars ++ v ∷ [])
present_more h count vars v p value version = record {
  all = length_push vars v ∙ (let a = p.all in omega (arith, a));
  each = λ x u at. elim (get_push vars v x u at) [
    | inl old ↦ p.each x u old
    | inr new ↦ let here : count ≡ x = sym (new.0 ∙ p.all) in (
      sym (ap (λ (w : ℤ × ℕ). w.0) new.1) ∙ value ∙ ap (λ (y : ℕ). state_value (last_state h) y) here,
      subst (λ (w : ℤ × ℕ). IsLastChange h x w.1) new.1 (subst (λ (y : ℕ). IsLastChange h y v.1) here version),
    )
  ];
}
