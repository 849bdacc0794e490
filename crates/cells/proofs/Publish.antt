-- The publisher's record through one publish.
use Rattle.std.proofs.Common.{◌≡◌, ◌≢◌, ◌⊎◌, ℕ, zero, suc, ◌+◌, ◌-◌, ◌<◌, ◌≤◌, Bool, true, false, List, [], ◌∷◌, ◌++◌, ℤ, pos, length, get_or, set, sym, refl, ap, ◌∙◌, subst, ⊎_elim, inl, inr, arith, length-append}
use mathlib.Core.Logic.{dite}
use native.Mathlib.Decide.{ℕ_discrete}
use lib.Seq.{take-length}
use Rattle.txn_words.specs.Words.{Commit, state_value, state_of, last_state}
use Rattle.txn_words.specs.Stores.{Change, no_change, id_of, new_of, with_changes, AreChanges, after_clock}
use Rattle.txn_words.proofs.Words.{last_pushed, state_before}
use Rattle.cells.specs.Publishing.{IsResting}
use Rattle.cells.specs.Private.{locked_by, all_locked, all_stored, all_released}
use Rattle.cells.proofs.Changes.{sets, sets_length, sets_here, unwritten}

set_all : {A : Type 0} (P : A → Type 0) (l : List A) (i : ℕ) (a d : A) → P a → ((y : ℕ) → P (get_or l y d)) → (y : ℕ) → P (get_or (set l i a) y d)
set_all P [] i a d here all y = all y
set_all P (x ∷ xs) zero a d here all zero = here
set_all P (x ∷ xs) zero a d here all (suc y) = all (suc y)
set_all P (x ∷ xs) (suc i) a d here all zero = all zero
set_all P (x ∷ xs) (suc i) a d here all (suc y) = set_all P xs i a d here (λ z. all (suc z)) y

sets_all : {A : Type 0} (v : Change → A) (P : A → Type 0) (l : List A) (cs : List Change) (d : A) → ((c : Change) → P (v c)) → ((y : ℕ) → P (get_or l y d)) → (y : ℕ) → P (get_or (sets v l cs) y d)
sets_all v P l [] d each all y = all y
sets_all v P l (c ∷ cs) d each all y = sets_all v P (set l c.0.0 (v c)) cs d each (set_all P l c.0.0 (v c) d (each c) all) y

among : (cs : List Change) (x k : ℕ) → ((i : ℕ) × (i < k) × (x ≡ id_of cs i)) ⊎ ((i : ℕ) → i < k → x ≢ id_of cs i)
among cs x zero = inr (λ i l. absurd (omega arith))
among cs x (suc k) = dite (ℕ_discrete x (id_of cs k)) (λ e. inl (k, omega arith, e))
    (λ n. ⊎_elim (λ (t : (i : ℕ) × (i < k) × (x ≡ id_of cs i)). inl (t.0, (let l = t.1 in omega arith), t.2))
    (λ (t : (i : ℕ) → i < k → x ≢ id_of cs i). inr (λ i l. dite (ℕ_discrete i k) (λ e. subst (λ (z : ℕ). x ≢ id_of cs z) (sym e) n) (λ other. t i (omega arith)))) (among cs x k))

module _ {A : Type 0} (v : Change → A) (l : List A) (cs : List Change) (d : A) where
  written : ((i j : ℕ) → i < j → j < length cs → id_of cs i < id_of cs j) → ((i : ℕ) → i < length cs → id_of cs i < length l) → (i : ℕ) → i < length cs → get_or (sets v l cs) (id_of cs i) d ≡ v (get_or cs i no_change)
  written up inside i low = subst (λ (z : List Change). get_or (sets v l z) (id_of cs i) d ≡ v (get_or cs i no_change)) (take-length cs) (sets_here v l cs d (length cs) (omega arith) up inside i low)

module _ (c : Commit) (cs : List Change) where
  -- every variable that changes is locked, every new value stored
  abbrev pub stored : Bool → Commit
  stored b = all_stored b cs (all_locked cs c)

  -- and the clock has moved
  abbrev pub counted : Commit
  counted = after_clock (stored false)

  -- and every lock is released, with the number n
  abbrev pub released : ℕ → Commit
  released n = all_released n cs counted

module _ (c : Commit) (n : ℕ) (cs : List Change) (r : IsResting c n) (a : AreChanges (last_state c.history) cs) where
  pub inside : (i : ℕ) → i < length cs → id_of cs i < length c.values
  inside i l = subst (λ (m : List ℤ). id_of cs i < length m) (sym r.settled.1) (a.exist i l)

  pub each_locked : (i : ℕ) → i < length cs → get_or (locked_by true c.locked cs) (id_of cs i) false ≡ true
  each_locked i l = written (λ (_ : Change). true) c.locked cs false a.ascend (λ j h. omega (arith, inside j h, r.sized.1)) i l

  pub each_stored : (i : ℕ) → i < length cs → get_or (with_changes c.values cs) (id_of cs i) (pos 0) ≡ new_of cs i
  each_stored i l = written (λ (d : Change). d.1) c.values cs (pos 0) a.ascend inside i l

  pub same_size : length (with_changes c.values cs) ≡ length c.values
  same_size = sets_length (λ (d : Change). d.1) c.values cs

  pub each_differs : (i : ℕ) → i < length cs → state_value (last_state (counted c cs).history) (id_of cs i) ≢ state_value (state_of (counted c cs).history (n + 1 - 1)) (id_of cs i)
  each_differs i l e = let many = r.counted in a.differ i l (sym (each_stored i l) ∙ (ap (λ s. state_value s (id_of cs i)) (sym (last_pushed c.history (with_changes c.values cs)))
      ∙ (e ∙ (ap (λ s. state_value s (id_of cs i)) (state_before c.history (with_changes c.values cs) (n + 1 - 1) (omega arith)) ∙ ap (λ (z : ℕ). state_value (state_of c.history z) (id_of cs i)) (omega arith)))))

  pub longer_by_one : n + 1 + 1 ≡ length (c.history ++ with_changes c.values cs ∷ [])
  longer_by_one = let many = r.counted in omega (arith, length-append c.history (with_changes c.values cs ∷ []))

  pub rests_again : IsResting (released c cs (n + 1)) (n + 1)
  rests_again = record {
    counted = longer_by_one;
    past = sets_all (λ (_ : Change). n + 1) (λ (k : ℕ). k ≤ n + 1) c.versions cs 0 (λ _. omega arith) (λ y. let old = r.past y in omega arith);
    free = λ x. ⊎_elim (λ (t : (i : ℕ) × (i < length cs) × (x ≡ id_of cs i)).
        ap (λ (z : ℕ). get_or (locked_by false (locked_by true c.locked cs) cs) z false) t.2
        ∙ written (λ (_ : Change). false) (locked_by true c.locked cs) cs false a.ascend (λ j h. omega (arith, inside j h, r.sized.1, sets_length (λ (_ : Change). true) c.locked cs)) t.0 t.1)
        (λ (t : (i : ℕ) → i < length cs → x ≢ id_of cs i). unwritten (λ (_ : Change). false) (locked_by true c.locked cs) cs x false t ∙ (unwritten (λ (_ : Change). true) c.locked cs x false t ∙ r.free x))
        (among cs x (length cs));
    in_order = r.in_order;
    settled = (refl, sym (last_pushed c.history (with_changes c.values cs)));
    sized = (sets_length (λ (_ : Change). n + 1) c.versions cs ∙ (r.sized.0 ∙ sym same_size), sets_length (λ (_ : Change). false) (locked_by true c.locked cs) cs ∙ (sets_length (λ (_ : Change). true) c.locked cs ∙ (r.sized.1 ∙ sym same_size)));
  }
