-- A commit from words that rest to words that rest again.
use Rattle.std.proofs.Common.{◌≡◌, ◌≢◌, ◌⊎◌, ℕ, zero, suc, ◌+◌, ◌-◌, ◌*◌, ◌<◌, ◌≤◌, Bool, true, false, List, [], ◌∷◌, ◌++◌, ℤ, pos, take, length, get_or, set, sym, ap, ◌∙◌, subst, ⊎_elim, inl, inr, arith, length-append}
use mathlib.Core.Logic.{dite}
use native.Mathlib.Decide.{ℕ_discrete}
use lib.Seq.{take-length}
use Rattle.txn_words.specs.Words.{Commit, state_value, state_of, last_state}
use Rattle.txn_words.specs.Stores.{Change, no_change, id_of, new_of, with_changes, AreChanges}
use Rattle.txn_words.proofs.Words.{last_pushed, state_before}
use Rattle.world_law.specs.Commits.{RestsAt}
use Rattle.world_law.proofs.Changes.{sets, sets_length, sets_else, sets_here}

set_all : {A : Type 0} (P : A → Type 0) (l : List A) (i : ℕ) (a d : A) → P a → ((y : ℕ) → P (get_or l y d)) → (y : ℕ) → P (get_or (set l i a) y d)
set_all P [] i a d here all y = all y
set_all P (x ∷ xs) zero a d here all zero = here
set_all P (x ∷ xs) zero a d here all (suc y) = all (suc y)
set_all P (x ∷ xs) (suc i) a d here all zero = all zero
set_all P (x ∷ xs) (suc i) a d here all (suc y) = set_all P xs i a d here (λ z. all (suc z)) y

sets_all : {A : Type 0} (v : Change → A) (P : A → Type 0) (l : List A) (cs : List Change) (d : A) → ((c : Change) → P (v c)) → ((y : ℕ) → P (get_or l y d)) → (y : ℕ) → P (get_or (sets v l cs) y d)
sets_all v P l [] d each all y = all y
sets_all v P l (c ∷ cs) d each all y = sets_all v P (set l c.0.0 (v c)) cs d each (set_all P l c.0.0 (v c) d (each c) all) y

among : (cs : List Change) (x k : ℕ) → ((i : ℕ) × (i < k) × (x ≡ id_of cs i)) ⊎ ((i : ℕ) → i < k → x ≢ id_of cs i)
among cs x zero = inr (λ i l. absurd (omega arith))
among cs x (suc k) = dite (ℕ_discrete x (id_of cs k)) (λ e. inl (k, omega arith, e))
    (λ n. ⊎_elim (λ (t : (i : ℕ) × (i < k) × (x ≡ id_of cs i)). inl (t.0, (let l = t.1 in omega arith), t.2))
    (λ (t : (i : ℕ) → i < k → x ≢ id_of cs i). inr (λ i l. dite (ℕ_discrete i k) (λ e. subst (λ (z : ℕ). x ≢ id_of cs z) (sym e) n) (λ other. t i (omega arith)))) (among cs x k))

module _ {A : Type 0} (v : Change → A) (l : List A) (cs : List Change) (d : A) where
  written : ((i j : ℕ) → i < j → j < length cs → id_of cs i < id_of cs j) → ((i : ℕ) → i < length cs → id_of cs i < length l) → (i : ℕ) → i < length cs → get_or (sets v l cs) (id_of cs i) d ≡ v (get_or cs i no_change)
  written up inside i low = subst (λ (z : List Change). get_or (sets v l z) (id_of cs i) d ≡ v (get_or cs i no_change)) (take-length cs) (sets_here v l cs d (length cs) (omega arith) up inside i low)

  unwritten : (x : ℕ) → ((i : ℕ) → i < length cs → x ≢ id_of cs i) → get_or (sets v l cs) x d ≡ get_or l x d
  unwritten x n = subst (λ (z : List Change). get_or (sets v l z) x d ≡ get_or l x d) (take-length cs) (sets_else v l cs x d (length cs) (omega arith) n)

-- the lock bits, with that of each change's variable
abbrev pub locked_by : Bool → List Bool → List Change → List Bool
locked_by b l changes = sets (λ (_ : Change). b) l changes

-- the versions, with n for each change's variable
abbrev pub numbered_by : ℕ → List ℕ → List Change → List ℕ
numbered_by n l changes = sets (λ (_ : Change). n) l changes

-- Of a commit of the number n + 1 that began at `base`: before the clock i variables are locked, or all are and i values
-- stored; and after it i variables are released.
pub record IsLocking (base : Commit) (cs : List Change) (i : ℕ) (c : Commit) : Type 0 where
  pub history : c.history ≡ base.history
  pub values : c.values ≡ base.values
  pub versions : c.versions ≡ base.versions
  pub locked : c.locked ≡ locked_by true base.locked (take i cs)
  pub storing : c.storing ≡ false
  pub in_order : c.late ≡ false

pub record IsPutting (base : Commit) (cs : List Change) (i : ℕ) (c : Commit) : Type 0 where
  pub history : c.history ≡ base.history
  pub values : c.values ≡ with_changes base.values (take i cs)
  pub versions : c.versions ≡ base.versions
  pub locked : c.locked ≡ locked_by true base.locked cs
  pub in_order : c.late ≡ false

pub record IsFreeing (base : Commit) (n : ℕ) (cs : List Change) (i : ℕ) (c : Commit) : Type 0 where
  pub history : c.history ≡ base.history ++ with_changes base.values cs ∷ []
  pub values : c.values ≡ with_changes base.values cs
  pub versions : c.versions ≡ numbered_by (n + 1) base.versions (take i cs)
  pub locked : c.locked ≡ locked_by false (locked_by true base.locked cs) (take i cs)
  pub storing : c.storing ≡ false
  pub in_order : c.late ≡ false

module _ (base : Commit) (n : ℕ) (cs : List Change) where
  -- how far a commit is, after p stores
  pub data Phase (p : ℕ) (c : Commit) : Type 0 where
    Locking : p ≤ length cs → IsLocking base cs p c → Phase p c
    Putting : (i : ℕ) → i ≤ length cs → p ≡ length cs + i → IsPutting base cs i c → Phase p c
    Freeing : (i : ℕ) → i ≤ length cs → p ≡ 2 * length cs + 1 + i → IsFreeing base n cs i c → Phase p c

module _ (base : Commit) (n : ℕ) (cs : List Change) (r : RestsAt base n) (a : AreChanges (last_state base.history) cs) where
  pub inside : (i : ℕ) → i < length cs → id_of cs i < length base.values
  inside i l = subst (λ (m : List ℤ). id_of cs i < length m) (sym r.settled.1) (a.exist i l)

  pub each_locked : (i : ℕ) → i < length cs → get_or (locked_by true base.locked cs) (id_of cs i) false ≡ true
  each_locked i l = written (λ (_ : Change). true) base.locked cs false a.ascend (λ j h. omega (arith, inside j h, r.sized.1)) i l

  pub each_stored : (i : ℕ) → i < length cs → get_or (with_changes base.values cs) (id_of cs i) (pos 0) ≡ new_of cs i
  each_stored i l = written (λ (d : Change). d.1) base.values cs (pos 0) a.ascend inside i l

  pub same_size : length (with_changes base.values cs) ≡ length base.values
  same_size = sets_length (λ (d : Change). d.1) base.values cs

  abbrev then : List (List ℤ)
  then = base.history ++ with_changes base.values cs ∷ []

  pub each_differs : (i : ℕ) → i < length cs → state_value (last_state then) (id_of cs i) ≢ state_value (state_of then (n + 1 - 1)) (id_of cs i)
  each_differs i l e = let many = r.counted in a.differ i l (sym (each_stored i l) ∙ (ap (λ s. state_value s (id_of cs i)) (sym (last_pushed base.history (with_changes base.values cs)))
      ∙ (e ∙ (ap (λ s. state_value s (id_of cs i)) (state_before base.history (with_changes base.values cs) (n + 1 - 1) (omega arith)) ∙ ap (λ (z : ℕ). state_value (state_of base.history z) (id_of cs i)) (omega arith)))))

  pub longer_by_one : n + 1 + 1 ≡ length then
  longer_by_one = let many = r.counted in omega (arith, length-append base.history (with_changes base.values cs ∷ []))

  all_free : (x : ℕ) → get_or (locked_by false (locked_by true base.locked cs) cs) x false ≡ false
  all_free x = ⊎_elim (λ (t : (i : ℕ) × (i < length cs) × (x ≡ id_of cs i)).
      ap (λ (z : ℕ). get_or (locked_by false (locked_by true base.locked cs) cs) z false) t.2
      ∙ written (λ (_ : Change). false) (locked_by true base.locked cs) cs false a.ascend (λ j h. omega (arith, inside j h, r.sized.1, sets_length (λ (_ : Change). true) base.locked cs)) t.0 t.1)
      (λ (t : (i : ℕ) → i < length cs → x ≢ id_of cs i). unwritten (λ (_ : Change). false) (locked_by true base.locked cs) cs false x t ∙ (unwritten (λ (_ : Change). true) base.locked cs false x t ∙ r.free x))
      (among cs x (length cs))

  -- after its last store a commit rests
  pub rests_again : (c : Commit) → IsFreeing base n cs (length cs) c → RestsAt c (n + 1)
  rests_again c f =
      let versions : c.versions ≡ numbered_by (n + 1) base.versions cs = f.versions ∙ ap (λ (z : List Change). numbered_by (n + 1) base.versions z) (take-length cs) in
      let locked : c.locked ≡ locked_by false (locked_by true base.locked cs) cs = f.locked ∙ ap (λ (z : List Change). locked_by false (locked_by true base.locked cs) z) (take-length cs) in
      let size : length c.values ≡ length base.values = ap (λ (l : List ℤ). length l) f.values ∙ same_size in
      record {
        counted = longer_by_one ∙ ap (λ (h : List (List ℤ)). length h) (sym f.history);
        past = subst (λ (l : List ℕ). (x : ℕ) → get_or l x 0 ≤ n + 1) (sym versions) (sets_all (λ (_ : Change). n + 1) (λ (k : ℕ). k ≤ n + 1) base.versions cs 0 (λ _. omega arith) (λ y. let old = r.past y in omega arith));
        free = subst (λ (l : List Bool). (x : ℕ) → get_or l x false ≡ false) (sym locked) all_free;
        in_order = f.in_order;
        settled = (f.storing, f.values ∙ (sym (last_pushed base.history (with_changes base.values cs)) ∙ ap last_state (sym f.history)));
        sized = (
          ap (λ (l : List ℕ). length l) versions ∙ (sets_length (λ (_ : Change). n + 1) base.versions cs ∙ (r.sized.0 ∙ sym size)),
          ap (λ (l : List Bool). length l) locked ∙ (sets_length (λ (_ : Change). false) (locked_by true base.locked cs) cs ∙ (sets_length (λ (_ : Change). true) base.locked cs ∙ (r.sized.1 ∙ sym size))),
        );
      }
