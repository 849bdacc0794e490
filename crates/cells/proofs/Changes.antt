-- Lists in which the changes were written one after another.
use Rattle.std.proofs.Common.{◌≡◌, ◌≢◌, ℕ, zero, suc, ◌+◌, ◌<◌, ◌≤◌, List, [], ◌∷◌, fold, length, take, get_or, set, sym, refl, ap, ◌∙◌, subst, arith, add-one, length-set, get_or-set_other, get_or-set_same}
use mathlib.Core.Logic.{dite}
use native.Mathlib.Decide.{ℕ_discrete}
use lib.Seq.{take-length}
use Rattle.std.proofs.lemmas.List.Sums.{fold_more}
use Rattle.txn_words.specs.Stores.{Change, no_change, id_of}

-- the count of stores, before the first change
pub none_yet : (n : ℕ) → n ≡ n + 0
none_yet n = omega arith

module _ {A : Type 0} (v : Change → A) where
  abbrev pub sets : List A → List Change → List A
  sets l cs = fold (λ (l : List A) (c : Change). set l c.0.0 (v c)) l cs

  pub sets_more : (l : List A) (cs : List Change) (k : ℕ) → k < length cs → sets l (take (k + 1) cs) ≡ set (sets l (take k cs)) (id_of cs k) (v (get_or cs k no_change))
  sets_more l cs k h = fold_more (λ (l : List A) (c : Change). set l c.0.0 (v c)) l cs k no_change h

  pub sets_length : (l : List A) (cs : List Change) → length (sets l cs) ≡ length l
  sets_length l [] = refl
  sets_length l (c ∷ cs) = sets_length (set l c.0.0 (v c)) cs ∙ length-set l c.0.0 (v c)

  pub sets_else : (l : List A) (cs : List Change) (x : ℕ) (d : A) (k : ℕ) → k ≤ length cs → ((i : ℕ) → i < k → x ≢ id_of cs i) → get_or (sets l (take k cs)) x d ≡ get_or l x d
  sets_else l cs x d zero h n = refl
  sets_else l cs x d (suc k) h n =
      subst (λ (z : ℕ). get_or (sets l (take z cs)) x d ≡ get_or l x d) (add-one k)
      (ap (λ (z : List A). get_or z x d) (sets_more l cs k (omega arith))
      ∙ (get_or-set_other (sets l (take k cs)) (id_of cs k) x (v (get_or cs k no_change)) d (n k (omega arith)) ∙ sets_else l cs x d k (omega arith) (λ i l. n i (omega arith))))

  pub unwritten : (l : List A) (cs : List Change) (x : ℕ) (d : A) → ((i : ℕ) → i < length cs → x ≢ id_of cs i) → get_or (sets l cs) x d ≡ get_or l x d
  unwritten l cs x d n = subst (λ (z : List Change). get_or (sets l z) x d ≡ get_or l x d) (take-length cs) (sets_else l cs x d (length cs) (omega arith) n)

  pub sets_here : (l : List A) (cs : List Change) (d : A) (k : ℕ) → k ≤ length cs → ((i j : ℕ) → i < j → j < length cs → id_of cs i < id_of cs j)
      → ((i : ℕ) → i < length cs → id_of cs i < length l) → (i : ℕ) → i < k → get_or (sets l (take k cs)) (id_of cs i) d ≡ v (get_or cs i no_change)
  sets_here l cs d zero h up inside i low = absurd (omega arith)
  sets_here l cs d (suc k) h up inside i low =
      let size = sets_length l (take k cs) in
      subst (λ (z : ℕ). get_or (sets l (take z cs)) (id_of cs i) d ≡ v (get_or cs i no_change)) (add-one k)
      (ap (λ (z : List A). get_or z (id_of cs i) d) (sets_more l cs k (omega arith))
      ∙ dite (ℕ_discrete i k)
      (λ e. ap (λ (z : ℕ). get_or (set (sets l (take k cs)) (id_of cs k) (v (get_or cs k no_change))) (id_of cs z) d) e
      ∙ (get_or-set_same (sets l (take k cs)) (id_of cs k) (v (get_or cs k no_change)) d (omega (arith, inside k (omega arith))) ∙ ap (λ (z : ℕ). v (get_or cs z no_change)) (sym e)))
      (λ n. get_or-set_other (sets l (take k cs)) (id_of cs k) (id_of cs i) (v (get_or cs k no_change)) d (λ e. omega (arith, up i k (omega arith) (omega arith)))
      ∙ sets_here l cs d k (omega arith) up inside i (omega arith)))

  -- of ascending variables, the next is none of those before
  pub not_yet : (cs : List Change) (k : ℕ) → k < length cs → ((i j : ℕ) → i < j → j < length cs → id_of cs i < id_of cs j) → (i : ℕ) → i < k → id_of cs k ≢ id_of cs i
  not_yet cs k h up i low e = omega (arith, up i k low h)
