-- The changes from one state to another.
use Rattle.std.proofs.Common.{◌≡◌, ◌≢◌, ◌⊎◌, ℕ, zero, suc, ◌+◌, ◌-◌, ◌<◌, ◌≤◌, Bool, true, false, if◌then◌else◌, List, [], ◌∷◌, ◌++◌, ℤ, pos, length, get_or, set, sym, refl, ap, ◌∙◌, subst, ⊎_elim, inl, inr, arith, length-append, append_assoc}
use Rattle.std.specs.Ordering.{int_eq}
use Rattle.std.proofs.lemmas.Bool.Decides.{Decides-int_eq, not_from_Decides}
use Rattle.txn_programs.specs.Meaning.{State}
use Rattle.txn_words.specs.Stores.{Change, id_of, new_of, with_changes, AreChanges}
use Rattle.world_law.specs.World.{differences}

equal : (a b : ℤ) → ((int_eq a b ≡ true) × (a ≡ b)) ⊎ ((int_eq a b ≡ false) × (a ≢ b))
equal a b = by (int_eq a b) refl
  where
    by : (t : Bool) → int_eq a b ≡ t → ((int_eq a b ≡ true) × (a ≡ b)) ⊎ ((int_eq a b ≡ false) × (a ≢ b))
    by true e = inl (e, (Decides-int_eq a b).0 e)
    by false e = inr (e, not_from_Decides (int_eq a b) (Decides-int_eq a b) e)

set_at : (pre m : State) (a b : ℤ) → set (pre ++ a ∷ m) (length pre) b ≡ pre ++ b ∷ m
set_at [] m a b = refl
set_at (v ∷ pre) m a b = ap (λ (l : State). v ∷ l) (set_at pre m a b)

writes_on : (pre m m' : State) → length m' ≡ length m → with_changes (pre ++ m) (differences (length pre) m m') ≡ pre ++ m'
writes_on pre [] [] e = refl
writes_on pre [] (b ∷ m') e = absurd (omega arith)
writes_on pre (a ∷ m) [] e = absurd (omega arith)
writes_on pre (a ∷ m) (b ∷ m') e =
    let more : (v : ℤ) → with_changes (pre ++ v ∷ m) (differences (length pre + 1) m m') ≡ pre ++ v ∷ m' = λ v.
    subst (λ (t : State × ℕ × State). with_changes t.0 (differences t.1 m m') ≡ t.2) (λ i. (append_assoc pre (v ∷ []) m i, length-append pre (v ∷ []) i, append_assoc pre (v ∷ []) m' i)) (writes_on (pre ++ v ∷ []) m m' (omega arith)) in
    ⊎_elim
    (λ (t : (int_eq a b ≡ true) × (a ≡ b)). ap (λ (u : Bool). with_changes (pre ++ a ∷ m) (if u then differences (length pre + 1) m m' else (record { 0 = length pre }, b) ∷ differences (length pre + 1) m m')) t.0
    ∙ (more a ∙ ap (λ (v : ℤ). pre ++ v ∷ m') t.1))
    (λ (t : (int_eq a b ≡ false) × (a ≢ b)). ap (λ (u : Bool). with_changes (pre ++ a ∷ m) (if u then differences (length pre + 1) m m' else (record { 0 = length pre }, b) ∷ differences (length pre + 1) m m')) t.0
    ∙ (ap (λ (l : State). with_changes l (differences (length pre + 1) m m')) (set_at pre m a b) ∙ more b))
    (equal a b)

pub changes_lead : (m m' : State) → length m' ≡ length m → with_changes m (differences 0 m m') ≡ m'
changes_lead m m' e = writes_on [] m m' e

abbrev Ranged : ℕ → State → List Change → Type 0
Ranged k m cs =
    ((i : ℕ) → i < length cs → (k ≤ id_of cs i) × (id_of cs i < k + length m) × (new_of cs i ≢ get_or m (id_of cs i - k) (pos 0)))
    × ((i j : ℕ) → i < j → j < length cs → id_of cs i < id_of cs j)

shifted : (k : ℕ) (a : ℤ) (m : State) (cs : List Change) → Ranged (k + 1) m cs → Ranged k (a ∷ m) cs
shifted k a m cs r = (
  λ i l. let h = r.0 i l in let low = h.0 in let high = h.1 in (omega arith, omega arith, λ e. h.2 (e ∙ ap (λ (j : ℕ). get_or (a ∷ m) j (pos 0)) (let s : id_of cs i - k ≡ suc (id_of cs i - (k + 1)) = omega arith in s))),
  r.1,
)

with_one : (k : ℕ) (a b : ℤ) (m : State) (cs : List Change) → a ≢ b → Ranged (k + 1) m cs → Ranged k (a ∷ m) ((record { 0 = k }, b) ∷ cs)
with_one k a b m cs n r = (first, ascend)
  where
    all : List Change
    all = (record { 0 = k }, b) ∷ cs

    first : (i : ℕ) → i < length all → (k ≤ id_of all i) × (id_of all i < k + length (a ∷ m)) × (new_of all i ≢ get_or (a ∷ m) (id_of all i - k) (pos 0))
    first zero l = (omega arith, omega arith, λ e. n (sym (e ∙ ap (λ (j : ℕ). get_or (a ∷ m) j (pos 0)) (let s : k - k ≡ 0 = omega arith in s))))
    first (suc i) l = (shifted k a m cs r).0 i (omega arith)

    ascend : (i j : ℕ) → i < j → j < length all → id_of all i < id_of all j
    ascend i zero up l = absurd (omega arith)
    ascend zero (suc j) up l = let h = r.0 j (omega arith) in let low = h.0 in omega arith
    ascend (suc i) (suc j) up l = r.1 i j (omega arith) (omega arith)

ranged : (k : ℕ) (m m' : State) → Ranged k m (differences k m m')
ranged k [] m' = (λ i l. absurd (omega arith), λ i j up l. absurd (omega arith))
ranged k (a ∷ m) [] = (λ i l. absurd (omega arith), λ i j up l. absurd (omega arith))
ranged k (a ∷ m) (b ∷ m') = ⊎_elim
    (λ (t : (int_eq a b ≡ true) × (a ≡ b)). subst (λ (u : Bool). Ranged k (a ∷ m) (if u then differences (k + 1) m m' else (record { 0 = k }, b) ∷ differences (k + 1) m m')) (sym t.0) (shifted k a m _ (ranged (k + 1) m m')))
    (λ (t : (int_eq a b ≡ false) × (a ≢ b)). subst (λ (u : Bool). Ranged k (a ∷ m) (if u then differences (k + 1) m m' else (record { 0 = k }, b) ∷ differences (k + 1) m m')) (sym t.0) (with_one k a b m _ t.1 (ranged (k + 1) m m')))
    (equal a b)

pub are_changes : (m m' : State) → AreChanges m (differences 0 m m')
are_changes m m' = let r = ranged 0 m m' in record {
  exist = λ i l. let h = (r.0 i l).1 in omega arith;
  ascend = r.1;
  differ = λ i l e. (r.0 i l).2 (e ∙ ap (λ (j : ℕ). get_or m j (pos 0)) (let s : id_of (differences 0 m m') i ≡ id_of (differences 0 m m') i - 0 = omega arith in s));
}
