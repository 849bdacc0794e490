-- Writes in order, and those of them that change a value.
use Rattle.std.proofs.Common.{◌≡◌, ◌≢◌, ℕ, zero, suc, ◌+◌, ◌<◌, ◌≤◌, ℤ, pos, Bool, true, false, not, cond, List, [], ◌∷◌, ◌++◌, length, take, get_or, set, sym, refl, ap, ◌∙◌, subst, ⊎_elim, arith, add-one, length-append, append-nil, true≢false}
use Rattle.std.specs.Ordering.{int_eq}
use Rattle.std.proofs.lemmas.Bool.{cases_Bool, cond-true, cond-false, false_from_ne_true}
use Rattle.std.proofs.lemmas.Bool.Decides.{Decides-int_eq}
use Rattle.std.proofs.lemmas.List.{length-take-le, get_or-take, set-get_or}
use Rattle.std.proofs.lemmas.List.Elements.{filter_more}
use Rattle.std.proofs.lemmas.List.Sums.{fold-append}
use lib.Seq.{take-length}
use Rattle.txn_words.specs.Words.{state_value}
use Rattle.txn_words.specs.Stores.{Change, no_change, id_of, new_of, with_changes, AreChanges}
use Rattle.cells.specs.Publishing.{AreWrites, is_change, changes_of}
use Rattle.cells.proofs.Changes.{sets, sets_more, sets_else, not_yet}

pub differs : (m : List ℤ) (c : Change) → state_value m c.0.0 ≢ c.1 → is_change m c ≡ true
differs m c n = ap not (false_from_ne_true (int_eq (state_value m c.0.0) c.1) (λ e. n ((Decides-int_eq (state_value m c.0.0) c.1).0 e)))

pub agrees : (m : List ℤ) (c : Change) → state_value m c.0.0 ≡ c.1 → is_change m c ≡ false
agrees m c e = ap not ((Decides-int_eq (state_value m c.0.0) c.1).1 e)

changed : (m : List ℤ) (c : Change) → is_change m c ≡ true → c.1 ≢ state_value m c.0.0
changed m c e same = true≢false (sym e ∙ ap not ((Decides-int_eq (state_value m c.0.0) c.1).1 (sym same)))

not_false : (b : Bool) → not b ≡ false → b ≡ true
not_false true e = refl
not_false false e = absurd (true≢false e)

unchanged : (m : List ℤ) (c : Change) → is_change m c ≡ false → state_value m c.0.0 ≡ c.1
unchanged m c e = (Decides-int_eq (state_value m c.0.0) c.1).0 (not_false (int_eq (state_value m c.0.0) c.1) e)

-- each of cs is one of the writes ws, and changes a value
abbrev AreOf : List ℤ → List Change → List Change → Type 0
AreOf m cs ws = (i : ℕ) → i < length cs → (j : ℕ) × (j < length ws) × (get_or cs i no_change ≡ get_or ws j no_change) × (is_change m (get_or ws j no_change) ≡ true)

of_case : (m : List ℤ) (w : Change) (cs ws : List Change) (b : Bool) → is_change m w ≡ b → AreOf m cs ws → AreOf m (cond b (w ∷ cs) cs) (w ∷ ws)
of_case m w cs ws false e h i l = let t = h i l in (suc t.0, omega (arith, t.1), t.2, t.3)
of_case m w cs ws true e h zero l = (0, omega arith, refl, e)
of_case m w cs ws true e h (suc i) l = let t = h i (omega (arith, l)) in (suc t.0, omega (arith, t.1), t.2, t.3)

each_of : (m : List ℤ) (ws : List Change) → AreOf m (changes_of m ws) ws
each_of m [] i l = absurd (omega (arith, l))
each_of m (w ∷ ws) i l = of_case m w (changes_of m ws) ws (is_change m w) refl (each_of m ws) i l

-- two of cs are two of the writes ws, in the same order
abbrev InOrder : List Change → List Change → Type 0
InOrder cs ws = (i j : ℕ) → i < j → j < length cs → (x : ℕ) × (y : ℕ) × (x < y) × (y < length ws) × (get_or cs i no_change ≡ get_or ws x no_change) × (get_or cs j no_change ≡ get_or ws y no_change)

order_case : (m : List ℤ) (w : Change) (cs ws : List Change) (b : Bool) → AreOf m cs ws → InOrder cs ws → InOrder (cond b (w ∷ cs) cs) (w ∷ ws)
order_case m w cs ws false f h i j less l = let t = h i j less l in (suc t.0, suc t.1, omega (arith, t.2), omega (arith, t.3), t.4, t.5)
order_case m w cs ws true f h i zero less l = absurd (omega (arith, less))
order_case m w cs ws true f h zero (suc j) less l = let t = f j (omega (arith, l)) in (0, suc t.0, omega arith, omega (arith, t.1), refl, t.2)
order_case m w cs ws true f h (suc i) (suc j) less l = let t = h i j (omega (arith, less)) (omega (arith, l)) in (suc t.0, suc t.1, omega (arith, t.2), omega (arith, t.3), t.4, t.5)

in_order : (m : List ℤ) (ws : List Change) → InOrder (changes_of m ws) ws
in_order m [] i j less l = absurd (omega (arith, l))
in_order m (w ∷ ws) i j less l = order_case m w (changes_of m ws) ws (is_change m w) (each_of m ws) (in_order m ws) i j less l

-- the writes that change a value are changes
pub are_changes : (m : List ℤ) (ws : List Change) → AreWrites m ws → AreChanges m (changes_of m ws)
are_changes m ws a = record {
  exist = λ i l. let t = each_of m ws i l in subst (λ (c : Change). c.0.0 < length m) (sym t.2) (a.exist t.0 t.1);
  ascend = λ i j less l. let t = in_order m ws i j less l in subst (λ (p : Change × Change). p.0.0.0 < p.1.0.0) (λ k. (sym t.4 k, sym t.5 k)) (a.ascend t.0 t.1 t.2 t.3);
  differ = λ i l. let t = each_of m ws i l in subst (λ (c : Change). c.1 ≢ state_value m c.0.0) (sym t.2) (changed m (get_or ws t.0 no_change) t.3);
}

-- a write that changes a value is one of the changes
abbrev Among : List ℤ → List Change → List Change → Type 0
Among m cs ws = (k : ℕ) → k < length ws → is_change m (get_or ws k no_change) ≡ true → (j : ℕ) × (j < length cs) × (get_or cs j no_change ≡ get_or ws k no_change)

kept_case : (m : List ℤ) (w : Change) (cs ws : List Change) (b : Bool) → is_change m w ≡ b → Among m cs ws → Among m (cond b (w ∷ cs) cs) (w ∷ ws)
kept_case m w cs ws true e h zero l d = (0, omega arith, refl)
kept_case m w cs ws true e h (suc k) l d = let t = h k (omega (arith, l)) d in (suc t.0, omega (arith, t.1), t.2)
kept_case m w cs ws false e h zero l d = absurd (true≢false (sym d ∙ e))
kept_case m w cs ws false e h (suc k) l d = h k (omega (arith, l)) d

pub kept : (m : List ℤ) (ws : List Change) → Among m (changes_of m ws) ws
kept m [] k l d = absurd (omega (arith, l))
kept m (w ∷ ws) k l d = kept_case m w (changes_of m ws) ws (is_change m w) refl (kept m ws) k l d

-- the next write's variable is none of those that changed before
pub apart : (m : List ℤ) (ws : List Change) (k : ℕ) → k < length ws → ((i j : ℕ) → i < j → j < length ws → id_of ws i < id_of ws j) → (i : ℕ) → i < length (changes_of m (take k ws)) → id_of ws k ≢ id_of (changes_of m (take k ws)) i
apart m ws k l up i low same =
    let t = each_of m (take k ws) i low in
    let size = length-take-le k ws (omega (arith, l)) in
    let before : t.0 < k = omega (arith, t.1, size) in
    let there : id_of (changes_of m (take k ws)) i ≡ id_of ws t.0 = ap (λ (c : Change). c.0.0) (t.2 ∙ get_or-take k ws t.0 no_change before) in
    omega (arith, up t.0 k before l, same, there)

pub next_changes : (m : List ℤ) (ws : List Change) (k : ℕ) → k < length ws → is_change m (get_or ws k no_change) ≡ true → changes_of m (take (k + 1) ws) ≡ changes_of m (take k ws) ++ get_or ws k no_change ∷ []
next_changes m ws k l e =
    filter_more (is_change m) ws k no_change l
    ∙ ap (λ (z : List Change). changes_of m (take k ws) ++ z) (cond-true (is_change m (get_or ws k no_change)) (get_or ws k no_change ∷ []) [] e)

pub next_stays : (m : List ℤ) (ws : List Change) (k : ℕ) → k < length ws → is_change m (get_or ws k no_change) ≡ false → changes_of m (take (k + 1) ws) ≡ changes_of m (take k ws)
next_stays m ws k l e =
    filter_more (is_change m) ws k no_change l
    ∙ (ap (λ (z : List Change). changes_of m (take k ws) ++ z) (cond-false (is_change m (get_or ws k no_change)) (get_or ws k no_change ∷ []) [] e) ∙ append-nil (changes_of m (take k ws)))

-- the count of stores, over a write that changes a value
pub count_next : (m : List ℤ) (ws : List Change) (n k : ℕ) → k < length ws → is_change m (get_or ws k no_change) ≡ true → n + length (changes_of m (take (k + 1) ws)) ≡ n + length (changes_of m (take k ws)) + 1
count_next m ws n k l e =
    let more = ap (λ (z : List Change). length z) (next_changes m ws k l e) in
    let one = length-append (changes_of m (take k ws)) (get_or ws k no_change ∷ []) in
    omega (arith, more, one)

-- and a list in which the changes were written
pub sets_next : {A : Type 0} (v : Change → A) (l : List A) (m : List ℤ) (ws : List Change) (k : ℕ) → k < length ws → is_change m (get_or ws k no_change) ≡ true
    → sets v l (changes_of m (take (k + 1) ws)) ≡ set (sets v l (changes_of m (take k ws))) (id_of ws k) (v (get_or ws k no_change))
sets_next {A} v l m ws k h e =
    ap (sets v l) (next_changes m ws k h e)
    ∙ fold-append (λ (l : List A) (c : Change). set l c.0.0 (v c)) l (changes_of m (take k ws)) (get_or ws k no_change ∷ [])

value_stays : (m : List ℤ) (ws : List Change) (k : ℕ) → AreWrites m ws → k < length ws → is_change m (get_or ws k no_change) ≡ false
    → set (with_changes m (take k ws)) (id_of ws k) (new_of ws k) ≡ with_changes m (take k ws)
value_stays m ws k a l e =
    let old : List ℤ = with_changes m (take k ws) in
    let before : get_or old (id_of ws k) (pos 0) ≡ state_value m (id_of ws k) =
    sets_else (λ (d : Change). d.1) m ws (id_of ws k) (pos 0) k (omega (arith, l)) (not_yet (λ (d : Change). d.1) ws k l a.ascend) in
    let is : new_of ws k ≡ get_or old (id_of ws k) (pos 0) = sym (before ∙ unchanged m (get_or ws k no_change) e) in
    ap (λ (z : ℤ). set old (id_of ws k) z) is ∙ set-get_or old (id_of ws k) (pos 0)

enough : (m : List ℤ) (ws : List Change) → AreWrites m ws → (k : ℕ) → k ≤ length ws → with_changes m (changes_of m (take k ws)) ≡ with_changes m (take k ws)
enough m ws a zero h = refl
enough m ws a (suc k) h =
    let l : k < length ws = omega (arith, h) in
    let before = enough m ws a k (omega (arith, h)) in
    let next = sets_more (λ (d : Change). d.1) m ws k l in
    subst (λ (z : ℕ). with_changes m (changes_of m (take z ws)) ≡ with_changes m (take z ws)) (add-one k)
    (⊎_elim
    (λ (e : is_change m (get_or ws k no_change) ≡ true).
    sets_next (λ (d : Change). d.1) m m ws k l e ∙ (ap (λ (z : List ℤ). set z (id_of ws k) (new_of ws k)) before ∙ sym next))
    (λ (e : is_change m (get_or ws k no_change) ≡ false).
    ap (with_changes m) (next_stays m ws k l e) ∙ (before ∙ sym (next ∙ value_stays m ws k a l e)))
    (cases_Bool (is_change m (get_or ws k no_change))))

-- those of the writes that change a value change the state as all of them do
pub changes_enough : (m : List ℤ) (ws : List Change) → AreWrites m ws → with_changes m (changes_of m ws) ≡ with_changes m ws
changes_enough m ws a = subst (λ (z : List Change). with_changes m (changes_of m z) ≡ with_changes m z) (take-length ws) (enough m ws a (length ws) (omega arith))
