-- What a run noted, told as writes: stored in the state before it they give the state after it.
use Rattle.std.proofs.Common.{◌≡◌, ◌≢◌, ℕ, zero, suc, ◌<◌, ◌≤◌, pos, List, [], ◌∷◌, length, map, get_or, set, sym, refl, ◌∙◌, ap, subst, arith, ⊎_elim, true, false, ◌==◌}
use Rattle.std.specs.List.{All, AllByRecursion, Contains}
use Rattle.std.specs.List.Sorted.{IsStrictlySortedBy}
use Rattle.std.specs.Ordering.{nat_cmp}
use Rattle.std.specs.declared.cmp.Ordering.TheVariants.{Less}
use Rattle.std.proofs.lemmas.Bool.Decides.{eqb_tells}
use Rattle.std.proofs.lemmas.Cmp.{ranked}
use Rattle.std.proofs.lemmas.List.{ext_get_or, get_or-set_same, get_or-set_other, length-set}
use Rattle.std.proofs.lemmas.List.Elements.{All-nil, All-cons, recursion_from_All}
use Rattle.txn_words.specs.Words.{state_value}
use Rattle.txn_words.specs.Stores.{Change, with_changes}
use Rattle.txn_programs.specs.Meaning.{State}
use Rattle.txn_evaluator.specs.declared.notes.Note.{Note}
use Rattle.txn_evaluator.specs.Notes.{undone, AreInside}
use Rattle.attempt.specs.Asking.{Known}
use Rattle.attempt.specs.Order.{AllKnown, AllAfter, Ascending}
use Rattle.book.specs.Written.{place_of, write_at, TellNoted}
use Rattle.book.proofs.Committing.{length-with_changes}

-- where each place that was noted is below k
pub places_inside : (k : ℕ) (ns : List Note) → AreInside k ns → All (λ x. x < k) (map place_of ns)
places_inside k [] h = All-nil (λ x. x < k)
places_inside k (n ∷ ns) h = All-cons (λ x. x < k) n.place (map place_of ns) h.0 (places_inside k ns h.1)

pub note_inside : (k : ℕ) (ns : List Note) (i : ℕ) (d : Note) → AreInside k ns → i < length ns → (get_or ns i d).place < k
note_inside k [] i d h low = absurd (omega (arith, low))
note_inside k (n ∷ ns) zero d h low = h.0
note_inside k (n ∷ ns) (suc i) d h low = note_inside k ns i d h.1 (omega (arith, low))

pub inside_more : (j k : ℕ) (ns : List Note) → j ≤ k → AreInside j ns → AreInside k ns
inside_more j k [] le h = tt
inside_more j k (n ∷ ns) le h = (omega (arith, le, h.0), inside_more j k ns le h.1)

abbrev Tell : State → Known → Type 0
Tell n w = AllByRecursion (λ (p : Change). p.1 ≡ state_value n p.0.0) w

writes_after : (m : State) (x : ℕ) (xs : List ℕ) → AllByRecursion (λ y. nat_cmp x y ≡ Less) xs → AllAfter (record { 0 = x }) (map (write_at m) xs)
writes_after m x [] h = tt
writes_after m x (y ∷ ys) h = (ranked x y Less (sym h.0), writes_after m x ys h.1)

writes_ascend : (m : State) (xs : List ℕ) → IsStrictlySortedBy nat_cmp xs → Ascending (map (write_at m) xs)
unfolding IsStrictlySortedBy
writes_ascend m [] h = tt
writes_ascend m (x ∷ xs) h = (writes_after m x xs h.0, writes_ascend m xs h.1)

writes_known : (k : ℕ) (m : State) (xs : List ℕ) → AllByRecursion (λ x. x < k) xs → AllKnown k (map (write_at m) xs)
writes_known k m [] h = tt
writes_known k m (x ∷ xs) h = (h.0, writes_known k m xs h.1)

writes_tell : (m : State) (xs : List ℕ) → Tell m (map (write_at m) xs)
writes_tell m [] = tt
writes_tell m (x ∷ xs) = (refl, writes_tell m xs)

here : {X : Type 0} (x : X) (xs : List X) → Contains (x ∷ xs) x
here x xs = (zero, omega arith, refl)

there : {X : Type 0} (y x : X) (xs : List X) → Contains xs x → Contains (y ∷ xs) x
there y x xs h = (suc h.0, omega (arith, h.1), h.2)

has_write : (m : State) (xs : List ℕ) (x : ℕ) (k : ℕ) → k < length xs → get_or xs k x ≡ x → Contains (map (write_at m) xs) (write_at m x)
has_write m [] x k low e = absurd (omega (arith, low))
has_write m (y ∷ ys) x zero low e = (zero, omega arith, ap (write_at m) e)
has_write m (y ∷ ys) x (suc k) low e = there (write_at m y) (write_at m x) (map (write_at m) ys) (has_write m ys x k (omega (arith, low)) e)

all_told : (m : State) (xs : List ℕ) (ns : List Note) → ((x : ℕ) → Contains (map place_of ns) x → Contains xs x) → AllByRecursion (λ (n : Note). Contains (map (write_at m) xs) (write_at m n.place)) ns
all_told m xs [] h = tt
all_told m xs (n ∷ ns) h =
    let c = h n.place (here n.place (map place_of ns)) in
    (has_write m xs n.place c.0 c.1 c.2, all_told m xs ns (λ x d. h x (there n.place x (map place_of ns) d)))

-- the noted places in order, with their values in a state
pub places_tell : (ns : List Note) (m : State) (xs : List ℕ) → IsStrictlySortedBy nat_cmp xs → All (λ x. x < length m) xs → ((x : ℕ) → Contains (map place_of ns) x → Contains xs x) → TellNoted ns m (map (write_at m) xs)
places_tell ns m xs s k h =
    record {
      ascending = writes_ascend m xs s;
      known = writes_known (length m) m xs (recursion_from_All (λ x. x < length m) xs k);
      told = writes_tell m xs;
      all = all_told m xs ns h;
    }

same_or_other : {G : Type 0} (x y : ℕ) → (x ≡ y → G) → (x ≢ y → G) → G
same_or_other x y f g = ⊎_elim (λ (t : (x == y ≡ true) × (x ≡ y)). f t.1) (λ (t : (x == y ≡ false) × (x ≢ y)). g t.1) (eqb_tells x y)

-- one more value of the state n is stored
tell_set : (n m : State) (p : Change) (x : ℕ) → p.1 ≡ state_value n p.0.0 → state_value m x ≡ state_value n x → x < length m → state_value (set m p.0.0 p.1) x ≡ state_value n x
tell_set n m p x t e low =
    same_or_other p.0.0 x
    (λ s. subst (λ k. state_value (set m p.0.0 p.1) k ≡ state_value n k) s (get_or-set_same m p.0.0 p.1 (pos 0) (omega (arith, s, low)) ∙ t))
    (λ ne. get_or-set_other m p.0.0 x p.1 (pos 0) (λ s. ne (sym s)) ∙ e)

-- what is as in the state n stays so
tell_stays : (n : State) (w : Known) (m : State) (x : ℕ) → Tell n w → state_value m x ≡ state_value n x → x < length m → state_value (with_changes m w) x ≡ state_value n x
tell_stays n [] m x t e low = e
tell_stays n (p ∷ w) m x t e low =
    tell_stays n w (set m p.0.0 p.1) x t.1 (tell_set n m p x t.0 e low) (omega (arith, low, length-set m p.0.0 p.1))

tell_named : (n : State) (w : Known) (m : State) (x : ℕ) (k : ℕ) → Tell n w → k < length w → get_or w k (write_at n x) ≡ write_at n x → x < length m → state_value (with_changes m w) x ≡ state_value n x
tell_named n [] m x k t inside e low = absurd (omega (arith, inside))
tell_named n (p ∷ w) m x zero t inside e low =
    let at : p.0.0 ≡ x = ap (λ (q : Change). q.0.0) e in
    let now : state_value (set m p.0.0 p.1) x ≡ state_value n x =
    subst (λ k. state_value (set m p.0.0 p.1) k ≡ state_value n k) at (get_or-set_same m p.0.0 p.1 (pos 0) (omega (arith, at, low)) ∙ t.0) in
    tell_stays n w (set m p.0.0 p.1) x t.1 now (omega (arith, low, length-set m p.0.0 p.1))
tell_named n (p ∷ w) m x (suc k) t inside e low =
    tell_named n w (set m p.0.0 p.1) x k t.1 (omega (arith, inside)) e (omega (arith, low, length-set m p.0.0 p.1))

-- each place that was noted is told, and each other one is as before
value_back : (ns : List Note) (n : State) (w : Known) (m : State) (x : ℕ) → AllByRecursion (λ (k : Note). Contains w (write_at n k.place)) ns → Tell n w → x < length m → state_value m x ≡ state_value (undone ns n) x → state_value (with_changes m w) x ≡ state_value n x
value_back [] n w m x c t low e = tell_stays n w m x t e low
value_back (k ∷ ns) n w m x c t low e =
    same_or_other k.place x
    (λ s. let d = subst (λ y. Contains w (write_at n y)) s c.0 in tell_named n w m x d.0 t d.1 d.2 low)
    (λ ne. value_back ns n w m x c.1 t low (e ∙ get_or-set_other (undone ns n) k.place x k.old (pos 0) (λ s. ne (sym s))))

-- what a run left, from the state to which its notes lead back
pub told_back : (ns : List Note) (n m : State) (w : Known) → undone ns n ≡ m → length n ≡ length m → TellNoted ns n w → n ≡ with_changes m w
told_back ns n m w back long h =
    sym (ext_get_or (pos 0) (with_changes m w) n (length-with_changes m w ∙ sym long) (λ x low.
    value_back ns n w m x h.all h.told (omega (arith, low, length-with_changes m w)) (ap (λ (s : State). state_value s x) (sym back))))
