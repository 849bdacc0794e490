-- Distinct numbers, and how they are found.
use Rattle.std.proofs.Common.{◌≡◌, ◌≢◌, ℕ, zero, suc, ◌-◌, ◌<◌, ◌≤◌, Bool, true, false, List, [], ◌∷◌, ◌++◌, length, Some, refl, sym, ap, subst, ◌∙◌, arith, ⊎_elim, ◌==◌, eqb, ◌||◌, get_or, slice_get, Option, None}
use Rattle.std.specs.Prelude.{IfSome}
use Rattle.std.specs.List.{AllByRecursion, IsDistinct, list_any}
use Rattle.std.proofs.lemmas.Bool.Decides.{eqb_tells}
use Rattle.std.proofs.Math.ListN.{get_or-append}
use Rattle.std.proofs.lemmas.Map.Steps.{length-le_from_distinct_below}
use Rattle.attempt_writes.specs.NumberIndex.{AreHeads, AreLinked, IsAbsent, IsFound, IsHead, IsNewest, bucket_of}
use Rattle.attempt_writes.proofs.Placed.{key_of}

pub apart : (m n : ℕ) → m ≢ n → eqb m n ≡ false
apart m n ne = ⊎_elim (λ (t : ((m == n) ≡ true) × (m ≡ n)). absurd (ne t.1)) (λ (t : ((m == n) ≡ false) × (m ≢ n)). t.0) (eqb_tells m n)

all_more : (P : ℕ → Type 0) (xs : List ℕ) (n : ℕ) → AllByRecursion P xs → P n → AllByRecursion P (xs ++ n ∷ [])
all_more P [] n a p = (p, tt)
all_more P (x ∷ xs) n a p = (a.0, all_more P xs n a.1 p)

pub distinct_more : (xs : List ℕ) (n : ℕ) → IsDistinct eqb xs → IsAbsent xs n → IsDistinct eqb (xs ++ n ∷ [])
unfolding IsDistinct
distinct_more [] n d a = (tt, tt)
distinct_more (x ∷ xs) n d a =
    (all_more (λ y. eqb x y ≡ false) xs n d.0 (apart x n (λ e. a zero (ap Some e))), distinct_more xs n d.1 (λ k. a (suc k)))

pub known_more : (m : ℕ) (xs : List ℕ) (n : ℕ) → AllByRecursion (λ k. k < m) xs → n < m → AllByRecursion (λ k. k < m) (xs ++ n ∷ [])
known_more m xs n a lt = all_more (λ k. k < m) xs n a lt

member_step : (b : Bool) (q x m : ℕ) (rest : Bool) → eqb q x ≡ b → x < m → (rest ≡ true → q < m) → (b || rest) ≡ true → q < m
member_step true q x m rest e lt more h = let same : q ≡ x = key_of q x e in omega (arith, same, lt)
member_step false q x m rest e lt more h = more h

member_known : (m : ℕ) (xs : List ℕ) (q : ℕ) → AllByRecursion (λ k. k < m) xs → list_any (eqb q) xs ≡ true → q < m
member_known m [] q a h = absurd (cc)
member_known m (x ∷ xs) q a h = member_step (eqb q x) q x m (list_any (eqb q) xs) refl a.0 (member_known m xs q a.1) h

-- there are no more distinct numbers below m than m
pub few_distinct : (m : ℕ) (xs : List ℕ) → IsDistinct eqb xs → AllByRecursion (λ k. k < m) xs → length xs ≤ m
few_distinct m xs d a = length-le_from_distinct_below xs m d (λ q h. member_known m xs q a h)

abbrev Agree : ℕ → List ℕ → List ℕ → Type 0
Agree count xs ys = (j : ℕ) → j < count → get_or xs j 0 ≡ get_or ys j 0

same_head : (b : ℕ) (xs ys : List ℕ) (count k head : ℕ) → k < count → Agree count xs ys → IsHead b xs count k head → IsHead b ys count k head
same_head b xs ys count k head lt same h =
    let below : head - 1 < count = omega (arith, h.newer, h.within) in
    record { newer = h.newer; within = h.within; same = ap (bucket_of b) (sym (same (head - 1) below)) ∙ h.same ∙ ap (bucket_of b) (same k lt) }

same_heads : (b : ℕ) (xs ys heads : List ℕ) (count : ℕ) → Agree count xs ys → AreHeads b xs count heads → AreHeads b ys count heads
same_heads b xs ys heads count same h =
    λ k lt. subst (λ (n : ℕ). IsHead b ys count k (get_or heads (bucket_of b n) 0)) (same k lt) (same_head b xs ys count k _ lt same (h k lt))

same_newest : (b : ℕ) (xs ys : List ℕ) (count c at : ℕ) → Agree count xs ys → IsNewest b xs count c at → IsNewest b ys count c at
same_newest b xs ys count c at same h =
    record {
      within = h.within;
      here = λ some. let below : at - 1 < count = omega (arith, some, h.within) in ap (bucket_of b) (sym (same (at - 1) below)) ∙ h.here some;
      no_newer = λ k le lt e. h.no_newer k le lt (ap (bucket_of b) (same k lt) ∙ e);
    }

same_links : (b : ℕ) (xs ys links : List ℕ) (count : ℕ) → Agree count xs ys → AreLinked b xs count links → AreLinked b ys count links
same_links b xs ys links count same h =
    λ k lt. subst (λ (n : ℕ). IsNewest b ys k (bucket_of b n) (get_or links k 0)) (same k lt) (same_newest b xs ys k _ _ (λ j l. same j (omega (arith, l, lt))) (h k lt))

-- the first numbers are found as before where others come behind them
pub found_same : (xs ys heads links : List ℕ) (count : ℕ) → Agree count xs ys → IsFound xs count heads links → IsFound ys count heads links
found_same xs ys heads links count same h =
    record {
      room = h.room;
      many = h.many;
      wide = h.wide;
      headed = λ some. same_heads (length heads) xs ys heads count same (h.headed some);
      linked = λ some. same_links (length heads) xs ys links count same (h.linked some);
    }

agree_more : (xs : List ℕ) (n : ℕ) → Agree (length xs) xs (xs ++ n ∷ [])
agree_more xs n = λ j lt. sym (get_or-append xs (n ∷ []) 0 j lt)

pub found_more : (xs heads links : List ℕ) (n : ℕ) → IsFound xs (length xs) heads links → IsFound (xs ++ n ∷ []) (length xs) heads links
found_more xs heads links n h = found_same xs (xs ++ n ∷ []) heads links (length xs) (agree_more xs n) h

-- where there is no number, any heads and links will do
pub found_none : (xs heads links : List ℕ) (count : ℕ) → IsFound xs count heads links → IsFound [] 0 heads links
found_none xs heads links count h =
    record {
      room = omega arith;
      many = h.many;
      wide = h.wide;
      headed = λ some k lt. absurd (omega (arith, lt));
      linked = λ some k lt. absurd (omega (arith, lt));
    }

pub indexed_none : (xs : List ℕ) → xs ≡ [] → IsDistinct eqb xs × AllByRecursion (λ k. k < 1048832) xs
unfolding IsDistinct
indexed_none xs e = subst (λ (l : List ℕ). IsDistinct eqb l × AllByRecursion (λ k. k < 1048832) l) (sym e) (tt, tt)

pub found_empty : (xs heads links : List ℕ) → xs ≡ [] → heads ≡ [] → links ≡ [] → IsFound xs (length xs) heads links
found_empty xs heads links e f g =
    let none : length xs ≡ 0 = ap length e in
    let no_heads : length heads ≡ 0 = ap length f in
    let no_links : length links ≡ 0 = ap length g in
    record {
      room = omega (arith, none);
      many = λ some. absurd (omega (arith, some, no_heads));
      wide = omega (arith, no_links, no_heads);
      headed = λ some. absurd (omega (arith, some, no_heads));
      linked = λ some. absurd (omega (arith, some, no_heads));
    }

pub all_at : (P : ℕ → Type 0) (xs : List ℕ) (k n : ℕ) → AllByRecursion P xs → slice_get xs k ≡ Some n → P n
all_at P [] k n a e = absurd (cc)
all_at P (x ∷ xs) zero n a e = let same : x ≡ n = cc in subst P same a.0
all_at P (x ∷ xs) (suc k) n a e = all_at P xs k n a.1 e

pub not_apart : (n : ℕ) → eqb n n ≡ false → ⊥
not_apart n e = ⊎_elim (λ (t : ((n == n) ≡ true) × (n ≡ n)). absurd (cc)) (λ (t : ((n == n) ≡ false) × (n ≢ n)). absurd (t.1 refl)) (eqb_tells n n)

-- of distinct numbers each has one place
only_place : (xs : List ℕ) (n j k : ℕ) → IsDistinct eqb xs → slice_get xs j ≡ Some n → slice_get xs k ≡ Some n → j ≡ k
unfolding IsDistinct
only_place [] n j k d e f = absurd (cc)
only_place (x ∷ xs) n zero zero d e f = refl
only_place (x ∷ xs) n zero (suc k) d e f =
    let same : x ≡ n = cc in
    absurd (not_apart n (subst (λ (y : ℕ). eqb y n ≡ false) same (all_at (λ y. eqb x y ≡ false) xs k n d.0 f)))
only_place (x ∷ xs) n (suc j) zero d e f =
    let same : x ≡ n = cc in
    absurd (not_apart n (subst (λ (y : ℕ). eqb y n ≡ false) same (all_at (λ y. eqb x y ≡ false) xs j n d.0 e)))
only_place (x ∷ xs) n (suc j) (suc k) d e f = ap suc (only_place xs n j k d.1 e f)

pub only_if_some : (xs : List ℕ) (n : ℕ) (o : Option ℕ) → IsDistinct eqb xs → IfSome o (λ k. slice_get xs k ≡ Some n) → IfSome o (λ k. (j : ℕ) → slice_get xs j ≡ Some n → j ≡ k)
only_if_some xs n None d h = tt
only_if_some xs n (Some k) d h = λ j e. only_place xs n j k d e h
