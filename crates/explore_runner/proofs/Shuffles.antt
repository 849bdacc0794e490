-- Lists of numbers in which each stands once.
use Rattle.std.proofs.Common.{◌≡◌, ◌⊎◌, inl, inr, ℕ, zero, suc, ◌+◌, ◌<◌, ◌≤◌, List, [], ◌∷◌, ◌++◌, length, map, get_or, Some, refl, sym, ◌∙◌, ap, subst, ⊎_elim, arith, length-append}
use Rattle.std.specs.List.{slice_get, All, range_with_len}
use Rattle.std.proofs.lemmas.List.{map-append}
use Rattle.std.proofs.lemmas.List.Elements.{All-head, All-tail}
use Rattle.std.proofs.lemmas.Option.{same_Some}
use Rattle.std.proofs.lemmas.Bool.{cases_eq}
use Rattle.txn_programs.specs.declared.arguments.Call.{Call}
use Rattle.txn_programs.specs.Listing.{Listing}
use Rattle.txn_programs.specs.Replay.{Stands, Once}
use Rattle.explore_law.specs.Orders.{counted}
use Rattle.explore_runner.proofs.Counts.{counted_middle, counted_next}

-- what stands before an element, and what stands after it
pub split_at : {X : Type 0} (xs : List X) (i : ℕ) (x : X) → slice_get xs i ≡ Some x → (b : List X) × (a : List X) × (xs ≡ b ++ x ∷ a)
split_at [] i x e = absurd (cc)
split_at (y ∷ ys) zero x e = ([], ys, ap (λ z. z ∷ ys) (same_Some y x e))
split_at (y ∷ ys) (suc i) x e = let s = split_at ys i x e in (y ∷ s.0, s.1, ap (λ zs. y ∷ zs) s.2)

-- all but one of them
pub stands_middle : (b a : List ℕ) (x u : ℕ) → Stands (b ++ x ∷ a) u → (u ≡ x) ⊎ Stands (b ++ a) u
stands_middle [] a x u (zero, e) = inl (sym (same_Some x u e))
stands_middle [] a x u (suc i, e) = inr (i, e)
stands_middle (y ∷ b) a x u (zero, e) = inr (zero, e)
stands_middle (y ∷ b) a x u (suc i, e) =
    ⊎_elim (λ (h : u ≡ x). inl h) (λ (h : Stands (b ++ a) u). inr (suc h.0, h.1)) (stands_middle b a x u (i, e))

pub stands_more : (b a : List ℕ) (x u : ℕ) → Stands (b ++ a) u → Stands (b ++ x ∷ a) u
stands_more [] a x u (i, e) = (suc i, e)
stands_more (y ∷ b) a x u (zero, e) = (zero, e)
stands_more (y ∷ b) a x u (suc i, e) = let h = stands_more b a x u (i, e) in (suc h.0, h.1)

pub stands_there : (b a : List ℕ) (x : ℕ) → Stands (b ++ x ∷ a) x
stands_there [] a x = (zero, refl)
stands_there (y ∷ b) a x = let h = stands_there b a x in (suc h.0, h.1)

pub once_tail : (x : ℕ) (xs : List ℕ) → Once (x ∷ xs) → Once xs
once_tail x xs h i j t p q = omega (arith, h (suc i) (suc j) t p q)

pub once_head : (x : ℕ) (xs : List ℕ) → Once (x ∷ xs) → Stands xs x → ⊥
once_head x xs h on = omega (arith, h zero (suc on.0) x refl on.1)

pub once_cons : (x : ℕ) (xs : List ℕ) → (Stands xs x → ⊥) → Once xs → Once (x ∷ xs)
once_cons x xs new h zero zero t p q = refl
once_cons x xs new h zero (suc j) t p q = absurd (new (j, q ∙ sym p))
once_cons x xs new h (suc i) zero t p q = absurd (new (i, p ∙ sym q))
once_cons x xs new h (suc i) (suc j) t p q = omega (arith, h i j t p q)

-- an element that stands once stands nowhere else
pub once_apart : (b a : List ℕ) (x : ℕ) → Once (b ++ x ∷ a) → Stands (b ++ a) x → ⊥
once_apart [] a x h on = once_head x a h on
once_apart (y ∷ b) a x h (zero, e) =
    once_head y (b ++ x ∷ a) h (subst (Stands (b ++ x ∷ a)) (sym (same_Some y x e)) (stands_there b a x))
once_apart (y ∷ b) a x h (suc i, e) = once_apart b a x (once_tail y (b ++ x ∷ a) h) (i, e)

pub once_without : (b a : List ℕ) (x : ℕ) → Once (b ++ x ∷ a) → Once (b ++ a)
once_without [] a x h = once_tail x a h
once_without (y ∷ b) a x h =
    once_cons y (b ++ a) (λ on. once_head y (b ++ x ∷ a) h (stands_more b a x y on)) (once_without b a x (once_tail y (b ++ x ∷ a) h))

length_middle : (b a : List ℕ) (x : ℕ) → length (b ++ x ∷ a) ≡ length (b ++ a) + 1
length_middle b a x = omega (arith, length-append b (x ∷ a), length-append b a)

-- lists of the same numbers, each once, count alike
pub counted_same : (l : Listing) (f : ℕ → Call) (xs ys : List ℕ) → Once xs → ((u : ℕ) → Stands xs u → Stands ys u) → length xs ≡ length ys → counted l (map f xs) ≡ counted l (map f ys)
counted_same l f [] [] once sub size = refl
counted_same l f [] (y ∷ ys) once sub size = absurd (omega (arith, size))
counted_same l f (x ∷ xs) ys once sub size =
    let w = sub x (zero, refl) in
    let s = split_at ys w.0 x w.1 in
    let b = s.0 in
    let a = s.1 in
    let less : (u : ℕ) → Stands xs u → Stands (b ++ a) u =
    λ u on. ⊎_elim (λ (same : u ≡ x). absurd (once_head x xs once (subst (Stands xs) same on))) (λ (h : Stands (b ++ a) u). h)
    (stands_middle b a x u (subst (λ (zs : List ℕ). Stands zs u) s.2 (sub u (suc on.0, on.1)))) in
    let few : length xs ≡ length (b ++ a) = omega (arith, size, ap length s.2, length_middle b a x) in
    let rest : counted l (map f xs) ≡ counted l (map f (b ++ a)) = counted_same l f xs (b ++ a) (once_tail x xs once) less few in
    let first : counted l (f x ∷ map f xs) ≡ counted l (f x ∷ map f (b ++ a)) =
    counted_next l (f x) (map f xs) (map f (b ++ a)) rest in
    let parts : map f (b ++ a) ≡ map f b ++ map f a = map-append f b a in
    let whole : map f (b ++ x ∷ a) ≡ map f b ++ f x ∷ map f a = map-append f b (x ∷ a) in
    first
    ∙ (ap (λ (ts : List Call). counted l (f x ∷ ts)) parts
    ∙ (sym (counted_middle l (map f b) (map f a) (f x))
    ∙ (ap (counted l) (sym whole) ∙ ap (λ (zs : List ℕ). counted l (map f zs)) (sym s.2))))

-- the numbers of a list's elements, each led to its element
pub mapped_range : {X : Type 0} (ys xs : List X) (d : X) (a : ℕ) → ((i : ℕ) → get_or ys (a + i) d ≡ get_or xs i d) → map (λ t. get_or ys t d) (range_with_len a (length xs)) ≡ xs
mapped_range ys [] d a h = refl
mapped_range ys (x ∷ xs) d a h =
    let here : a + 0 ≡ a = omega arith in
    let first : get_or ys a d ≡ x = ap (λ k. get_or ys k d) (sym here) ∙ h 0 in
    let rest = mapped_range ys xs d (a + 1) (λ i. let on : (a + 1) + i ≡ a + suc i = omega arith in ap (λ k. get_or ys k d) on ∙ h (suc i)) in
    ap (λ z. z ∷ map (λ t. get_or ys t d) (range_with_len (a + 1) (length xs))) first ∙ ap (λ zs. x ∷ zs) rest

pub stands_range : (a n u : ℕ) → a ≤ u → u < a + n → Stands (range_with_len a n) u
stands_range a zero u low high = absurd (omega (arith, low, high))
stands_range a (suc n) u low high =
    ⊎_elim (λ (same : u ≡ a). (zero, ap Some (sym same)))
    (λ (apart : u ≡ a → ⊥). let h = stands_range (a + 1) n u (omega (arith, low, apart)) (omega (arith, high)) in (suc h.0, h.1))
    (cases_eq u a)

pub range_stands : (a n u : ℕ) → Stands (range_with_len a n) u → (a ≤ u) × (u < a + n)
range_stands a zero u on = absurd (cc)
range_stands a (suc n) u (zero, e) = let same : a ≡ u = same_Some a u e in (omega (arith, same), omega (arith, same))
range_stands a (suc n) u (suc i, e) = let h = range_stands (a + 1) n u (i, e) in (omega (arith, h.0), omega (arith, h.1))

pub stands_left : (xs ys : List ℕ) (u : ℕ) → Stands xs u → Stands (xs ++ ys) u
stands_left [] ys u (i, e) = absurd (cc)
stands_left (x ∷ xs) ys u (zero, e) = (zero, e)
stands_left (x ∷ xs) ys u (suc i, e) = let h = stands_left xs ys u (i, e) in (suc h.0, h.1)

pub stands_right : (xs ys : List ℕ) (u : ℕ) → Stands ys u → Stands (xs ++ ys) u
stands_right [] ys u on = on
stands_right (x ∷ xs) ys u on = let h = stands_right xs ys u on in (suc h.0, h.1)

pub stands_either : (xs ys : List ℕ) (u : ℕ) → Stands (xs ++ ys) u → Stands xs u ⊎ Stands ys u
stands_either [] ys u on = inr on
stands_either (x ∷ xs) ys u (zero, e) = inl (zero, e)
stands_either (x ∷ xs) ys u (suc i, e) =
    ⊎_elim (λ (h : Stands xs u). inl (suc h.0, h.1)) (λ (h : Stands ys u). inr h) (stands_either xs ys u (i, e))

pub once_append : (xs ys : List ℕ) → Once xs → Once ys → ((u : ℕ) → Stands xs u → Stands ys u → ⊥) → Once (xs ++ ys)
once_append [] ys a b apart = b
once_append (x ∷ xs) ys a b apart =
    once_cons x (xs ++ ys)
    (λ on. ⊎_elim (λ (h : Stands xs x). once_head x xs a h) (λ (h : Stands ys x). apart x (zero, refl) h) (stands_either xs ys x on))
    (once_append xs ys (once_tail x xs a) b (λ u p q. apart u (suc p.0, p.1) q))

-- a bound on each number that a list is led to
pub stands_within : {X : Type 0} (f : X → ℕ) (n : ℕ) (xs : List X) (u : ℕ) → All (λ x. f x < n) xs → Stands (map f xs) u → u < n
stands_within f n [] u h (i, e) = absurd (cc)
stands_within f n (x ∷ xs) u h (zero, e) =
    let first : f x < n = All-head (λ y. f y < n) x xs h in
    let same : f x ≡ u = same_Some (f x) u e in
    omega (arith, first, same)
stands_within f n (x ∷ xs) u h (suc i, e) = stands_within f n xs u (All-tail (λ y. f y < n) x xs h) (i, e)
