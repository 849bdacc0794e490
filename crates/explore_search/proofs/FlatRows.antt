-- Rows that lie one behind another.
use Rattle.std.proofs.Common.{◌≡◌, ℕ, zero, suc, ◌+◌, ◌*◌, ◌<◌, ◌≤◌, ℤ, List, [], ◌∷◌, ◌++◌, map, length, take, drop, get_or, refl, sym, ◌∙◌, ap, arith}
use Rattle.std.specs.Prelude.{Result, Ok, Err, OnErr}
use Rattle.std.specs.List.{range_with_len}
use Rattle.std.proofs.lemmas.List.{take-append-drop, take-append-le, drop-append-le, length-take-le, take_all, length-drop}
use Rattle.std.proofs.Math.Seq.{drop-append_seam}
use Rattle.std.proofs.lemmas.List.FromFn.{length-map-range_with_len, get_or-map-range_with_len, map-range_with_len_more}
use Rattle.std.proofs.lemmas.Nat.{rows as row_sizes}
use Rattle.explore_law.specs.Orders.{Config}
use Rattle.explore_search.specs.declared.rows.Rows.TheInside.{Inside}
use Rattle.explore_search.specs.Shelf.{Shelf, nowhere, config, behind}
use Rattle.explore_search.specs.Packed.{numbers, counts}
use Rattle.explore_search.specs.Inside.{row, rows, viewed}

-- a part that ends within a
part_front : {X : Type 0} (k j : ℕ) (a z : List X) → j + k ≤ length a → take k (drop j (a ++ z)) ≡ take k (drop j a)
part_front k j a z h =
    ap (take k) (drop-append-le j a z (omega arith)) ∙ take-append-le k (drop j a) z (omega (arith, length-drop j a))

-- a part that ends within the first m
pub part_same : {X : Type 0} (k j m : ℕ) (xs zs : List X) → j + k ≤ m → m ≤ length xs → take k (drop j (take m xs ++ zs)) ≡ take k (drop j xs)
part_same k j m xs zs h n =
    let size = length-take-le m xs n in
    part_front k j (take m xs) zs (omega (arith, size, h)) ∙ sym (part_front k j (take m xs) (drop m xs) (omega (arith, size, h))) ∙ ap (λ l. take k (drop j l)) (take-append-drop m xs)

-- the part behind the first m
pub part_behind : {X : Type 0} (k m : ℕ) (xs zs : List X) → length zs ≡ k → m ≤ length xs → take k (drop m (take m xs ++ zs)) ≡ zs
part_behind k m xs zs e n =
    let size = length-take-le m xs n in
    ap (λ i. take k (drop i (take m xs ++ zs))) (sym size) ∙ ap (take k) (drop-append_seam (take m xs) zs) ∙ take_all k zs (omega arith)

map_range_same : {X : Type 0} (f g : ℕ → X) (a n : ℕ) → ((j : ℕ) → a ≤ j → j < a + n → f j ≡ g j) → map f (range_with_len a n) ≡ map g (range_with_len a n)
map_range_same f g a zero h = refl
map_range_same f g a (suc n) h =
    let one : f a ≡ g a = h a (omega arith) (omega arith) in
    let rest : map f (range_with_len (a + 1) n) ≡ map g (range_with_len (a + 1) n) = map_range_same f g (a + 1) n (λ j low high. h j (omega arith) (omega arith)) in
    cc

fits_before : (i n w : ℕ) → i < n → i * w + w ≤ n * w
fits_before i n w h = grind (arith, row_sizes)

-- other numbers behind the first n rows
pub rows_kept : (w v n : ℕ) (xs zs : List ℤ) (ys us : List ℕ) → n * w ≤ length xs → n * v ≤ length ys
    → rows w v (take (n * w) xs ++ zs) (take (n * v) ys ++ us) n ≡ rows w v xs ys n
unfolding rows
rows_kept w v n xs zs ys us p q =
    map_range_same (row w v (take (n * w) xs ++ zs) (take (n * v) ys ++ us)) (row w v xs ys) 0 n (λ j low high.
    let a = part_same w (j * w) (n * w) xs zs (fits_before j n w (omega arith)) p in
    let b = part_same v (j * v) (n * v) ys us (fits_before j n v (omega arith)) q in
    cc)

pub rows_kept_values : (w v n : ℕ) (xs zs : List ℤ) (ys : List ℕ) → n * w ≤ length xs → n * v ≤ length ys
    → rows w v (take (n * w) xs ++ zs) ys n ≡ rows w v xs ys n
unfolding rows
rows_kept_values w v n xs zs ys p q =
    map_range_same (row w v (take (n * w) xs ++ zs) ys) (row w v xs ys) 0 n (λ j low high.
    let a = part_same w (j * w) (n * w) xs zs (fits_before j n w (omega arith)) p in
    cc)

-- a row behind the first n
pub rows_more : (w v n : ℕ) (xs zs : List ℤ) (ys us : List ℕ) → n * w ≤ length xs → n * v ≤ length ys → length zs ≡ w → length us ≡ v
    → rows w v (take (n * w) xs ++ zs) (take (n * v) ys ++ us) (n + 1) ≡ rows w v xs ys n ++ config zs us ∷ []
unfolding rows
rows_more w v n xs zs ys us p q e f =
    let more = map-range_with_len_more (row w v (take (n * w) xs ++ zs) (take (n * v) ys ++ us)) 0 n n (omega arith) in
    let kept = rows_kept w v n xs zs ys us p q in
    let a = part_behind w (n * w) xs zs e p in
    let b = part_behind v (n * v) ys us f q in
    let last : row w v (take (n * w) xs ++ zs) (take (n * v) ys ++ us) n ≡ config zs us = cc in
    cc

pub length-rows : (w v n : ℕ) (xs : List ℤ) (ys : List ℕ) → length (rows w v xs ys n) ≡ n
unfolding rows
length-rows w v n xs ys = length-map-range_with_len (row w v xs ys) 0 n

pub get_or-rows : (w v n i : ℕ) (xs : List ℤ) (ys : List ℕ) → i < n → get_or (rows w v xs ys n) i nowhere ≡ row w v xs ys i
unfolding rows
get_or-rows w v n i xs ys h = get_or-map-range_with_len (row w v xs ys) 0 n i i nowhere h (omega arith)

-- what the fields say of a shelf
pub within : (a : Inside) (s : Shelf) (i : ℕ) → viewed a ≡ s → i < length s.configs → i < a.count
within a s i e h = omega (arith, h, ap (λ (t : Shelf). length t.configs) e, length-rows a.variables a.counts a.count (numbers a.values) (counts a.lefts))

pub part_values : (a : Inside) (s : Shelf) (i : ℕ) → viewed a ≡ s → i < length s.configs → a.count * a.variables ≤ length (numbers a.values) → i * a.variables + a.variables ≤ length (numbers a.values)
part_values a s i e h n = omega (arith, fits_before i a.count a.variables (within a s i e h), n)

pub part_lefts : (a : Inside) (s : Shelf) (i : ℕ) → viewed a ≡ s → i < length s.configs → a.count * a.counts ≤ length (counts a.lefts) → i * a.counts + a.counts ≤ length (counts a.lefts)
part_lefts a s i e h n = omega (arith, fits_before i a.count a.counts (within a s i e h), n)

pub row_is : (a : Inside) (s : Shelf) (i : ℕ) → viewed a ≡ s → i < length s.configs → row a.variables a.counts (numbers a.values) (counts a.lefts) i ≡ get_or s.configs i nowhere
row_is a s i e h =
    sym (get_or-rows a.variables a.counts a.count i (numbers a.values) (counts a.lefts) (within a s i e h)) ∙ ap (λ (t : Shelf). get_or t.configs i nowhere) e

pub count_is : (a : Inside) (s : Shelf) → viewed a ≡ s → a.count ≡ length s.configs
count_is a s e = sym (length-rows a.variables a.counts a.count (numbers a.values) (counts a.lefts)) ∙ ap (λ (t : Shelf). length t.configs) e

abbrev shelf : ℕ → ℕ → List Config → Shelf
shelf w v ps = record { variables = w; counts = v; configs = ps }

-- what is seen stays so with other numbers behind the rows
pub kept_values : (a : Inside) (s : Shelf) (xs zs : List ℤ) → viewed a ≡ s → a.count * a.variables ≤ length (numbers a.values) → a.count * a.counts ≤ length (counts a.lefts)
    → xs ≡ take (a.count * a.variables) (numbers a.values) ++ zs → shelf a.variables a.counts (rows a.variables a.counts xs (counts a.lefts) a.count) ≡ s
kept_values a s xs zs e p q f =
    ap (λ (l : List ℤ). shelf a.variables a.counts (rows a.variables a.counts l (counts a.lefts) a.count)) f
    ∙ ap (shelf a.variables a.counts) (rows_kept_values a.variables a.counts a.count (numbers a.values) zs (counts a.lefts) p q) ∙ e

pub kept_both : (a : Inside) (s : Shelf) (xs zs : List ℤ) (ys us : List ℕ) → viewed a ≡ s → a.count * a.variables ≤ length (numbers a.values) → a.count * a.counts ≤ length (counts a.lefts)
    → xs ≡ take (a.count * a.variables) (numbers a.values) ++ zs → ys ≡ take (a.count * a.counts) (counts a.lefts) ++ us
    → shelf a.variables a.counts (rows a.variables a.counts xs ys a.count) ≡ s
kept_both a s xs zs ys us e p q f g =
    ap (λ (l : List ℤ). shelf a.variables a.counts (rows a.variables a.counts l ys a.count)) f
    ∙ ap (λ (l : List ℕ). shelf a.variables a.counts (rows a.variables a.counts (take (a.count * a.variables) (numbers a.values) ++ zs) l a.count)) g
    ∙ ap (shelf a.variables a.counts) (rows_kept a.variables a.counts a.count (numbers a.values) zs (counts a.lefts) us p q) ∙ e

pub pushed : (a : Inside) (s : Shelf) (xs zs : List ℤ) (ys us : List ℕ) → viewed a ≡ s → a.count * a.variables ≤ length (numbers a.values) → a.count * a.counts ≤ length (counts a.lefts)
    → xs ≡ take (a.count * a.variables) (numbers a.values) ++ zs → ys ≡ take (a.count * a.counts) (counts a.lefts) ++ us
    → length zs ≡ s.variables → length us ≡ s.counts
    → shelf a.variables a.counts (rows a.variables a.counts xs ys (a.count + 1)) ≡ behind s (config zs us)
pushed a s xs zs ys us e p q f g m n =
    ap (λ (l : List ℤ). shelf a.variables a.counts (rows a.variables a.counts l ys (a.count + 1))) f
    ∙ ap (λ (l : List ℕ). shelf a.variables a.counts (rows a.variables a.counts (take (a.count * a.variables) (numbers a.values) ++ zs) l (a.count + 1))) g
    ∙ ap (shelf a.variables a.counts) (rows_more a.variables a.counts a.count (numbers a.values) zs (counts a.lefts) us p q (m ∙ sym (ap (λ (t : Shelf). t.variables) e)) (n ∙ sym (ap (λ (t : Shelf). t.counts) e)))
    ∙ ap (λ (t : Shelf). behind t (config zs us)) e

pub on_err : {T E P : Type 0} (r : Result T E) → P → OnErr r P
on_err (Ok x) h = tt
on_err (Err e) h = h
