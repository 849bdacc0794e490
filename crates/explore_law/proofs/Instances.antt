-- What is so of the instances of a listing: they are the calls of its tasks, each once.
use Rattle.std.proofs.Common.{◌≡◌, ℕ, zero, suc, ◌+◌, ◌<◌, ◌≤◌, Bool, true, false, true≢false, not, cond, List, [], ◌∷◌, ◌++◌, length, map, get_or, set, replicate, Some, refl, sym, ◌∙◌, ap, subst, inl, inr, ◌⊎◌, ⊎_elim, arith, ℤ, eqb}
use Rattle.std.specs.Prelude.{Decides, count_by, filter, flat_map}
use Rattle.std.specs.Cmp.Lexicographic.{pointwise}
use Rattle.std.specs.List.{Contains, slice_get, slice_index_or, range_with_len}
use Rattle.std.specs.Ordering.{int_eq}
use Rattle.std.proofs.lemmas.Bool.{and_parts, and_from, cases_eq}
use Rattle.std.proofs.lemmas.Bool.Decides.{Decides-eqb, Decides-int_eq}
use Rattle.std.proofs.lemmas.List.{length-append, length-map, append-nil}
use Rattle.std.proofs.lemmas.List.Elements.{Contains-append_left, Contains-append_right, Contains-append_cases, filter-append}
use Rattle.std.proofs.lemmas.List.Sums.{sum_by-cons}
use Rattle.std.proofs.lemmas.Option.{same_Some}
use Rattle.std.proofs.lemmas.Slice.Eq.{slice_eq-Decides}
use Rattle.txn_programs.specs.declared.arguments.Call.{Call}
use Rattle.txn_programs.specs.Listing.{Listing, calls, IsCallable}
use Rattle.txn_programs.specs.Names.{names_hold}
use Rattle.txn_programs.proofs.Lawful.{callable_task}
use Rattle.explore_law.specs.declared.instance.InstanceId.{InstanceId}
use Rattle.explore_law.specs.Instances.{is_same, each_once, calls_to, instances, instance_at}
use Rattle.explore_law.specs.Orders.{counted, count_at}

abbrev call : ℕ → List ℤ → Call
call k xs = record { tx = record { 0 = k }; arguments = xs }

-- the test tells whether two calls are one
pub same_decides : (c d : Call) → Decides (is_same c d) (c ≡ d)
same_decides c d =
    let xs = slice_eq-Decides Decides-int_eq c.arguments d.arguments (pointwise int_eq c.arguments d.arguments) refl in
    let ks = Decides-eqb c.tx.0 d.tx.0 in (
      λ h.
          let both = and_parts (eqb c.tx.0 d.tx.0) (pointwise int_eq c.arguments d.arguments) h in
          ap (λ (k : ℕ). call k c.arguments) (ks.0 both.0) ∙ ap (λ (ys : List ℤ). call d.tx.0 ys) (xs.0 both.1),
      λ e. and_from _ _ (ks.1 (ap (λ (x : Call). x.tx.0) e)) (xs.1 (ap (λ (x : Call). x.arguments) e)),
    )

pub same_itself : (c : Call) → is_same c c ≡ true
same_itself c = (same_decides c c).1 refl

pub other_call : (c d : Call) → (c ≡ d → ⊥) → is_same c d ≡ false
other_call c d apart = by (is_same c d) refl
  where
    by : (b : Bool) → is_same c d ≡ b → b ≡ false
    by true e = absurd (apart ((same_decides c d).0 e))
    by false e = refl

-- membership, one element at a time
module _ {X : Type 0} where
  in_head : (x : X) (xs : List X) → Contains (x ∷ xs) x
  in_head x xs = (zero, omega arith, refl)

  in_tail : (x y : X) (xs : List X) → Contains xs y → Contains (x ∷ xs) y
  in_tail x y xs h = let low : h.0 < length xs = h.1 in (suc h.0, omega (arith, low), h.2)

  in_cases : (x y : X) (xs : List X) → Contains (x ∷ xs) y → (x ≡ y) ⊎ Contains xs y
  in_cases x y xs (zero, low, e) = inl e
  in_cases x y xs (suc k, low, e) = let less : suc k < length (x ∷ xs) = low in inr (k, omega (arith, less), e)

  in_none : (y : X) → Contains [] y → ⊥
  in_none y h = let low : h.0 < zero = h.1 in omega (arith, low)

  -- a filter keeps what passes, and nothing else
  module _ (p : X → Bool) where
    pub passes_in : (xs : List X) (y : X) → Contains xs y → p y ≡ true → Contains (filter p xs) y
    passes_in [] y h ok = absurd (in_none y h)
    passes_in (x ∷ xs) y h ok =
        ⊎_elim
        (λ (e : x ≡ y). subst (λ b. Contains (cond b (x ∷ filter p xs) (filter p xs)) y) (sym (ap p e ∙ ok)) (subst (λ z. Contains (z ∷ filter p xs) y) (sym e) (in_head y (filter p xs))))
        (λ (k : Contains xs y). by (p x) (passes_in xs y k ok))
        (in_cases x y xs h)
      where
        by : (b : Bool) → Contains (filter p xs) y → Contains (cond b (x ∷ filter p xs) (filter p xs)) y
        by true k = in_tail x y (filter p xs) k
        by false k = k

    pub passes_of : (xs : List X) (y : X) → Contains (filter p xs) y → Contains xs y × (p y ≡ true)
    passes_of [] y h = absurd (in_none y h)
    passes_of (x ∷ xs) y h = by (p x) refl (λ k. passes_of xs y k) h
      where
        by : (b : Bool) → p x ≡ b → (Contains (filter p xs) y → Contains xs y × (p y ≡ true)) → Contains (cond b (x ∷ filter p xs) (filter p xs)) y → Contains (x ∷ xs) y × (p y ≡ true)
        by true e on k =
            ⊎_elim
            (λ (same : x ≡ y). (subst (λ z. Contains (z ∷ xs) y) (sym same) (in_head y xs), ap p (sym same) ∙ e))
            (λ (m : Contains (filter p xs) y). let rest = on m in (in_tail x y xs rest.0, rest.1))
            (in_cases x y (filter p xs) k)
        by false e on k = let rest = on k in (in_tail x y xs rest.0, rest.1)

    pub length-filter-le : (xs : List X) → length (filter p xs) ≤ length xs
    length-filter-le [] = omega arith
    length-filter-le (x ∷ xs) = by (p x) (length-filter-le xs)
      where
        by : (b : Bool) → length (filter p xs) ≤ length xs → length (cond b (x ∷ filter p xs) (filter p xs)) ≤ length (x ∷ xs)
        by true h = omega (arith, h)
        by false h = omega (arith, h)

  -- no element stands behind itself
  abbrev pub AreApart : List X → Type 0
  AreApart [] = Unit {0}
  AreApart (x ∷ xs) = (Contains xs x → ⊥) × AreApart xs

  apart_filter : (p : X → Bool) (xs : List X) → AreApart xs → AreApart (filter p xs)
  apart_filter p [] h = tt
  apart_filter p (x ∷ xs) h = by (p x) (apart_filter p xs h.1)
    where
      by : (b : Bool) → AreApart (filter p xs) → AreApart (cond b (x ∷ filter p xs) (filter p xs))
      by true rest = (λ k. h.0 (passes_of p xs x k).0, rest)
      by false rest = rest

  apart_append : (xs ys : List X) → AreApart xs → AreApart ys → ((x : X) → Contains xs x → Contains ys x → ⊥) → AreApart (xs ++ ys)
  apart_append [] ys a b none = b
  apart_append (x ∷ xs) ys a b none = (
    λ h. ⊎_elim (λ (k : Contains xs x). a.0 k) (λ (k : Contains ys x). none x (in_head x xs) k) (Contains-append_cases xs ys x h),
    apart_append xs ys a.1 b (λ y k m. none y (in_tail x y xs k) m),
  )

  pub in_get : (xs : List X) (i : ℕ) (x : X) → slice_get xs i ≡ Some x → Contains xs x
  in_get [] i x e = absurd (cc)
  in_get (y ∷ ys) zero x e = subst (λ z. Contains (z ∷ ys) x) (sym (same_Some y x e)) (in_head x ys)
  in_get (y ∷ ys) (suc i) x e = in_tail y x ys (in_get ys i x e)

  pub get_in : (xs : List X) (x : X) → Contains xs x → (i : ℕ) × (slice_get xs i ≡ Some x)
  get_in [] x h = absurd (in_none x h)
  get_in (y ∷ ys) x h =
      ⊎_elim (λ (e : y ≡ x). (zero, ap Some e)) (λ (k : Contains ys x). let at = get_in ys x k in (suc at.0, at.1)) (in_cases y x ys h)

  -- so each stands at one place
  pub apart_numbers : (xs : List X) (i j : ℕ) (x : X) → AreApart xs → slice_get xs i ≡ Some x → slice_get xs j ≡ Some x → i ≡ j
  apart_numbers [] i j x h a b = absurd (cc)
  apart_numbers (y ∷ ys) zero zero x h a b = refl
  apart_numbers (y ∷ ys) zero (suc j) x h a b = absurd (h.0 (subst (Contains ys) (sym (same_Some y x a)) (in_get ys j x b)))
  apart_numbers (y ∷ ys) (suc i) zero x h a b = absurd (h.0 (subst (Contains ys) (sym (same_Some y x b)) (in_get ys i x a)))
  apart_numbers (y ∷ ys) (suc i) (suc j) x h a b = ap suc (apart_numbers ys i j x h.1 a b)

abbrev differs : Call → Call → Bool
differs c d = not (is_same c d)

-- each call is there once
pub once_in : (cs : List Call) (c : Call) → Contains cs c → Contains (each_once cs) c
once_in [] c h = h
once_in (d ∷ cs) c h =
    ⊎_elim
    (λ (e : d ≡ c). subst (λ (x : Call). Contains (x ∷ filter (differs d) (each_once cs)) c) (sym e) (in_head c (filter (differs d) (each_once cs))))
    (λ (k : Contains cs c). by (is_same d c) refl (once_in cs c k))
    (in_cases d c cs h)
  where
    by : (b : Bool) → is_same d c ≡ b → Contains (each_once cs) c → Contains (d ∷ filter (differs d) (each_once cs)) c
    by true e k = subst (λ (x : Call). Contains (x ∷ filter (differs d) (each_once cs)) c) (sym ((same_decides d c).0 e)) (in_head c (filter (differs d) (each_once cs)))
    by false e k = in_tail d c (filter (differs d) (each_once cs)) (passes_in (differs d) (each_once cs) c k (ap not e))

pub once_of : (cs : List Call) (c : Call) → Contains (each_once cs) c → Contains cs c
once_of [] c h = h
once_of (d ∷ cs) c h =
    ⊎_elim
    (λ (e : d ≡ c). subst (λ (x : Call). Contains (x ∷ cs) c) (sym e) (in_head c cs))
    (λ (k : Contains (filter (differs d) (each_once cs)) c). in_tail d c cs (once_of cs c (passes_of (differs d) (each_once cs) c k).0))
    (in_cases d c (filter (differs d) (each_once cs)) h)

pub once_apart : (cs : List Call) → AreApart (each_once cs)
once_apart [] = tt
once_apart (d ∷ cs) = (
  λ h. let k = passes_of (differs d) (each_once cs) d h in true≢false (sym k.1 ∙ ap not (same_itself d)),
  apart_filter (differs d) (each_once cs) (once_apart cs),
)

pub length-once : (cs : List Call) → length (each_once cs) ≤ length cs
length-once [] = omega arith
length-once (d ∷ cs) = omega (arith, length-filter-le (differs d) (each_once cs), length-once cs)

-- whether a call is one of those
pub known_or_not : (cs : List Call) (c : Call) → Contains cs c ⊎ (Contains cs c → ⊥)
known_or_not [] c = inr (in_none c)
known_or_not (d ∷ cs) c = by (is_same d c) refl (known_or_not cs c)
  where
    by : (b : Bool) → is_same d c ≡ b → Contains cs c ⊎ (Contains cs c → ⊥) → Contains (d ∷ cs) c ⊎ (Contains (d ∷ cs) c → ⊥)
    by true e h = inl (subst (λ (x : Call). Contains (x ∷ cs) c) (sym ((same_decides d c).0 e)) (in_head c cs))
    by false e (inl k) = inl (in_tail d c cs k)
    by false e (inr none) = inr (λ h. ⊎_elim (λ (s : d ≡ c). true≢false (sym ((same_decides d c).1 s) ∙ e)) none (in_cases d c cs h))

-- one more call, which is new
pub once_new : (cs : List Call) (c : Call) → (Contains cs c → ⊥) → each_once (cs ++ c ∷ []) ≡ each_once cs ++ c ∷ []
once_new [] c new = refl
once_new (d ∷ cs) c new =
    let rest = once_new cs c (λ h. new (in_tail d c cs h)) in
    let keeps : is_same d c ≡ false = other_call d c (λ e. new (subst (λ (x : Call). Contains (x ∷ cs) c) (sym e) (in_head c cs))) in
    ap (λ (xs : List Call). d ∷ filter (differs d) xs) rest
    ∙ (ap (λ (xs : List Call). d ∷ xs) (filter-append (differs d) (each_once cs) (c ∷ []))
    ∙ ap (λ (b : Bool). d ∷ (filter (differs d) (each_once cs) ++ cond (not b) (c ∷ []) [])) keeps)

-- one more call, which was there
pub once_old : (cs : List Call) (c : Call) → Contains cs c → each_once (cs ++ c ∷ []) ≡ each_once cs
once_old [] c h = absurd (in_none c h)
once_old (d ∷ cs) c h =
    ⊎_elim
    (λ (k : Contains cs c). ap (λ (xs : List Call). d ∷ filter (differs d) xs) (once_old cs c k))
    (λ (new : Contains cs c → ⊥).
    let same : d ≡ c = ⊎_elim (λ (e : d ≡ c). e) (λ (k : Contains cs c). absurd (new k)) (in_cases d c cs h) in
    ap (λ (xs : List Call). d ∷ filter (differs d) xs) (once_new cs c new)
    ∙ (ap (λ (xs : List Call). d ∷ xs) (filter-append (differs d) (each_once cs) (c ∷ []))
    ∙ (ap (λ (b : Bool). d ∷ (filter (differs d) (each_once cs) ++ cond (not b) (c ∷ []) [])) ((same_decides d c).1 same)
    ∙ ap (λ (xs : List Call). d ∷ xs) (append-nil (filter (differs d) (each_once cs))))))
    (known_or_not cs c)

-- by transactions
abbrev pub to_range : List Call → ℕ → ℕ → List Call
to_range cs a n = flat_map (calls_to cs) (range_with_len a n)

abbrev pub is_to : ℕ → Call → Bool
is_to k c = eqb c.tx.0 k

pub in_range : (cs : List Call) (a n : ℕ) (c : Call) → Contains cs c → a ≤ c.tx.0 → c.tx.0 < a + n → Contains (to_range cs a n) c
in_range cs a zero c h low high = absurd (omega (arith, low, high))
in_range cs a (suc n) c h low high =
    ⊎_elim
    (λ (e : c.tx.0 ≡ a). Contains-append_left (calls_to cs a) (to_range cs (a + 1) n) c (passes_in (is_to a) cs c h ((Decides-eqb c.tx.0 a).1 e)))
    (λ (apart : c.tx.0 ≡ a → ⊥). Contains-append_right (calls_to cs a) (to_range cs (a + 1) n) c (in_range cs (a + 1) n c h (omega (arith, low, apart)) (omega (arith, high))))
    (cases_eq c.tx.0 a)

pub of_range : (cs : List Call) (a n : ℕ) (c : Call) → Contains (to_range cs a n) c → Contains cs c × (a ≤ c.tx.0) × (c.tx.0 < a + n)
of_range cs a zero c h = absurd (in_none c h)
of_range cs a (suc n) c h =
    ⊎_elim
    (λ (k : Contains (calls_to cs a) c).
    let on = passes_of (is_to a) cs c k in
    let e : c.tx.0 ≡ a = (Decides-eqb c.tx.0 a).0 on.1 in
    (on.0, omega (arith, e), omega (arith, e)))
    (λ (k : Contains (to_range cs (a + 1) n) c). let on = of_range cs (a + 1) n c k in (on.0, omega (arith, on.1), omega (arith, on.2)))
    (Contains-append_cases (calls_to cs a) (to_range cs (a + 1) n) c h)

pub range_apart : (cs : List Call) (a n : ℕ) → AreApart cs → AreApart (to_range cs a n)
range_apart cs a zero h = tt
range_apart cs a (suc n) h =
    apart_append (calls_to cs a) (to_range cs (a + 1) n) (apart_filter (is_to a) cs h) (range_apart cs (a + 1) n h)
    (λ c k m.
    let e : c.tx.0 ≡ a = (Decides-eqb c.tx.0 a).0 (passes_of (is_to a) cs c k).1 in
    let on = of_range cs (a + 1) n c m in
    omega (arith, e, on.1))

-- one call less
range_less : (c : Call) (cs : List Call) (a n : ℕ) → c.tx.0 < a → to_range (c ∷ cs) a n ≡ to_range cs a n
range_less c cs a zero h = refl
range_less c cs a (suc n) h = ap2 (range_less c cs (a + 1) n (omega (arith, h)))
  where
    other : eqb c.tx.0 a ≡ false
    other = by (eqb c.tx.0 a) refl
      where
        by : (b : Bool) → eqb c.tx.0 a ≡ b → b ≡ false
        by true e = let same : c.tx.0 ≡ a = (Decides-eqb c.tx.0 a).0 e in absurd (omega (arith, same, h))
        by false e = refl

    ap2 : to_range (c ∷ cs) (a + 1) n ≡ to_range cs (a + 1) n → to_range (c ∷ cs) a (suc n) ≡ to_range cs a (suc n)
    ap2 rest = ap (λ (b : Bool). cond b (c ∷ calls_to cs a) (calls_to cs a) ++ to_range (c ∷ cs) (a + 1) n) other ∙ ap (λ (xs : List Call). calls_to cs a ++ xs) rest

range_more : (c : Call) (cs : List Call) (a n : ℕ) → length (to_range (c ∷ cs) a n) ≤ length (to_range cs a n) + 1
range_more c cs a zero = omega arith
range_more c cs a (suc n) = by (eqb c.tx.0 a) refl (range_more c cs (a + 1) n)
  where
    by : (b : Bool) → eqb c.tx.0 a ≡ b → length (to_range (c ∷ cs) (a + 1) n) ≤ length (to_range cs (a + 1) n) + 1 → length (cond b (c ∷ calls_to cs a) (calls_to cs a) ++ to_range (c ∷ cs) (a + 1) n) ≤ length (calls_to cs a ++ to_range cs (a + 1) n) + 1
    by true e more =
        let same : c.tx.0 ≡ a = (Decides-eqb c.tx.0 a).0 e in
        let rest : to_range (c ∷ cs) (a + 1) n ≡ to_range cs (a + 1) n = range_less c cs (a + 1) n (omega (arith, same)) in
        omega (arith, length-append (c ∷ calls_to cs a) (to_range (c ∷ cs) (a + 1) n), length-append (calls_to cs a) (to_range cs (a + 1) n), ap length rest)
    by false e more =
        omega (arith, length-append (calls_to cs a) (to_range (c ∷ cs) (a + 1) n), length-append (calls_to cs a) (to_range cs (a + 1) n), more)

range_none : (a n : ℕ) → length (to_range [] a n) ≡ 0
range_none a zero = refl
range_none a (suc n) = range_none (a + 1) n

-- no more than there are calls
pub range_few : (cs : List Call) (a n : ℕ) → length (to_range cs a n) ≤ length cs
range_few [] a n = omega (arith, range_none a n)
range_few (c ∷ cs) a n = omega (arith, range_more c cs a n, range_few cs a n)

-- each call of a task of a declared transaction is an instance, and each instance is the call of a task
pub instance_in : (l : Listing) (c : Call) → Contains (calls l) c → c.tx.0 < length l.transactions → Contains (instances l) c
unfolding instances
instance_in l c h low = in_range (each_once (calls l)) 0 (length l.transactions) c (once_in (calls l) c h) (omega arith) (omega (arith, low))

pub instance_of : (l : Listing) (c : Call) → Contains (instances l) c → Contains (calls l) c
unfolding instances
instance_of l c h = once_of (calls l) c (of_range (each_once (calls l)) 0 (length l.transactions) c h).0

pub instances_apart : (l : Listing) → AreApart (instances l)
unfolding instances
instances_apart l = range_apart (each_once (calls l)) 0 (length l.transactions) (once_apart (calls l))

pub few_instances : (l : Listing) → length (instances l) ≤ length (calls l)
unfolding instances
few_instances l = omega (arith, range_few (each_once (calls l)) 0 (length l.transactions), length-once (calls l))

-- so each can be called
pub instance_callable : (l : Listing) (k : ℕ) (c : Call) → names_hold l ≡ true → slice_get (instances l) k ≡ Some c → IsCallable l c.tx c.arguments
instance_callable l k c names e =
    let at = get_in (calls l) c (instance_of l c (in_get (instances l) k c e)) in
    callable_task l at.0 c names at.1

pub instance_gets : (l : Listing) (k : InstanceId) (c : Call) → slice_get (instances l) k.0 ≡ Some c → instance_at l k ≡ c
instance_gets l k c e = gets (instances l) k.0 (call 0 []) c e
  where
    gets : (xs : List Call) (i : ℕ) (d x : Call) → slice_get xs i ≡ Some x → slice_index_or xs i d ≡ x
    gets [] i d x e = absurd (cc)
    gets (y ∷ ys) zero d x e = same_Some y x e
    gets (y ∷ ys) (suc i) d x e = gets ys i d x e

-- the instances counted
abbrev pub counts : List Call → List Call → List ℕ
counts xs cs = map (λ (x : Call). count_by (is_same x) cs) xs

count_more : (x c : Call) (cs : List Call) → count_by (is_same x) (c ∷ cs) ≡ cond (is_same x c) 1 0 + count_by (is_same x) cs
count_more x c cs = sum_by-cons (λ (y : Call). cond (is_same x y) 1 0) c cs

counts_other : (xs : List Call) (c : Call) (cs : List Call) → (Contains xs c → ⊥) → counts xs (c ∷ cs) ≡ counts xs cs
counts_other [] c cs none = refl
counts_other (x ∷ xs) c cs none =
    let other : is_same x c ≡ false = other_call x c (λ e. none (subst (λ (y : Call). Contains (y ∷ xs) c) (sym e) (in_head c xs))) in
    let here : count_by (is_same x) (c ∷ cs) ≡ count_by (is_same x) cs = omega (arith, count_more x c cs ∙ ap (λ (b : Bool). cond b 1 0 + count_by (is_same x) cs) other) in
    ap (λ (n : ℕ). n ∷ counts xs (c ∷ cs)) here ∙ ap (λ (ns : List ℕ). count_by (is_same x) cs ∷ ns) (counts_other xs c cs (λ h. none (in_tail x c xs h)))

counts_more : (xs : List Call) (k : ℕ) (c : Call) (cs : List Call) → AreApart xs → slice_get xs k ≡ Some c
    → counts xs (c ∷ cs) ≡ set (counts xs cs) k (get_or (counts xs cs) k 0 + 1)
counts_more [] k c cs h e = absurd (cc)
counts_more (x ∷ xs) zero c cs h e =
    let same : x ≡ c = same_Some x c e in
    let n = count_by (is_same x) cs in
    let here : count_by (is_same x) (c ∷ cs) ≡ n + 1 =
    count_more x c cs ∙ (ap (λ (b : Bool). cond b 1 0 + n) ((same_decides x c).1 same) ∙ omega arith) in
    ap (λ (m : ℕ). m ∷ counts xs (c ∷ cs)) here ∙ ap (λ (ns : List ℕ). (n + 1) ∷ ns) (counts_other xs c cs (λ k. h.0 (subst (Contains xs) (sym same) k)))
counts_more (x ∷ xs) (suc k) c cs h e =
    let other : is_same x c ≡ false = other_call x c (λ s. h.0 (subst (Contains xs) (sym s) (in_get xs k c e))) in
    let here : count_by (is_same x) (c ∷ cs) ≡ count_by (is_same x) cs = omega (arith, count_more x c cs ∙ ap (λ (b : Bool). cond b 1 0 + count_by (is_same x) cs) other) in
    ap (λ (n : ℕ). n ∷ counts xs (c ∷ cs)) here ∙ ap (λ (ns : List ℕ). count_by (is_same x) cs ∷ ns) (counts_more xs k c cs h.1 e)

-- one task more, of the instance k
pub counted_more : (l : Listing) (k : InstanceId) (c : Call) (cs : List Call) → slice_get (instances l) k.0 ≡ Some c
    → counted l (c ∷ cs) ≡ set (counted l cs) k.0 (count_at (counted l cs) k + 1)
counted_more l k c cs e = counts_more (instances l) k.0 c cs (instances_apart l) e

counts_none : (xs : List Call) → counts xs [] ≡ replicate (length xs) 0
counts_none [] = refl
counts_none (x ∷ xs) = ap (λ (ns : List ℕ). 0 ∷ ns) (counts_none xs)

pub counted_none : (l : Listing) → counted l [] ≡ replicate (length (instances l)) 0
counted_none l = counts_none (instances l)

pub length-counted : (l : Listing) (cs : List Call) → length (counted l cs) ≡ length (instances l)
length-counted l cs = length-map (instances l) (λ (c : Call). count_by (is_same c) cs)
