-- Calls counted by instance, in whatever order they stand.
use Rattle.std.proofs.Common.{◌≡◌, ℕ, zero, suc, ◌+◌, ◌-◌, ◌<◌, Bool, true, false, cond, List, [], ◌∷◌, ◌++◌, length, get_or, set, Some, refl, sym, ◌∙◌, ap, arith}
use Rattle.std.specs.Prelude.{count_by}
use Rattle.std.specs.List.{slice_get, Contains}
use Rattle.std.proofs.lemmas.List.{get_or-set_same, set-set, set-get_or}
use Rattle.std.proofs.lemmas.List.Sums.{sum_by-cons}
use Rattle.std.proofs.lemmas.Option.{same_Some, slice_get_within}
use Rattle.txn_programs.specs.declared.arguments.Call.{Call}
use Rattle.txn_programs.specs.Listing.{Listing}
use Rattle.explore_law.specs.declared.instance.InstanceId.{InstanceId}
use Rattle.explore_law.specs.Instances.{is_same, instances}
use Rattle.explore_law.specs.Orders.{counted, count_at}
use Rattle.explore_law.proofs.Instances.{counts, same_decides, counted_more, length-counted, get_in, apart_numbers, instances_apart}

-- the place of a call among others
place : List Call → Call → ℕ
place [] c = zero
place (x ∷ xs) c = cond (is_same x c) zero (suc (place xs c))

-- the instance of a call
pub place_of : Listing → Call → InstanceId
place_of l c = record { 0 = place (instances l) c }

place_gets : (xs : List Call) (i : ℕ) (c : Call) → slice_get xs i ≡ Some c → slice_get xs (place xs c) ≡ Some c
unfolding place
place_gets [] i c e = absurd (cc)
place_gets (x ∷ xs) i c e = by (is_same x c) refl (λ j f. place_gets xs j c f) i e
  where
    by : (b : Bool) → is_same x c ≡ b → ((j : ℕ) → slice_get xs j ≡ Some c → slice_get xs (place xs c) ≡ Some c) → (i : ℕ) → slice_get (x ∷ xs) i ≡ Some c
        → slice_get (x ∷ xs) (cond b zero (suc (place xs c))) ≡ Some c
    by true is rest i e = ap Some ((same_decides x c).0 is)
    by false is rest zero e = let same = (same_decides x c).1 (same_Some x c e) in absurd (cc)
    by false is rest (suc i) e = rest i e

-- the instance is there
pub placed : (l : Listing) (i : ℕ) (c : Call) → slice_get (instances l) i ≡ Some c → slice_get (instances l) (place_of l c).0 ≡ Some c
unfolding place_of
placed l i c e = place_gets (instances l) i c e

pub placed_in : (l : Listing) (c : Call) → Contains (instances l) c → slice_get (instances l) (place_of l c).0 ≡ Some c
placed_in l c on = let at = get_in (instances l) c on in placed l at.0 c at.1

-- and nowhere else
pub place_is : (l : Listing) (k : InstanceId) (c : Call) → slice_get (instances l) k.0 ≡ Some c → place_of l c ≡ k
place_is l k c e =
    let same : (place_of l c).0 ≡ k.0 = apart_numbers (instances l) (place_of l c).0 k.0 c (instances_apart l) (placed l k.0 c e) e in
    ap (λ (i : ℕ). let m : InstanceId = record { 0 = i } in m) same

count_one : (p : Call → Bool) (c : Call) (cs : List Call) → count_by p (c ∷ cs) ≡ cond (p c) 1 0 + count_by p cs
count_one p c cs = sum_by-cons (λ (x : Call). cond (p x) 1 0) c cs

count_middle : (p : Call → Bool) (xs ys : List Call) (c : Call) → count_by p (xs ++ c ∷ ys) ≡ count_by p (c ∷ (xs ++ ys))
count_middle p [] ys c = refl
count_middle p (x ∷ xs) ys c =
    omega (
      arith,
      count_one p x (xs ++ c ∷ ys),
      count_middle p xs ys c,
      count_one p c (xs ++ ys),
      count_one p c (x ∷ (xs ++ ys)),
      count_one p x (xs ++ ys),
    )

counts_alike : (xs ds es : List Call) → ((p : Call → Bool) → count_by p ds ≡ count_by p es) → counts xs ds ≡ counts xs es
counts_alike [] ds es h = refl
counts_alike (x ∷ xs) ds es h =
    ap (λ (n : ℕ). n ∷ counts xs ds) (h (is_same x)) ∙ ap (λ (ns : List ℕ). count_by (is_same x) es ∷ ns) (counts_alike xs ds es h)

-- one call among others counts as it does before them
pub counted_middle : (l : Listing) (xs ys : List Call) (c : Call) → counted l (xs ++ c ∷ ys) ≡ counted l (c ∷ (xs ++ ys))
counted_middle l xs ys c = counts_alike (instances l) (xs ++ c ∷ ys) (c ∷ (xs ++ ys)) (λ p. count_middle p xs ys c)

counts_next : (xs : List Call) (c : Call) (ds es : List Call) → counts xs ds ≡ counts xs es → counts xs (c ∷ ds) ≡ counts xs (c ∷ es)
counts_next [] c ds es e = refl
counts_next (x ∷ xs) c ds es e =
    let p = is_same x in
    let here : count_by p ds ≡ count_by p es = ap (λ (ns : List ℕ). get_or ns 0 0) e in
    let rest : counts xs ds ≡ counts xs es = cc in
    let first : count_by p (c ∷ ds) ≡ count_by p (c ∷ es) = count_one p c ds ∙ (ap (λ (n : ℕ). cond (p c) 1 0 + n) here ∙ sym (count_one p c es)) in
    ap (λ (n : ℕ). n ∷ counts xs (c ∷ ds)) first ∙ ap (λ (ns : List ℕ). count_by p (c ∷ es) ∷ ns) (counts_next xs c ds es rest)

-- the same call before calls that count alike
pub counted_next : (l : Listing) (c : Call) (ds es : List Call) → counted l ds ≡ counted l es → counted l (c ∷ ds) ≡ counted l (c ∷ es)
counted_next l c ds es e = counts_next (instances l) c ds es e

pub counted_first : (l : Listing) (k : InstanceId) (c : Call) (rest : List Call) → slice_get (instances l) k.0 ≡ Some c → count_at (counted l (c ∷ rest)) k ≡ count_at (counted l rest) k + 1
counted_first l k c rest at =
    let low : k.0 < length (counted l rest) = omega (arith, slice_get_within (instances l) k.0 c at, length-counted l rest) in
    ap (λ (ns : List ℕ). count_at ns k) (counted_more l k c rest at) ∙ get_or-set_same (counted l rest) k.0 (count_at (counted l rest) k + 1) 0 low

-- without the first of them
pub counted_less : (l : Listing) (k : InstanceId) (c : Call) (rest : List Call) → slice_get (instances l) k.0 ≡ Some c
    → set (counted l (c ∷ rest)) k.0 (count_at (counted l (c ∷ rest)) k - 1) ≡ counted l rest
counted_less l k c rest at =
    let xs = counted l rest in
    let v = count_at xs k in
    let less : count_at (counted l (c ∷ rest)) k - 1 ≡ v = omega (arith, counted_first l k c rest at) in
    ap (λ (n : ℕ). set (counted l (c ∷ rest)) k.0 n) less
    ∙ (ap (λ (ns : List ℕ). set ns k.0 v) (counted_more l k c rest at) ∙ (set-set xs k.0 (v + 1) v ∙ set-get_or xs k.0 0))

none_past : (k : ℕ) → get_or {A = ℕ} [] k 0 ≡ 0
none_past zero = refl
none_past (suc k) = refl

count_here : (xs cs : List Call) (k : ℕ) → 0 < get_or (counts xs cs) k 0 → (c : Call) × (slice_get xs k ≡ Some c) × (0 < count_by (is_same c) cs)
count_here [] cs k some = absurd (omega (arith, some, none_past k))
count_here (x ∷ xs) cs zero some = (x, refl, some)
count_here (x ∷ xs) cs (suc k) some = count_here xs cs k some

count_there : (c : Call) (cs : List Call) → 0 < count_by (is_same c) cs → (i : ℕ) × (slice_get cs i ≡ Some c)
count_there c [] some = absurd (omega (arith, some))
count_there c (d ∷ cs) some = by (is_same c d) refl (λ h. count_there c cs h)
  where
    by : (b : Bool) → is_same c d ≡ b → (0 < count_by (is_same c) cs → (i : ℕ) × (slice_get cs i ≡ Some c)) → (i : ℕ) × (slice_get (d ∷ cs) i ≡ Some c)
    by true is more = (zero, ap Some (sym ((same_decides c d).0 is)))
    by false is more =
        let other : count_by (is_same c) (d ∷ cs) ≡ count_by (is_same c) cs = omega (arith, count_one (is_same c) d cs ∙ ap (λ (b : Bool). cond b 1 0 + count_by (is_same c) cs) is) in
        let rest = more (omega (arith, some, other)) in
        (suc rest.0, rest.1)

-- a call of the instance stands there
pub record StandsAt (l : Listing) (cs : List Call) (k : InstanceId) : Type 0 where
  pub call : Call
  pub instance : slice_get (instances l) k.0 ≡ Some call
  pub place : ℕ
  pub there : slice_get cs place ≡ Some call

-- what is counted stands there
pub counted_stands : (l : Listing) (cs : List Call) (k : InstanceId) → 0 < count_at (counted l cs) k → StandsAt l cs k
counted_stands l cs k some =
    let here = count_here (instances l) cs k.0 some in
    let there = count_there here.0 cs here.2 in
    record { call = here.0; instance = here.1; place = there.0; there = there.1 }

count_at_place : (xs cs : List Call) (k : ℕ) (c : Call) → slice_get xs k ≡ Some c → get_or (counts xs cs) k 0 ≡ count_by (is_same c) cs
count_at_place [] cs k c e = absurd (cc)
count_at_place (x ∷ xs) cs zero c e = ap (λ (d : Call). count_by (is_same d) cs) (same_Some x c e)
count_at_place (x ∷ xs) cs (suc k) c e = count_at_place xs cs k c e

count_some : (c : Call) (cs : List Call) (i : ℕ) → slice_get cs i ≡ Some c → 0 < count_by (is_same c) cs
count_some c [] i e = absurd (cc)
count_some c (d ∷ cs) zero e =
    let same : is_same c d ≡ true = (same_decides c d).1 (sym (same_Some d c e)) in
    omega (arith, count_one (is_same c) d cs ∙ ap (λ (b : Bool). cond b 1 0 + count_by (is_same c) cs) same)
count_some c (d ∷ cs) (suc i) e = omega (arith, count_one (is_same c) d cs, count_some c cs i e)

-- what stands there is counted
pub stands_counted : (l : Listing) (cs : List Call) (i : ℕ) (k : InstanceId) (c : Call) → slice_get (instances l) k.0 ≡ Some c → slice_get cs i ≡ Some c → 0 < count_at (counted l cs) k
stands_counted l cs i k c at e = omega (arith, count_at_place (instances l) cs k.0 c at, count_some c cs i e)
