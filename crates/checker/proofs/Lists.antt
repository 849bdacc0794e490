-- Lists of tasks: what stands once, and what ascends.
use Rattle.std.proofs.Common.{◌≡◌, ◌≢◌, ◌∙◌, ◌↔◌, IsTrue, ℕ, zero, suc, ◌+◌, ◌<◌, ◌≤◌, Bool, true, false, List, [], ◌∷◌, length, refl, sym, ap, subst, arith, map, replicate, get_or, get_or-set_other, set, drop, drop-cons, Some}
use Rattle.std.specs.List.{slice_get, All}
use Rattle.std.proofs.lemmas.List.Elements.{All-head, All-tail}
use Rattle.std.proofs.lemmas.List.{drop_all, get_or-replicate}
use Rattle.txn_programs.specs.declared.ast.TaskId.{TaskId}
use Rattle.txn_programs.specs.declared.ast.TxId.{TxId}
use Rattle.txn_programs.specs.Replay.{Once}
use Rattle.txn_programs.specs.LawfulReport.{Ascends}

-- each next number is at least so large, and larger than those before it
abbrev pub Climbs : ℕ → List ℕ → Type 0
Climbs least [] = Unit {0}
Climbs least (t ∷ ts) = (least ≤ t) × Climbs (t + 1) ts

above : (least : ℕ) (ts : List ℕ) → Climbs least ts → (i t : ℕ) → slice_get ts i ≡ Some t → least ≤ t
above least [] c i t e = absurd (cc)
above least (x ∷ ts) c zero t e = let same : x ≡ t = cc in omega (arith, c.0)
above least (x ∷ ts) c (suc i) t e = let more = above (x + 1) ts c.1 i t e in omega (arith, c.0)

climbs_ascend : (least : ℕ) (ts : List ℕ) → Climbs least ts → Ascends ts
climbs_ascend least [] c i j s t h a b = absurd (cc)
climbs_ascend least (x ∷ ts) c i zero s t h a b = absurd (omega arith)
climbs_ascend least (x ∷ ts) c zero (suc j) s t h a b =
    let same : x ≡ s = cc in
    let more = above (x + 1) ts c.1 j t b in
    omega arith
climbs_ascend least (x ∷ ts) c (suc i) (suc j) s t h a b = climbs_ascend (x + 1) ts c.1 i j s t (omega arith) a b

ascend_climbs : (least : ℕ) (ts : List ℕ) → ((t : ℕ) → slice_get ts 0 ≡ Some t → least ≤ t) → Ascends ts → Climbs least ts
ascend_climbs least [] h a = tt
ascend_climbs least (x ∷ ts) h a = (
  h x refl,
  ascend_climbs (x + 1) ts (λ t e. let more = a 0 1 x t (omega arith) refl e in omega arith)
      (λ i j s t lt p q. a (suc i) (suc j) s t (omega arith) p q),
)

pub climbs_is_ascends : (ts : List ℕ) → Climbs 0 ts ↔ Ascends ts
climbs_is_ascends ts = (climbs_ascend 0 ts, ascend_climbs 0 ts (λ t e. omega arith))

-- each next number is not among those seen, and is seen from then on
abbrev pub Fresh : List Bool → List ℕ → Type 0
Fresh seen [] = Unit {0}
Fresh seen (t ∷ ts) = (get_or seen t true ≡ false) × Fresh (set seen t true) ts

-- ---- the tasks of lines

abbrev pub numbers : List (TaskId × TxId) → List ℕ
numbers lines = map (λ p. p.0.0) lines

pub yes : {P : Type 0} → P → IsTrue true ↔ P
yes h = (λ _. h, λ _. refl)

pub no : {P : Type 0} → (P → ⊥) → IsTrue false ↔ P
no h = (λ e. absurd (cc e), λ p. absurd (h p))

-- the place where a line breaks the order
pub breaks : (least i : ℕ) (lines : List (TaskId × TxId)) (d : TaskId × TxId) → i < length lines → (get_or lines i d).0.0 < least → Climbs least (numbers (drop i lines)) → ⊥
breaks least i lines d h low c =
    let here : Climbs least (numbers (get_or lines i d ∷ drop (suc i) lines)) = subst (λ ps. Climbs least (numbers ps)) (drop-cons lines i d h) c in
    omega (arith, here.0, low)

pub ascends_no : (least i : ℕ) (lines : List (TaskId × TxId)) (d : TaskId × TxId) → i < length lines → (get_or lines i d).0.0 < least
    → (Climbs least (numbers (drop i lines)) ↔ Climbs 0 (numbers lines)) → IsTrue false ↔ Ascends (numbers lines)
ascends_no least i lines d h low same = no (λ a. breaks least i lines d h low (same.1 ((climbs_is_ascends (numbers lines)).1 a)))

pub ascends_yes : (least i : ℕ) (lines : List (TaskId × TxId)) → length lines ≤ i
    → (Climbs least (numbers (drop i lines)) ↔ Climbs 0 (numbers lines)) → IsTrue true ↔ Ascends (numbers lines)
ascends_yes least i lines h same =
    yes ((climbs_is_ascends (numbers lines)).0 (same.0 (subst (λ ps. Climbs least (numbers ps)) (sym (drop_all i lines h)) tt)))

-- ---- what is seen

pub set_here : (xs : List Bool) (t : ℕ) → get_or (set xs t true) t true ≡ true
set_here [] zero = refl
set_here [] (suc t) = refl
set_here (x ∷ xs) zero = refl
set_here (x ∷ xs) (suc t) = set_here xs t

set_there : (xs : List Bool) (t u : ℕ) → u ≢ t → get_or (set xs t true) u true ≡ get_or xs u true
set_there xs t u ne = rw get_or-set_other refl

-- each of them is not seen
abbrev NoneSeen : List Bool → List ℕ → Type 0
NoneSeen seen ts = (i t : ℕ) → slice_get ts i ≡ Some t → get_or seen t true ≡ false

-- what was not seen after t was, is another, and was not seen before
others : (seen : List Bool) (t u : ℕ) → get_or (set seen t true) u true ≡ false → (u ≢ t) × (get_or seen u true ≡ false)
others seen t u h =
    let ne : u ≢ t = λ e. let bad : get_or (set seen t true) t true ≡ false = subst (λ x. get_or (set seen t true) x true ≡ false) e h in cc (set_here seen t, bad) in
    (ne, sym (set_there seen t u ne) ∙ h)

fresh_none : (seen : List Bool) (ts : List ℕ) → Fresh seen ts → NoneSeen seen ts
fresh_none seen [] f i t e = absurd (cc)
fresh_none seen (x ∷ ts) f zero t e = let same : x ≡ t = cc in subst (λ n. get_or seen n true ≡ false) same f.0
fresh_none seen (x ∷ ts) f (suc i) t e = (others seen x t (fresh_none (set seen x true) ts f.1 i t e)).1

fresh_once : (seen : List Bool) (ts : List ℕ) → Fresh seen ts → Once ts
fresh_once seen [] f i j t a b = absurd (cc)
fresh_once seen (x ∷ ts) f zero zero t a b = refl
fresh_once seen (x ∷ ts) f zero (suc j) t a b =
    let same : t ≡ x = cc in absurd ((others seen x t (fresh_none (set seen x true) ts f.1 j t b)).0 same)
fresh_once seen (x ∷ ts) f (suc i) zero t a b =
    let same : t ≡ x = cc in absurd ((others seen x t (fresh_none (set seen x true) ts f.1 i t a)).0 same)
fresh_once seen (x ∷ ts) f (suc i) (suc j) t a b = ap suc (fresh_once (set seen x true) ts f.1 i j t a b)

once_fresh : (seen : List Bool) (ts : List ℕ) → Once ts → NoneSeen seen ts → Fresh seen ts
once_fresh seen [] o h = tt
once_fresh seen (x ∷ ts) o h =
    let apart : (i u : ℕ) → slice_get ts i ≡ Some u → u ≢ x = λ i u e same. let bad : suc i ≡ 0 = o (suc i) 0 u e (ap Some (sym same)) in omega arith in (
      h 0 x refl,
      once_fresh (set seen x true) ts
          (λ i j t a b. let e : suc i ≡ suc j = o (suc i) (suc j) t a b in omega arith)
          (λ i u e. set_there seen x u (apart i u e) ∙ h (suc i) u e),
    )

nothing_seen : (n : ℕ) (ts : List ℕ) → ((i t : ℕ) → slice_get ts i ≡ Some t → t < n) → NoneSeen (replicate n false) ts
nothing_seen n ts h i t e = get_or-replicate n t false true (h i t e)

pub fresh_is_once : (n : ℕ) (ts : List ℕ) → ((i t : ℕ) → slice_get ts i ≡ Some t → t < n) → Fresh (replicate n false) ts ↔ Once ts
fresh_is_once n ts h = (fresh_once (replicate n false) ts, λ o. once_fresh (replicate n false) ts o (nothing_seen n ts h))

below : (n : ℕ) (lines : List (TaskId × TxId)) → All (λ p. p.0.0 < n) lines → (i t : ℕ) → slice_get (numbers lines) i ≡ Some t → t < n
below n [] h i t e = absurd (cc)
below n (p ∷ lines) h zero t e = let same : p.0.0 ≡ t = cc in subst (λ x. x < n) same (All-head (λ (q : TaskId × TxId). q.0.0 < n) p lines h)
below n (p ∷ lines) h (suc i) t e = below n lines (All-tail (λ (q : TaskId × TxId). q.0.0 < n) p lines h) i t e

-- the place where a task stands again
pub once_no : (n i : ℕ) (seen : List Bool) (lines : List (TaskId × TxId)) (d : TaskId × TxId) → All (λ p. p.0.0 < n) lines → i < length lines
    → get_or seen (get_or lines i d).0.0 true ≡ true
    → (Fresh seen (numbers (drop i lines)) ↔ Fresh (replicate n false) (numbers lines)) → IsTrue false ↔ Once (numbers lines)
once_no n i seen lines d known h was same =
    no (λ o.
    let left = same.1 ((fresh_is_once n (numbers lines) (below n lines known)).1 o) in
    let here : Fresh seen (numbers (get_or lines i d ∷ drop (suc i) lines)) = subst (λ ps. Fresh seen (numbers ps)) (drop-cons lines i d h) left in
    cc (here.0, was))

pub once_yes : (n i : ℕ) (seen : List Bool) (lines : List (TaskId × TxId)) → All (λ p. p.0.0 < n) lines → length lines ≤ i
    → (Fresh seen (numbers (drop i lines)) ↔ Fresh (replicate n false) (numbers lines)) → IsTrue true ↔ Once (numbers lines)
once_yes n i seen lines known h same =
    yes ((fresh_is_once n (numbers lines) (below n lines known)).0 (same.0 (subst (λ ps. Fresh seen (numbers ps)) (sym (drop_all i lines h)) tt)))
