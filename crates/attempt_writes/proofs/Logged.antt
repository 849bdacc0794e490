-- Pairs of distinct variables: how many there are, and what is left of them where one more was put.
use Rattle.std.proofs.Common.{◌≡◌, ℕ, suc, ◌+◌, ◌<◌, ◌≤◌, false, List, [], ◌∷◌, ◌++◌, length, None, ℤ, refl, sym, ap, ◌∙◌, arith, ◌==◌, eqb, take, length-append, length-take-le}
use Rattle.std.specs.List.{AllByRecursion, IsDistinct}
use Rattle.std.proofs.lemmas.List.{take-take, take-append-le}
use Rattle.txn_programs.specs.declared.ast.VarId.{VarId}
use Rattle.attempt_writes.specs.Known.{Known, known_at}
use Rattle.attempt_writes.specs.Order.{AllKnown, Apart}
use Rattle.attempt_writes.proofs.Placed.{none_here, other_of}
use Rattle.attempt_writes.proofs.Indexed.{apart, few_distinct}
use Rattle.attempt_writes.proofs.Pairs.{AllKnown-append, Apart-append}

abbrev numbers_of : Known → List ℕ
numbers_of [] = []
numbers_of (p ∷ rest) = p.0.0 ∷ numbers_of rest

length_numbers : (w : Known) → length (numbers_of w) ≡ length w
length_numbers [] = refl
length_numbers (p ∷ rest) = ap suc (length_numbers rest)

others : (w : Known) (x : VarId) → known_at w x ≡ None → AllByRecursion (λ y. eqb x.0 y ≡ false) (numbers_of w)
others [] x e = tt
others (p ∷ rest) x e =
    let no = none_here p rest x (p.0.0 == x.0) e in
    (apart x.0 p.0.0 (λ s. other_of p.0.0 x.0 no.0 (sym s)), others rest x no.1)

distinct_numbers : (w : Known) → Apart w → IsDistinct eqb (numbers_of w)
unfolding IsDistinct
distinct_numbers [] a = tt
distinct_numbers (p ∷ rest) a = (others rest p.0 a.0, distinct_numbers rest a.1)

known_numbers : (n : ℕ) (w : Known) → AllKnown n w → AllByRecursion (λ k. k < n) (numbers_of w)
known_numbers n [] k = tt
known_numbers n (p ∷ rest) k = (k.0, known_numbers n rest k.1)

-- there are no more pairs than numbers
pub few_pairs : (n : ℕ) (w : Known) → Apart w → AllKnown n w → length w ≤ n
few_pairs n w a k = let few = few_distinct n (numbers_of w) (distinct_numbers w a) (known_numbers n w k) in omega (arith, few, length_numbers w)

-- where a variable has no pair, there is room for one more
pub fewer_pairs : (n : ℕ) (w : Known) (x : VarId) (v : ℤ) → Apart w → AllKnown n w → known_at w x ≡ None → x.0 < n → length w < n
fewer_pairs n w x v a k e lt =
    let few = few_pairs n (w ++ (x, v) ∷ []) (Apart-append w x v e a) (AllKnown-append n w x v lt k) in
    omega (arith, few, length-append w ((x, v) ∷ []))

-- the pairs in front of the one that was put
pub cut_back : (old new : Known) (count : ℕ) (p : VarId × ℤ) → count ≤ length old → take (count + 1) new ≡ take count old ++ p ∷ [] → take count new ≡ take count old
cut_back old new count p within e =
    let long = length-take-le count old within in
    let le : count ≤ count + 1 = omega arith in
    let same : count ≤ length (take count old) = omega (arith, long) in
    sym (take-take count (count + 1) new le) ∙ ap (take count) e ∙ take-append-le count (take count old) (p ∷ []) same ∙ take-take count count old (omega arith)
