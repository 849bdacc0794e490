-- Tasks counted by instance, and the writes of a log.
use Rattle.std.proofs.Common.{◌≡◌, ℕ, zero, suc, ◌+◌, ◌-◌, ◌<◌, ◌≤◌, ℤ, List, [], ◌∷◌, length, map, get_or, set, drop, replicate, Some, refl, sym, ◌∙◌, ap, arith}
use Rattle.std.specs.Prelude.{slice_get}
use Rattle.std.proofs.lemmas.List.{length-set, length-map, drop_all}
use Rattle.std.proofs.lemmas.Option.{same_Some, slice_get_within, slice_get-get_or}
use Rattle.std.proofs.lemmas.List.Sums.{count_by-le-length}
use Rattle.txn_programs.specs.declared.arguments.Call.{Call}
use Rattle.txn_programs.specs.declared.ast.VarId.{VarId}
use Rattle.txn_programs.specs.Listing.{Listing, calls}
use Rattle.txn_programs.specs.Meaning.{State}
use Rattle.attempt_writes.specs.Known.{Known}
use Rattle.attempt_writes.specs.Order.{AllKnown}
use Rattle.attempt.specs.Frame.{store}
use Rattle.explore_law.specs.Instances.{instances, is_same}
use Rattle.explore_law.specs.Orders.{counted, count_at}
use Rattle.explore_law.proofs.Instances.{counts, counted_more, counted_none, length-counted}
use Rattle.explore_law.specs.declared.instance.InstanceId.{InstanceId}
use Rattle.explore_search.specs.Instancing.{TellsTasks}
use Rattle.explore_search.proofs.Indexing.{any_default}

counts_most : (xs cs : List Call) (k : ℕ) → get_or (counts xs cs) k 0 ≤ length cs
counts_most [] cs k = omega (arith, none_past k)
  where
    none_past : (j : ℕ) → get_or {A = ℕ} [] j 0 ≡ 0
    none_past zero = refl
    none_past (suc j) = refl
counts_most (x ∷ xs) cs zero = count_by-le-length (is_same x) cs
counts_most (x ∷ xs) cs (suc k) = counts_most xs cs k

pub counted_most : (l : Listing) (cs : List Call) (k : ℕ) → get_or (counted l cs) k 0 ≤ length cs
counted_most l cs k = counts_most (instances l) cs k

pub drop_at : {X : Type 0} (xs : List X) (i : ℕ) (x : X) → slice_get xs i ≡ Some x → drop i xs ≡ x ∷ drop (i + 1) xs
drop_at [] i x e = absurd (cc)
drop_at (y ∷ ys) zero x e = let same : y ≡ x = cc in ap (λ z. z ∷ ys) same
drop_at (y ∷ ys) (suc i) x e =
    let more : suc i + 1 ≡ suc (i + 1) = omega arith in
    drop_at ys i x e ∙ ap (λ k. x ∷ drop k (y ∷ ys)) (sym more)

-- the instances of the tasks, one by one
pub told_size : (l : Listing) (ks : List InstanceId) → TellsTasks l ks → length ks ≡ length (calls l)
told_size l ks h = sym (length-map ks (λ (k : InstanceId). slice_get (instances l) k.0)) ∙ (ap length h ∙ length-map (calls l) (λ (c : Call). Some c))

told_one : (xs : List Call) (ks : List InstanceId) (cs : List Call) (i : ℕ) (k : InstanceId) → map (λ (m : InstanceId). slice_get xs m.0) ks ≡ map Some cs → slice_get ks i ≡ Some k
    → (c : Call) × (slice_get cs i ≡ Some c) × (slice_get xs k.0 ≡ Some c)
told_one xs [] cs i k h e = absurd (cc)
told_one xs (m ∷ ks) [] i k h e = absurd (cc)
told_one xs (m ∷ ks) (c ∷ cs) zero k h e =
    let same : m ≡ k = same_Some m k e in
    let first : slice_get xs m.0 ≡ Some c = cc in
    (c, refl, ap (λ (j : InstanceId). slice_get xs j.0) (sym same) ∙ first)
told_one xs (m ∷ ks) (c ∷ cs) (suc i) k h e =
    let rest : map (λ (j : InstanceId). slice_get xs j.0) ks ≡ map Some cs = cc in
    told_one xs ks cs i k rest e

pub told_at : (l : Listing) (ks : List InstanceId) (i : ℕ) (k : InstanceId) → TellsTasks l ks → i < length ks → k ≡ get_or ks i k → (c : Call) × (slice_get (calls l) i ≡ Some c) × (slice_get (instances l) k.0 ≡ Some c)
told_at l ks i k h low is = told_one (instances l) ks (calls l) i k h (slice_get-get_or ks i k low ∙ ap Some (sym is))

pub told_low : (l : Listing) (ks : List InstanceId) (i : ℕ) (k : InstanceId) → TellsTasks l ks → i < length ks → k ≡ get_or ks i k → k.0 < length (instances l)
told_low l ks i k h low is = let at = told_at l ks i k h low is in slice_get_within (instances l) k.0 at.0 at.2

pub counts_start : (l : Listing) (ks : List InstanceId) (n m : ℕ) → TellsTasks l ks → n ≡ length (instances l) → m ≡ length ks → replicate n 0 ≡ counted l (drop (m - 0) (calls l))
counts_start l ks n m h size count =
    let none : drop (m - 0) (calls l) ≡ [] = drop_all (m - 0) (calls l) (omega (arith, told_size l ks h, count)) in
    ap (λ (i : ℕ). replicate i 0) size ∙ (sym (counted_none l) ∙ ap (counted l) (sym none))

pub counts_step : (l : Listing) (ks : List InstanceId) (n done : ℕ) (k : InstanceId) (counts : List ℕ) (count : ℕ) → TellsTasks l ks → n ≡ length ks → done < n → k ≡ get_or ks (n - 1 - done) k
    → counts ≡ counted l (drop (n - done) (calls l)) → count ≡ get_or counts k.0 count → set counts k.0 (count + 1) ≡ counted l (drop (n - (done + 1)) (calls l))
counts_step l ks n done k counts count h size low is before own =
    let i = n - 1 - done in
    let at = told_at l ks i k h (omega (arith, size, low)) is in
    let c = at.0 in
    let next : n - done ≡ i + 1 = omega (arith, low) in
    let here : n - (done + 1) ≡ i = omega (arith, low) in
    let rest = drop (i + 1) (calls l) in
    let counts_are : counts ≡ counted l rest = before ∙ ap (λ (j : ℕ). counted l (drop j (calls l))) next in
    let within : k.0 < length counts = omega (arith, ap length counts_are, length-counted l rest, slice_get_within (instances l) k.0 c at.2) in
    let value : count ≡ count_at (counted l rest) k = own ∙ (any_default counts k.0 count 0 within ∙ ap (λ (xs : List ℕ). get_or xs k.0 0) counts_are) in
    ap (λ (xs : List ℕ). set xs k.0 (count + 1)) counts_are
    ∙ (ap (λ (m : ℕ). set (counted l rest) k.0 (m + 1)) value
    ∙ (sym (counted_more l k c rest at.2)
    ∙ (ap (counted l) (sym (drop_at (calls l) i c at.1)) ∙ ap (λ (j : ℕ). counted l (drop j (calls l))) (sym here))))

pub length-store : (writes : Known) (m : State) → length (store writes m) ≡ length m
length-store [] m = refl
length-store (p ∷ rest) m = length-set (store rest m) p.0.0 p.1 ∙ length-store rest m

-- a logged variable is known
pub known_pair : (n : ℕ) (log : Known) (i : ℕ) (p : VarId × ℤ) → AllKnown n log → slice_get log i ≡ Some p → p.0.0 < n
known_pair n [] i p h e = absurd (cc)
known_pair n (q ∷ rest) zero p h e = let same : q ≡ p = cc in omega (arith, ap (λ (x : VarId × ℤ). x.0.0) same, h.0)
known_pair n (q ∷ rest) (suc i) p h e = known_pair n rest i p h.1 e
