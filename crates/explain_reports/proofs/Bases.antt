-- Bases that hold.
use Rattle.std.proofs.Common.{◌≡◌, ◌∙◌, ◌≢◌, ℕ, zero, suc, ◌+◌, ◌<◌, ◌≤◌, ℤ, List, [], ◌∷◌, length, map, drop, replicate, get_or, Some, Ok, true, String, Global, refl, sym, ap, subst, arith}
use Rattle.std.specs.List.{slice_get}
use Rattle.std.proofs.lemmas.Option.{same_Some}
use Rattle.txn_programs.specs.declared.ast.Cond.{Cond}
use Rattle.txn_programs.specs.Tree.{Condition, condition_of}
use Rattle.txn_programs.specs.Scope.{ConditionsKnown}
use Rattle.txn_programs.specs.Meaning.{State, truth}
use Rattle.txn_programs.specs.Listing.{Listing, conditions}
use Rattle.txn_programs.specs.Replay.{Snapshot, opening}
use Rattle.txn_programs.specs.Standing.{AllTrue, Upholds}
use Rattle.txn_programs.specs.Told.{Told, snapshot_at, base_of}
use Rattle.txn_evaluator.specs.Always.{conditions_of}
use Rattle.checker.specs.Parts.{BaseHolds}
use Rattle.explain_reports.specs.First.{AllRight, IsFirstWrong}
use Rattle.explain_reports.specs.Parts.{Opens, IsRecent, IsTrueOf}
use Rattle.explain_reports.proofs.First.{as_all, from_all, not_all}

-- ---- conditions

pub condition_at : (always : List (String Global × Cond)) (i : ℕ) (x : String Global × Cond) → i < length always → x ≡ get_or always i x → slice_get (conditions_of always) i ≡ Some (condition_of x.1)
condition_at [] i x lt e = absurd (omega arith)
condition_at (a ∷ always) zero x lt e = ap (λ (y : String Global × Cond). Some (condition_of y.1)) (sym e)
condition_at (a ∷ always) (suc i) x lt e = condition_at always i x (omega arith) e

known_suc : (n : ℕ) (always : List (String Global × Cond)) (i : ℕ) → i < length always → ConditionsKnown n (conditions_of (drop i always)) → ConditionsKnown n (conditions_of (drop (suc i) always))
known_suc n [] i lt h = absurd (omega arith)
known_suc n (a ∷ always) zero lt h = h.1
known_suc n (a ∷ always) (suc i) lt h = known_suc n always i (omega arith) h

pub known_more : (n : ℕ) (always : List (String Global × Cond)) (i : ℕ) → i < length always → ConditionsKnown n (conditions_of (drop i always)) → ConditionsKnown n (conditions_of (drop (i + 1) always))
known_more n always i lt h = let next : i + 1 ≡ suc i = omega arith in subst (λ k. ConditionsKnown n (conditions_of (drop k always))) (sym next) (known_suc n always i lt h)

pub all_true : (cs : List Condition) (m : State) → AllRight (IsTrueOf m) cs → AllTrue cs m
all_true [] m h = tt
all_true (c ∷ cs) m h = (h 0 c refl, all_true cs m (λ i x e. h (suc i) x e))

pub each_true : (cs : List Condition) (m : State) → AllTrue cs m → AllRight (IsTrueOf m) cs
each_true [] m h i x e = absurd (cc)
each_true (c ∷ cs) m h zero x e = let same : c ≡ x = cc in subst (λ d. truth d m ≡ Ok true) same h.0
each_true (c ∷ cs) m h (suc i) x e = each_true cs m h.1 i x e

-- ---- a base of number 0

-- values that begin so are the initial ones, and no variable has changed
values_begin : (initial : State) (vars : List (ℤ × ℕ)) → length vars ≡ length initial → AllRight (Opens initial) vars → map (λ v. v.0) vars ≡ initial
values_begin [] [] sized h = refl
values_begin [] (v ∷ vars) sized h = absurd (omega arith)
values_begin (x ∷ initial) [] sized h = absurd (omega arith)
values_begin (x ∷ initial) (v ∷ vars) sized h =
    let first : x ≡ v.0 = same_Some x v.0 (h 0 v refl).0 in
    ap (λ z. z ∷ map (λ (w : ℤ × ℕ). w.0) vars) (sym first) ∙ ap (λ zs. x ∷ zs) (values_begin initial vars (omega arith) (λ i w e. h (suc i) w e))

versions_begin : (initial : State) (vars : List (ℤ × ℕ)) → length vars ≡ length initial → AllRight (Opens initial) vars → map (λ v. v.1) vars ≡ replicate (length initial) 0
versions_begin [] [] sized h = refl
versions_begin [] (v ∷ vars) sized h = absurd (omega arith)
versions_begin (x ∷ initial) [] sized h = absurd (omega arith)
versions_begin (x ∷ initial) (v ∷ vars) sized h =
    ap (λ n. n ∷ map (λ (w : ℤ × ℕ). w.1) vars) (h 0 v refl).1 ∙ ap (λ ns. 0 ∷ ns) (versions_begin initial vars (omega arith) (λ i w e. h (suc i) w e))

begins : (l : Listing) (vars : List (ℤ × ℕ)) → length vars ≡ length l.initial → AllRight (Opens l.initial) vars → snapshot_at 0 vars ≡ opening l
begins l vars sized h =
    ap (λ ks. let x : Snapshot = record { number = 0; state = map (λ v. v.0) vars; versions = ks } in x) (versions_begin l.initial vars sized h)
    ∙ ap (λ (m : State). let x : Snapshot = record { number = 0; state = m; versions = replicate (length l.initial) 0 } in x) (values_begin l.initial vars sized h)

pub base_opens : (l : Listing) (r : Told) → r.base ≡ 0 → length r.base_vars ≡ length l.initial → Upholds l l.initial → AllRight (Opens l.initial) r.base_vars → BaseHolds l r
base_opens l r none sized upheld h =
    record {
      from_opening = λ _. ap (λ n. snapshot_at n r.base_vars) none ∙ begins l r.base_vars sized h;
      versions = as_all (λ (v : ℤ × ℕ). v.1 ≤ r.base) r.base_vars (λ i v e. let unchanged = (h i v e).1 in omega arith);
      upheld = subst (Upholds l) (sym (values_begin l.initial r.base_vars sized h)) upheld;
    }

-- values and versions that are so in a list of both
at_first : (vars : List (ℤ × ℕ)) (i : ℕ) (v : ℤ × ℕ) → slice_get vars i ≡ Some v → slice_get (map (λ (w : ℤ × ℕ). w.0) vars) i ≡ Some v.0
at_first [] i v e = absurd (cc)
at_first (w ∷ vars) zero v e = ap (λ (z : ℤ × ℕ). Some z.0) (same_Some w v e)
at_first (w ∷ vars) (suc i) v e = at_first vars i v e

at_second : (vars : List (ℤ × ℕ)) (i : ℕ) (v : ℤ × ℕ) → slice_get vars i ≡ Some v → slice_get (map (λ (w : ℤ × ℕ). w.1) vars) i ≡ Some v.1
at_second [] i v e = absurd (cc)
at_second (w ∷ vars) zero v e = ap (λ (z : ℤ × ℕ). Some z.1) (same_Some w v e)
at_second (w ∷ vars) (suc i) v e = at_second vars i v e

zero_at : (n i k : ℕ) → slice_get (replicate n 0) i ≡ Some k → k ≡ 0
zero_at zero i k e = absurd (cc)
zero_at (suc n) zero k e = sym (same_Some 0 k e)
zero_at (suc n) (suc i) k e = zero_at n i k e

pub base_not_opening : (l : Listing) (r : Told) (i : ℕ) → r.base ≡ 0 → IsFirstWrong (Opens l.initial) r.base_vars i → BaseHolds l r → ⊥
base_not_opening l r i none f h =
    let same = h.from_opening none in
    let value : slice_get l.initial i ≡ Some f.item.0 = ap (λ (s : Snapshot). slice_get s.state i) (sym same) ∙ at_first r.base_vars i f.item f.stands in
    let version : slice_get (replicate (length l.initial) 0) i ≡ Some f.item.1 = ap (λ (s : Snapshot). slice_get s.versions i) (sym same) ∙ at_second r.base_vars i f.item f.stands in
    f.wrong (value, zero_at (length l.initial) i f.item.1 version)

-- ---- a base of a later number

pub base_later : (l : Listing) (r : Told) → r.base ≢ 0 → AllRight (IsTrueOf (base_of r).state) (conditions l) → AllRight (IsRecent r.base) r.base_vars → BaseHolds l r
base_later l r later true_there recent =
    record {
      from_opening = λ none. absurd (later none);
      versions = as_all (λ (v : ℤ × ℕ). v.1 ≤ r.base) r.base_vars recent;
      upheld = all_true (conditions l) (base_of r).state true_there;
    }

pub base_untrue : (l : Listing) (r : Told) (i : ℕ) → IsFirstWrong (IsTrueOf (base_of r).state) (conditions l) i → BaseHolds l r → ⊥
base_untrue l r i f h = not_all (IsTrueOf (base_of r).state) (conditions l) i f (each_true (conditions l) (base_of r).state h.upheld)

pub base_late : (l : Listing) (r : Told) (i : ℕ) → IsFirstWrong (IsRecent r.base) r.base_vars i → BaseHolds l r → ⊥
base_late l r i f h = not_all (IsRecent r.base) r.base_vars i f (from_all (λ (v : ℤ × ℕ). v.1 ≤ r.base) r.base_vars h.versions)
