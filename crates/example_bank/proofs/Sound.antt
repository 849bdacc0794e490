-- A state that keeps a bank's conditions is sound.
use Rattle.std.proofs.Common.{◌≡◌, ◌∙◌, ℕ, zero, suc, ◌+◌, ◌<◌, ◌≤◌, ℤ, pos, ◌+ℤ◌, ◌≤ℤ◌, Bool, true, false, T, List, [], ◌∷◌, ◌++◌, length, take, get_or, Result, Ok, Err, refl, sym, ap, subst, arith, int_le, if◌then◌else◌, IfOk, Vec, Global}
use Rattle.std.specs.Ordering.{int_eq}
use Rattle.std.proofs.lemmas.Bool.Decides.{Decides-int_eq}
use Rattle.std.proofs.lemmas.Int.{ints}
use Rattle.std.proofs.lemmas.List.{take_more, take_all}
use Rattle.std.proofs.lemmas.List.Elements.{All-from_get_or}
use borrow.Author.Count.{below_more}
use lib.Signed.{le_z_yes}
use Rattle.txn_programs.specs.declared.ast.Fault.{Fault}
use Rattle.txn_programs.specs.declared.ast.Fault.TheVariants.{Overflow}
use Rattle.txn_programs.specs.Arithmetic.{fits, sum_of}
use Rattle.txn_programs.specs.Meaning.{State, both, value, truth}
use Rattle.txn_programs.specs.Tree.{Condition, Int, Var, Eq, Le}
use Rattle.txn_programs.specs.Listing.{Listing, conditions}
use Rattle.txn_programs.specs.Standing.{AllTrue}
use Rattle.book.specs.View.{BookView}
use Rattle.book.specs.LawfulBook.{BookFits, KeepsConditions}
use Rattle.stm_store.specs.Working.{declaring}
use Rattle.example_bank.specs.Balances.{total, IsSound, IsBank}
use Rattle.example_bank.specs.Rules.{account, floors, sum_to, rules}

-- the last of conditions that are all true, and those before it
last_true : (cs : List Condition) (c : Condition) (m : State) → AllTrue (cs ++ c ∷ []) m → AllTrue cs m × (truth c m ≡ Ok true)
last_true [] c m h = (tt, h.0)
last_true (d ∷ cs) c m h = let r = last_true cs c m h.1 in ((h.0, r.0), r.1)

above : (v : ℤ) → int_le (pos 0) v ≡ true → pos 0 ≤ℤ v
above v e = le_z_yes (subst T (sym e) tt)

floor_true : (k : ℕ) (m : State) → truth (Le (Int (pos 0)) (Var (account k))) m ≡ Ok true → pos 0 ≤ℤ get_or m k (pos 0)
floor_true k m e = let yes : int_le (pos 0) (get_or m k (pos 0)) ≡ true = cc in above (get_or m k (pos 0)) yes

floors_true : (n : ℕ) (m : State) → AllTrue (floors n) m → (k : ℕ) → k < n → pos 0 ≤ℤ get_or m k (pos 0)
floors_true zero m h k lt = absurd (omega arith)
floors_true (suc n) m h k lt =
    let r = last_true (floors n) (Le (Int (pos 0)) (Var (account n))) m h in
    below_more (λ i. pos 0 ≤ℤ get_or m i (pos 0)) n (floors_true n m r.0) (floor_true n m r.1) k (omega arith)

abbrev or_overflow : Bool → ℤ → Result ℤ Fault
or_overflow b z = if b then Ok z else Err Overflow

fitted_is : (b : Bool) (z v : ℤ) → or_overflow b z ≡ Ok v → v ≡ z
fitted_is true z v e = cc
fitted_is false z v e = absurd (cc)

both_sum : (r : Result ℤ Fault) (x v : ℤ) → both sum_of r (Ok x) ≡ Ok v → (w : ℤ) × (r ≡ Ok w) × (v ≡ w +ℤ x)
both_sum (Ok w) x v e = (w, refl, fitted_is (fits (w +ℤ x)) (w +ℤ x) v e)
both_sum (Err f) x v e = absurd (cc)

pub total_push : (xs : List ℤ) (v : ℤ) → total (xs ++ v ∷ []) ≡ total xs +ℤ v
total_push [] v = omega (arith, ints)
total_push (x ∷ xs) v = let e = total_push xs v in omega (arith, ints)

sum_is : (n : ℕ) (m : State) (v : ℤ) → n ≤ length m → value (sum_to n) m ≡ Ok v → v ≡ total (take n m)
sum_is zero m v h e = cc
sum_is (suc n) m v h e =
    let x = get_or m n (pos 0) in
    let p = both_sum (value (sum_to n) m) x v e in
    let q : p.0 ≡ total (take n m) = sum_is n m p.0 (omega arith) p.1 in
    let one : suc n ≡ n + 1 = omega arith in
    p.2 ∙ ap (λ (w : ℤ). w +ℤ x) q ∙ sym (total_push (take n m) x) ∙ ap total (sym (take_more m n (pos 0) (omega arith))) ∙ ap (λ k. total (take k m)) (sym one)

equal : (r : Result ℤ Fault) (all : ℤ) → both (λ x y. Ok (int_eq x y)) r (Ok all) ≡ Ok true → r ≡ Ok all
equal (Ok w) all e = let yes : int_eq w all ≡ true = cc in let same : w ≡ all = (Decides-int_eq w all).0 yes in cc
equal (Err f) all e = absurd (cc)

kept_sound : (n : ℕ) (all : ℤ) (m : State) → length m ≡ n → AllTrue (rules n all) m → IsSound all m
kept_sound n all m size h =
    let r = last_true (floors n) (Eq (sum_to n) (Int all)) m h in
    record {
      none_below = All-from_get_or (λ v. pos 0 ≤ℤ v) m (pos 0) (λ i lt. floors_true n m r.0 i (omega arith));
      together = ap total (sym (take_all n m (omega arith))) ∙ sym (sum_is n m all (omega arith) (equal (value (sum_to n) m) all r.1));
    }

-- what is declared with a bank's conditions is a bank
pub is_bank : (l : Listing) (n : ℕ) (all : ℤ) → conditions l ≡ rules n all → length l.initial ≡ n → all ≡ total l.initial → IsBank l
is_bank l n all same size sum m long h =
    subst (λ (v : ℤ). IsSound v m) sum (kept_sound n all m (long ∙ size) (subst (λ cs. AllTrue cs m) same h))

sound_present : (l : Listing) (b : BookView) → IsBank l → declaring b.catalogue ≡ declaring l → length b.catalogue.initial ≡ length l.initial → BookFits b → KeepsConditions b → IsSound (total l.initial) b.present.state
sound_present l b bank same wide fit kept =
    bank b.present.state (fit.values ∙ wide)
    (subst (λ cs. AllTrue cs b.present.state) (ap (λ (k : Listing). conditions k) same) kept.1)

-- the present values of a bank's book are sound
pub sound_values : {E : Type 0} (c l : Listing) (b : BookView) (r : Result (Vec ℤ Global) E) → c ≡ l → declaring b.catalogue ≡ declaring c → length b.catalogue.initial ≡ length c.initial → IsBank l → BookFits b → KeepsConditions b
    → IfOk r (λ (v : Vec ℤ Global). v.items ≡ b.present.state) → IfOk r (λ (v : Vec ℤ Global). IsSound (total l.initial) v.items)
sound_values c l b (Ok v) named same wide bank fit kept is =
    subst (λ (m : State). IsSound (total l.initial) m) (sym is) (sound_present l b bank (same ∙ ap (λ (k : Listing). declaring k) named) (wide ∙ ap (λ (k : Listing). length k.initial) named) fit kept)
sound_values c l b (Err e) named same wide bank fit kept is = is
