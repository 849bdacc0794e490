-- Calls are equal where the fields of what they give are, and counted tables where names and counts are.
use Rattle.std.proofs.Common.{◌≡◌, ◌∙◌, ap, sym, refl, ℕ, ℤ, List, length, take, ◌==◌, ◌&&◌, Bool, int_eq, bytes_eq, arith}
use Rattle.std.specs.Bool.{Decides}
use Rattle.std.specs.Cmp.{unsigned_Decides, signed_Decides}
use Rattle.std.proofs.lemmas.Bool.{and_parts, and_from}
use Rattle.std.proofs.lemmas.Grind.{common_steps}
use Rattle.std.proofs.lemmas.Slice.Eq.{slice_eq-Decides, bytes_eq-Decides}
use Rattle.std.specs.Cmp.Lexicographic.{pointwise}
use Rattle.txn_programs.specs.declared.arguments.Call.{Call}
use Rattle.txn_programs.specs.ArgumentsInside.{given, fields}

given_fields : (xs : List ℤ) → given (fields xs) ≡ xs
given_fields xs = grind (arith, common_steps)

same_fields : (xs ys : List ℤ) → (fields xs).values ≡ (fields ys).values → (fields xs).count ≡ (fields ys).count → xs ≡ ys
same_fields xs ys p q = sym (given_fields xs) ∙ ap (λ (k : ℕ). take k (fields xs).values) q ∙ ap (take (length ys)) p ∙ given_fields ys

abbrev eq_given : List ℤ → List ℤ → Bool
eq_given xs ys = pointwise int_eq (fields xs).values (fields ys).values && ((fields xs).count == (fields ys).count)

decides_given : (xs ys : List ℤ) → Decides (eq_given xs ys) (xs ≡ ys)
decides_given xs ys =
    let values = slice_eq-Decides signed_Decides (fields xs).values (fields ys).values _ refl in
    let count = unsigned_Decides (fields xs).count (fields ys).count in (
      λ h. let parts = and_parts _ _ h in same_fields xs ys (values.0 parts.0) (count.0 parts.1),
      λ e. and_from _ _ (values.1 (ap (λ zs. (fields zs).values) e)) (count.1 (ap length e)),
    )

same_call : (a b : Call) → a.tx.0 ≡ b.tx.0 → a.arguments ≡ b.arguments → a ≡ b
same_call a b p q =
    ap (λ (n : ℕ). let c : Call = record { tx = record { 0 = n }; arguments = a.arguments } in c) p
    ∙ ap (λ (given : List ℤ). let c : Call = record { tx = b.tx; arguments = given } in c) q

pub decides_call : (a b : Call) → Decides ((a.tx.0 == b.tx.0) && eq_given a.arguments b.arguments) (a ≡ b)
decides_call a b =
    let tx = unsigned_Decides a.tx.0 b.tx.0 in
    let rest = decides_given a.arguments b.arguments in (
      λ h. let parts = and_parts _ _ h in same_call a b (tx.0 parts.0) (rest.0 parts.1),
      λ e. and_from _ _ (tx.1 (ap (λ (c : Call). c.tx.0) e)) (rest.1 (ap (λ (c : Call). c.arguments) e)),
    )

pub decides_run : (a b : Call × ℕ) → Decides (((a.0.tx.0 == b.0.tx.0) && eq_given a.0.arguments b.0.arguments) && (a.1 == b.1)) (a ≡ b)
decides_run a b =
    let call = decides_call a.0 b.0 in
    let count = unsigned_Decides a.1 b.1 in (
      λ h. let parts = and_parts _ _ h in ap (λ (c : Call). (c, a.1)) (call.0 parts.0) ∙ ap (λ (n : ℕ). (b.0, n)) (count.0 parts.1),
      λ e. and_from _ _ (call.1 (ap (λ (r : Call × ℕ). r.0) e)) (count.1 (ap (λ (r : Call × ℕ). r.1) e)),
    )

pub decides_count : (a b : List ℕ × ℕ) → Decides (bytes_eq a.0 b.0 && (a.1 == b.1)) (a ≡ b)
decides_count a b =
    let name = bytes_eq-Decides a.0 b.0 in
    let count = unsigned_Decides a.1 b.1 in (
      λ h. let parts = and_parts _ _ h in ap (λ (n : List ℕ). (n, a.1)) (name.0 parts.0) ∙ ap (λ (n : ℕ). (b.0, n)) (count.0 parts.1),
      λ e. and_from _ _ (name.1 (ap (λ (r : List ℕ × ℕ). r.0) e)) (count.1 (ap (λ (r : List ℕ × ℕ). r.1) e)),
    )
