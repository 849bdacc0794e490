-- A present that is where the entries lead.
use Rattle.std.proofs.Common.{◌≡◌, ◌∙◌, ℕ, suc, ℤ, List, [], ◌∷◌, length, map, Some, refl, sym, ap, arith}
use Rattle.std.specs.List.{slice_get}
use Rattle.std.proofs.lemmas.Option.{same_Some}
use Rattle.txn_programs.specs.Meaning.{State}
use Rattle.txn_programs.specs.Replay.{Snapshot}
use Rattle.txn_programs.specs.Told.{snapshot_at}
use Rattle.explain_reports.specs.First.{AllRight}
use Rattle.explain_reports.specs.Parts.{StandsAt}

-- one of two parts of each pair is that of a list
same_list : {A B : Type 0} (part : A → B) (xs : List B) (vars : List A) → length xs ≡ length vars → ((i : ℕ) (v : A) → slice_get vars i ≡ Some v → slice_get xs i ≡ Some (part v)) → map part vars ≡ xs
same_list part [] [] sized h = refl
same_list part [] (v ∷ vars) sized h = absurd (omega arith)
same_list part (x ∷ xs) [] sized h = absurd (omega arith)
same_list part (x ∷ xs) (v ∷ vars) sized h =
    ap (λ z. z ∷ map part vars) (sym (same_Some x (part v) (h 0 v refl)))
    ∙ ap (λ zs. x ∷ zs) (same_list part xs vars (omega arith) (λ i w e. h (suc i) w e))

abbrev made : ℕ → State → List ℕ → Snapshot
made n state versions = record { number = n; state = state; versions = versions }

pub stands : (s : Snapshot) (n : ℕ) (vars : List (ℤ × ℕ)) → n ≡ s.number → length s.state ≡ length vars → length s.versions ≡ length vars → AllRight (StandsAt s) vars → snapshot_at n vars ≡ s
stands s n vars number values versions h =
    ap (λ (k : ℕ). snapshot_at k vars) number
    ∙ ap (λ (m : State). made s.number m (map (λ v. v.1) vars)) (same_list (λ v. v.0) s.state vars values (λ i v e. (h i v e).0))
    ∙ ap (λ (ks : List ℕ). made s.number s.state ks) (same_list (λ v. v.1) s.versions vars versions (λ i v e. (h i v e).1))
