-- A base that opens.
use Rattle.std.proofs.Common.{◌≡◌, ◌∙◌, ℕ, ◌≤◌, ℤ, List, [], ◌∷◌, length, refl, ap, arith, map, replicate}
use Rattle.std.specs.List.{All}
use Rattle.std.proofs.lemmas.List.Elements.{All-head, All-tail}
use Rattle.txn_programs.specs.Listing.{Listing}
use Rattle.txn_programs.specs.Meaning.{State}
use Rattle.txn_programs.specs.Replay.{Snapshot, opening}
use Rattle.txn_programs.specs.Told.{snapshot_at}

zeros : (vars : List (ℤ × ℕ)) → All (λ v. v.1 ≤ 0) vars → map (λ v. v.1) vars ≡ replicate (length (map (λ v. v.0) vars)) 0
zeros [] h = refl
zeros (v ∷ vs) h =
    let first : v.1 ≤ 0 = All-head (λ (x : ℤ × ℕ). x.1 ≤ 0) v vs h in
    let none : v.1 ≡ 0 = omega arith in
    ap (λ n. n ∷ map (λ x. x.1) vs) none ∙ ap (λ ns. 0 ∷ ns) (zeros vs (All-tail (λ (x : ℤ × ℕ). x.1 ≤ 0) v vs h))

pub opens : (l : Listing) (vars : List (ℤ × ℕ)) → All (λ v. v.1 ≤ 0) vars → map (λ v. v.0) vars ≡ l.initial → snapshot_at 0 vars ≡ opening l
opens l vars h e =
    ap (λ ks. let x : Snapshot = record { number = 0; state = map (λ v. v.0) vars; versions = ks } in x) (zeros vars h)
    ∙ ap (λ (m : State). let x : Snapshot = record { number = 0; state = m; versions = replicate (length m) 0 } in x) e
