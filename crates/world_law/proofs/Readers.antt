-- What a reader knows of its loads stays true while the words of the variable only grow.
use Rattle.std.proofs.Common.{◌≡◌, ◌⊎◌, ℕ, ◌%◌, ◌<◌, List, [], ◌∷◌, ℤ, subst, ⊎_elim, inl, inr, arith}
use Rattle.std.specs.Int.{w64, cast_signed}
use Rattle.txn_words.specs.Loads.{LoadedIs, SamplingHolds}

pub sampling_stays : (a b a' b' rv : ℕ) (z : ℤ) → (a < a') ⊎ ((a ≡ a') × ((a % 2 ≡ 1) ⊎ (b ≡ b'))) → (ls : List ℕ) → SamplingHolds a b rv z ls → SamplingHolds a' b' rv z ls
sampling_stays a b a' b' rv z g [] h = tt
sampling_stays a b a' b' rv z (inl up) (l ∷ more) h = let p = h.0 in let q = h.1 in (omega arith, omega arith, λ _ _. inl (omega arith))
sampling_stays a b a' b' rv z (inr (same, inl odd)) (l ∷ more) h = let p = h.0 in let q = h.1 in (omega arith, omega arith, λ even _. inl (omega arith))
sampling_stays a b a' b' rv z (inr (same, inr is)) (l ∷ more) h =
    let p = h.0 in let q = h.1 in
    (omega arith, omega arith, λ even low. ⊎_elim (λ (t : l < a). inl (omega arith)) (λ (t : (cast_signed w64 b ≡ z) × LoadedIs z more). inr (subst (λ (k : ℕ). cast_signed w64 k ≡ z) is t.0, t.1)) (h.2 even low))
