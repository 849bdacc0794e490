-- A text that grows by one piece after another.
use Rattle.std.proofs.Common.{◌≡◌, ℕ, suc, ◌+◌, List, ◌++◌, append_assoc, ap, ◌∙◌, arith}
use Rattle.explore_runner.specs.FoundText.{each_below}

pub one_more : (g : ℕ → List ℕ) (k : ℕ) (old mid new : List ℕ) → mid ≡ old ++ each_below g k → new ≡ mid ++ g k → new ≡ old ++ each_below g (k + 1)
one_more g k old mid new e f =
    let next : suc k ≡ k + 1 = omega arith in
    f ∙ ap (λ (o : List ℕ). o ++ g k) e ∙ append_assoc old (each_below g k) (g k) ∙ ap (λ (n : ℕ). old ++ each_below g n) next
