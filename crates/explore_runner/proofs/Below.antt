-- What is so of some number below another.
use Rattle.std.proofs.Common.{◌≡◌, ℕ, zero, suc, ◌<◌, ◌≤◌, Bool, true, false, ◌||◌, sym, ◌∙◌, ap, ⊎_elim, arith, refl}
use Rattle.std.proofs.lemmas.Bool.{cases_lt}
use Rattle.explore_runner.specs.FoundText.{some_below}

pub some_at : (so : ℕ → Bool) (n i : ℕ) → i < n → so i ≡ true → some_below so n ≡ true
some_at so zero i low is = absurd (omega (arith, low))
some_at so (suc n) i low is =
    ⊎_elim (λ (less : i < n). ap (λ (b : Bool). b || so n) (some_at so n i less is))
    (λ (more : n ≤ i).
    let same : i ≡ n = omega (arith, low, more) in
    by (some_below so n) (so n) (ap so (sym same) ∙ is))
    (cases_lt i n)
  where
    by : (a b : Bool) → b ≡ true → (a || b) ≡ true
    by true b e = refl
    by false b e = e
