-- The words as a world opens.
use Rattle.std.specs.Prelude.{◌≡◌, ℕ, ℤ, List, ◌∷◌}
use Rattle.world_law.specs.World.{HoldValues}

-- the clock is 0, and of each variable there are a version word, which is 0, and its value word
abbrev pub AreOpeningWords : List ℤ → List ℕ → Type 0
AreOpeningWords values words = (rest : List ℕ) × (words ≡ 0 ∷ rest) × HoldValues values rest
