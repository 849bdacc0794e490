-- Numbers with a place each.
use Rattle.std.specs.Prelude.{ℕ, List, [], ◌∷◌, Option, Some, None, ◌==◌, if◌then◌else◌}

-- the place of a number, if it is there
abbrev pub far_place : List (ℕ × ℕ) → ℕ → Option ℕ
far_place [] n = None
far_place (p ∷ rest) n = if p.0 == n then Some p.1 else far_place rest n

-- numbers, each with its place
abbrev pub with_places : List ℕ → List ℕ → List (ℕ × ℕ)
with_places [] places = []
with_places (n ∷ numbers) [] = []
with_places (n ∷ numbers) (place ∷ places) = (n, place) ∷ with_places numbers places
