use Rattle.std.proofs.Common.{◌≡◌, ◌∷◌, List, ℕ, take}
use Rattle.world_law.specs.World.{HoldValues}
use Rattle.world.proofs.opening.opening_words.Given as goal

abbrev pub invariant-loop-value : goal.invariant-loop-value
invariant-loop-value l = (rest : List ℕ) × (l.words.items ≡ 0 ∷ rest) × HoldValues (take l.value-index l.values) rest
