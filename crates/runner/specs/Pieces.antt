-- What goes to a sink by way of a text.
use Rattle.std.specs.Prelude.{◌≡◌, ℕ, List, ◌++◌, Option, take, drop}
use Rattle.std.specs.List.{flat_map}
use Rattle.std.specs.Io.KnownBytes.{Appends}

-- these bytes were put behind what waited: of it all the sink has taken a beginning, and the rest waits
pub record Gathers (old : Option (List ℕ)) (waited : List ℕ) (new : Option (List ℕ)) (waits bytes : List ℕ) : Type 0 where
  pub taken : List ℕ
  pub appended : Appends old new taken
  pub whole : taken ++ waits ≡ waited ++ bytes

-- the sink failed: of it all it has taken a beginning
abbrev pub Breaks : Option (List ℕ) → List ℕ → Option (List ℕ) → List ℕ → Type 0
Breaks old waited new bytes = (lost : List ℕ) × Gathers old waited new lost bytes

-- the same for a line for each element of a list, up to here
pub record Lines {X : Type 0} (f : X → List ℕ) (old : Option (List ℕ)) (waited : List ℕ) (new : Option (List ℕ)) (waits : List ℕ) (all rest : List X) : Type 0 where
  pub count : ℕ
  pub left : rest ≡ drop count all
  pub gathers : Gathers old waited new waits (flat_map f (take count all))
