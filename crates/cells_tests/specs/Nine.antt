-- A state in which nine variables have one value.
use Rattle.std.specs.Prelude.{List, [], ◌∷◌, ℤ}

abbrev pub nine : ℤ → List ℤ
nine v = v ∷ v ∷ v ∷ v ∷ v ∷ v ∷ v ∷ v ∷ v ∷ []
