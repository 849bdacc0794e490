-- A history of states, told by how the last of them came about.
use Rattle.std.specs.Prelude.{[], ◌∷◌, ◌++◌, List, ℤ, slice_set}
use Rattle.cells.specs.declared.history.Past.{Past}
use Rattle.cells.specs.declared.history.Past.TheVariants.{Empty, Grown', Again', Put'}

-- the last state
abbrev pub latest : Past → List ℤ
latest Empty = []
latest (Grown' marker past value) = latest past ++ value ∷ []
latest (Again' marker past) = latest past
latest (Put' marker past variable value) = slice_set (latest past) variable.0 value

-- those before it, the oldest first
abbrev pub earlier : Past → List (List ℤ)
earlier Empty = []
earlier (Grown' marker past value) = earlier past
earlier (Again' marker past) = earlier past ++ latest past ∷ []
earlier (Put' marker past variable value) = earlier past

abbrev pub states : Past → List (List ℤ)
states past = earlier past ++ latest past ∷ []
