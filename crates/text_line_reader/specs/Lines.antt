-- The lines of bytes, and the parts of a line.
use Rattle.std.specs.Prelude.{ℕ, ◌==◌, if◌then◌else◌, Option, Some, None, List, [], ◌∷◌}

-- a line without the newline that ends it, or the last bytes, which no newline ends
pub data Line : Type 0 where
  Whole : (text : List ℕ) → Line
  Cut : (text : List ℕ) → Line

-- one byte more in front of the first line
abbrev pub with_byte : ℕ → List Line → List Line
with_byte b [] = Cut (b ∷ []) ∷ []
with_byte b (Whole text ∷ ls) = Whole (b ∷ text) ∷ ls
with_byte b (Cut text ∷ ls) = Cut (b ∷ text) ∷ ls

unfoldable pub lines : List ℕ → List Line
lines [] = []
lines (b ∷ bs) = if b == 10 then Whole [] ∷ lines bs else with_byte b (lines bs)

-- the first line and those behind it, if a newline ends it
abbrev pub first_line : List Line → Option (List ℕ × List Line)
first_line [] = None
first_line (Whole text ∷ ls) = Some (text, ls)
first_line (Cut text ∷ ls) = None

-- one byte more in front of the first part
abbrev pub behind_byte : ℕ → Option (List ℕ × List ℕ) → Option (List ℕ × List ℕ)
behind_byte b None = None
behind_byte b (Some x) = Some (b ∷ x.0, x.1)

-- what stands before the first such byte, and what behind it
unfoldable pub parted : ℕ → List ℕ → Option (List ℕ × List ℕ)
parted sep [] = None
parted sep (b ∷ bs) = if b == sep then Some ([], bs) else behind_byte b (parted sep bs)
