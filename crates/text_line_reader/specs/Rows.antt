-- Reading one line after another, each step with what it reads and the lines left.
use Rattle.std.specs.Prelude.{ℕ, zero, suc, Bool, if◌then◌else◌, Option, Some, None, Result, Ok, Err, List, [], ◌∷◌}
use Rattle.text_words.specs.Answers.{◌>>=◌}
use Rattle.text_words.specs.declared.fault.ReadFault.{ReadFault}
use Rattle.text_words.specs.declared.fault.ReadFault.TheVariants.{Shape}
use Rattle.text_line_reader.specs.Lines.{Line, Whole, Cut, first_line}
use Rattle.text_line_reader.specs.Words.{given, begins}

abbrev pub Read : Type 0 → Type 0
Read A = Result (A × List Line) ReadFault

-- a line, read so
unfoldable pub line_at : {A : Type 0} → (List ℕ → Result A ReadFault) → List Line → Read A
line_at one ls = do
  first ← given (first_line ls)
  x ← one first.0
  Ok (x, first.1)

-- x before those that are read
abbrev pub with_first : {A : Type 0} → A → Read (List A) → Read (List A)
with_first x read = read >>= λ others. Ok (x ∷ others.0, others.1)

-- as many lines, each read so
abbrev pub lines_at : {A : Type 0} → (List ℕ → Result A ReadFault) → ℕ → List Line → Read (List A)
lines_at one zero ls = Ok ([], ls)
lines_at one (suc n) ls = line_at one ls >>= λ first. with_first first.0 (lines_at one n first.1)

-- the next line, if there is one for which the test holds
abbrev pub next_by : {A : Type 0} → (List ℕ → Bool) → (List ℕ → Result A ReadFault) → List Line → Result (Option (A × List Line)) ReadFault
next_by test one [] = Ok None
next_by test one (Cut text ∷ ls) = Ok None
next_by test one (Whole text ∷ ls) = if test text then (one text >>= λ x. Ok (Some (x, ls))) else Ok None

-- the lines for which the test holds
abbrev pub all_by : {A : Type 0} → (List ℕ → Bool) → (List ℕ → Result A ReadFault) → List Line → Read (List A)
all_by test one [] = Ok ([], [])
all_by test one (Cut text ∷ ls) = Ok ([], Cut text ∷ ls)
all_by test one (Whole text ∷ ls) = if test text then (one text >>= λ x. with_first x (all_by test one ls)) else Ok ([], Whole text ∷ ls)

-- the same by the word with which they begin
abbrev pub next_at : {A : Type 0} → List ℕ → (List ℕ → Result A ReadFault) → List Line → Result (Option (A × List Line)) ReadFault
next_at wanted one ls = next_by (begins wanted) one ls

abbrev pub all_at : {A : Type 0} → List ℕ → (List ℕ → Result A ReadFault) → List Line → Read (List A)
all_at wanted one ls = all_by (begins wanted) one ls

-- no line is left
unfoldable pub end_at : List Line → Result Unit ReadFault
end_at [] = Ok tt
end_at (l ∷ ls) = Err Shape

abbrev pub each : {A B : Type 0} → (A → Result B ReadFault) → List A → Result (List B) ReadFault
each one [] = Ok []
each one (x ∷ xs) = one x >>= λ y. each one xs >>= λ ys. Ok (y ∷ ys)
