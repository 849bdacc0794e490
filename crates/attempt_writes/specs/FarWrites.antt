-- Own writes of far variables: each has a line, in the order of first writes, and notes name lines.
use Rattle.std.specs.Prelude.{◌≤◌, ℕ, ℤ, List, [], ◌∷◌, Option, Some, None, drop}
use Rattle.std.specs.List.{AllByRecursion}
use Rattle.attempt_writes.specs.declared.note.Note.{Note}
use Rattle.attempt_writes.specs.Known.{Known, write}
use Rattle.attempt_writes.specs.Notes.{undone}

-- the variables' numbers, the value of each, the notes, and all pairs as of the last `settle`
pub record Far : Type 0 where
  pub numbers : List ℕ
  pub table : List (Option ℤ)
  pub notes : List Note
  pub pairs : Known

-- each number is behind those of the table
abbrev pub AreFar : List ℕ → Type 0
AreFar numbers = AllByRecursion (λ n. 256 ≤ n) numbers

-- a write, if there is a value
abbrev pub written_if : ℕ → Option ℤ → Known → Known
written_if n None w = w
written_if n (Some v) w = write w (record { 0 = n }) v

-- a pair at the front, if there is a value
abbrev pub listed_if : ℕ → Option ℤ → Known → Known
listed_if n None rest = rest
listed_if n (Some v) rest = (record { 0 = n }, v) ∷ rest

-- the numbers that have a value in a table, ascending
abbrev pub gathered : List ℕ → List (Option ℤ) → Known
gathered [] table = []
gathered (n ∷ numbers) [] = []
gathered (n ∷ numbers) (o ∷ table) = written_if n o (gathered numbers table)

abbrev pub far_now : Far → Known
far_now f = gathered f.numbers f.table

-- the writes when there were so many notes
abbrev pub far_at : ℕ → Far → Known
far_at height f = gathered f.numbers (undone (drop height f.notes) f.table)

-- the lines that have a value, as they come
abbrev pub in_lines : List ℕ → List (Option ℤ) → Known
in_lines [] table = []
in_lines (n ∷ numbers) [] = []
in_lines (n ∷ numbers) (o ∷ table) = listed_if n o (in_lines numbers table)
