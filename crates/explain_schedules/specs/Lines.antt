-- One line, without its newline: what it says, or where it stops being a line. Where cells is true it may name a cell.
use Rattle.std.specs.Prelude.{◌≡◌, ℕ, Bool, true, List, [], ◌∷◌, ◌++◌, Ok, Err}
use Rattle.text_words.specs.Words.{line}
use Rattle.text_words.specs.declared.fault.ReadFault.TheVariants.{Shape}
use Rattle.text_line_reader.specs.ScheduleRaw.{Raw, raw_words, IsRaw}
use Rattle.text_line_reader.specs.ScheduleRaw as raw
use Rattle.text_line_reader.specs.ScheduleReading.{move_in}
use Rattle.explain_schedules.specs.Words.{behind, behind_len, lacks, task_place, name_place, wanted_behind}
use Rattle.explain_schedules.specs.declared.line.Line.{Line}
use Rattle.explain_schedules.specs.declared.line.Wanted.{Wanted}
use Rattle.explain_schedules.specs.declared.line.Line.TheVariants as code

-- the code's line says what the line of a schedule says, and where its words stand
abbrev pub Says : Raw → Line → Type 0
Says (raw.OfTask verb task) (code.OfTask at number) = (at ≡ task_place (raw.OfTask verb task))
    × (number.text.now ≡ task)
Says (raw.OfVariable verb task name) (code.OfVariable at number named_at named) =
    (at ≡ task_place (raw.OfVariable verb task name)) × (number.text.now ≡ task)
    × (named_at ≡ name_place (raw.OfVariable verb task name)) × (named.now ≡ name)
Says (raw.OfCell verb task table index) (code.OfCell at number named_at named count) =
    (at ≡ task_place (raw.OfCell verb task table index)) × (number.text.now ≡ task)
    × (named_at ≡ name_place (raw.OfCell verb task table index)) × (named.now ≡ table) × (count.text.now ≡ index)
Says raw.Word code.Word = Unit {0}
-- they are lines of two kinds
Says line said = ⊥

-- the text is read as a line, and the code's says so
pub record IsLine (cells : Bool) (text : List ℕ) (said : Line) : Type 0 where
  pub raw : Raw
  pub read : move_in cells text ≡ Ok raw
  pub says : Says raw said

-- some line begins with these words, each with a space behind it
pub record Opens (cells : Bool) (before : List (List ℕ)) : Type 0 where
  pub raw : Raw
  pub is : IsRaw cells raw
  pub more : List ℕ
  pub text : line (raw_words raw) ≡ behind before more

-- none with the word, too, and the space behind it; where nothing stands behind it, it is none with it
abbrev pub Closes : Bool → List (List ℕ) → List ℕ → List ℕ → Type 0
Closes cells before word [] = move_in cells (behind before word) ≡ Err Shape
Closes cells before word (b ∷ rest) =
    (b ≡ 32) × ((more : List ℕ) → move_in cells (behind before (word ++ (32 ∷ more))) ≡ Err Shape)

-- the word at the place is none of a line's there, and this is wanted
pub record StopsAt (cells : Bool) (text : List ℕ) (at : ℕ) (wanted : Wanted) : Type 0 where
  pub before : List (List ℕ)
  pub word : List ℕ
  pub rest : List ℕ
  pub text_is : text ≡ behind before (word ++ rest)
  pub at_is : at ≡ behind_len before
  pub spaceless : lacks 32 word ≡ true
  pub opens : Opens cells before
  pub closes : Closes cells before word rest
  pub wanted_is : wanted ≡ wanted_behind before
