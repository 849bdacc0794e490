-- The words of a line, and the bytes that stand round them.
use Rattle.std.specs.Prelude.{◌≡◌, ◌==◌, ℕ, Bool, true, not, is_some, if◌then◌else◌, List, [], ◌∷◌, ◌++◌, length, codes}
use Rattle.std.specs.List.{list_all}
use Rattle.text_words.specs.Bytes.{is_blank}
use Rattle.text_line_reader.specs.ScheduleRaw.{Raw, OfTask, OfVariable, OfCell, Word, task_word, variable_word}
use Rattle.text_line_reader.specs.ScheduleReading.{task_verb}
use Rattle.explain_schedules.specs.declared.line.Wanted.{Wanted}
use Rattle.explain_schedules.specs.declared.line.Wanted.TheVariants as want

-- these words with a space behind each, and then the bytes
abbrev pub behind : List (List ℕ) → List ℕ → List ℕ
behind [] bytes = bytes
behind (word ∷ words) bytes = word ++ (32 ∷ behind words bytes)

-- how many bytes that are, with the spaces
abbrev pub behind_len : List (List ℕ) → ℕ
behind_len words = length (behind words [])

-- no such byte
abbrev pub lacks : ℕ → List ℕ → Bool
lacks sep bytes = list_all (λ b. not (b == sep)) bytes

-- what stands before the first such byte, and what behind it
pub record IsParted (sep : ℕ) (bytes front back : List ℕ) : Type 0 where
  pub whole : bytes ≡ front ++ (sep ∷ back)
  pub lacking : lacks sep front ≡ true

-- neither a space nor a newline
abbrev pub is_word_byte : ℕ → Bool
is_word_byte b = not (is_blank b)

-- no bytes, or first a space or a newline
abbrev pub EndsWord : List ℕ → Type 0
EndsWord [] = Unit {0}
EndsWord (b ∷ rest) = is_blank b ≡ true

-- the byte that ends a word before these bytes; the end of the text ends it as a newline does
abbrev pub ending : List ℕ → List ℕ
ending [] = codes "\n"
ending (b ∷ rest) = b ∷ []

-- what is wanted behind these words of a line, each with a space behind it
abbrev pub wanted_behind : List (List ℕ) → Wanted
wanted_behind [] = want.Line
wanted_behind (verb ∷ []) = if is_some (task_verb verb) then want.Task else want.TaskAndVariable
wanted_behind (verb ∷ task ∷ more) = want.Variable

-- where in its line the number of the task begins
abbrev pub task_place : Raw → ℕ
task_place (OfTask verb task) = behind_len (task_word verb ∷ [])
task_place (OfVariable verb task name) = behind_len (variable_word verb ∷ [])
task_place (OfCell verb task table index) = behind_len (variable_word verb ∷ [])
task_place Word = 0

-- where in its line the name of the variable or of the cell begins
abbrev pub name_place : Raw → ℕ
name_place (OfTask verb task) = 0
name_place (OfVariable verb task name) = behind_len (variable_word verb ∷ task ∷ [])
name_place (OfCell verb task table index) = behind_len (variable_word verb ∷ task ∷ [])
name_place Word = 0
