-- Reading the lines of a schedule in their order.
use Rattle.std.specs.Prelude.{ℕ, Bool, ◌&&◌, if◌then◌else◌, Option, Some, None, Result, Ok, Err, List, codes}
use Rattle.std.specs.Str.{bytes_eq}
use Rattle.text_words.specs.Answers.{◌>>=◌}
use Rattle.text_words.specs.declared.fault.ReadFault.{ReadFault}
use Rattle.text_words.specs.declared.fault.ReadFault.TheVariants.{Shape}
use Rattle.text_line_reader.specs.Lines.{Line, Whole, Cut, parted}
use Rattle.text_line_reader.specs.Words.{first_word, number_in, name_in, cell_in, is_bracketed}
use Rattle.text_line_reader.specs.Rows.{each}
use Rattle.text_line_reader.specs.declared.schedule.raw.TaskVerb.{TaskVerb}
use Rattle.text_line_reader.specs.declared.schedule.raw.TaskVerb.TheVariants as task
use Rattle.text_line_reader.specs.declared.schedule.raw.VariableVerb.{VariableVerb}
use Rattle.text_line_reader.specs.declared.schedule.raw.VariableVerb.TheVariants as variable
use Rattle.text_line_reader.specs.ScheduleRaw.{Raw, OfTask, OfVariable, OfCell, Word}

unfoldable pub task_verb : List ℕ → Option TaskVerb
task_verb word =
    if bytes_eq word (codes "begin") then Some task.Begin
    else (if bytes_eq word (codes "commit") then Some task.Commit
    else (if bytes_eq word (codes "drop") then Some task.Drop
    else (if bytes_eq word (codes "value") then Some task.Value
    else (if bytes_eq word (codes "second") then Some task.Second
    else (if bytes_eq word (codes "ask") then Some task.Ask
    else (if bytes_eq word (codes "again") then Some task.Again
    else (if bytes_eq word (codes "move") then Some task.Move
    else None)))))))

unfoldable pub variable_verb : List ℕ → Option VariableVerb
variable_verb word =
    if bytes_eq word (codes "read") then Some variable.Read
    else (if bytes_eq word (codes "first") then Some variable.First
    else None)

-- a line that is one word
unfoldable pub alone : List ℕ → Result Raw ReadFault
alone text = if bytes_eq text (codes "word") then Ok Word else Err Shape

unfoldable pub of_task : TaskVerb → List ℕ → Result Raw ReadFault
of_task verb rest = number_in rest >>= λ number. Ok (OfTask verb number)

-- a variable, or a cell where cells can be told
unfoldable pub named_with : VariableVerb → List ℕ → List ℕ → Result Raw ReadFault
named_with verb number text = name_in text >>= λ name. Ok (OfVariable verb number name)

unfoldable pub cell_with : VariableVerb → List ℕ → List ℕ → Result Raw ReadFault
cell_with verb number text = cell_in text >>= λ cell. Ok (OfCell verb number cell.0 cell.1)

unfoldable pub of_variable : Bool → VariableVerb → List ℕ → Result Raw ReadFault
of_variable cells verb rest = do
  first ← first_word rest
  number ← number_in first.0
  if cells && is_bracketed first.1 then cell_with verb number first.1 else named_with verb number first.1

-- what stands behind a verb
unfoldable pub of_verb : Bool → Option TaskVerb → Option VariableVerb → List ℕ → Result Raw ReadFault
of_verb cells (Some verb) other rest = of_task verb rest
of_verb cells None (Some verb) rest = of_variable cells verb rest
of_verb cells None None rest = Err Shape

-- the parts of a line round its first space
abbrev pub of_parts : Bool → List ℕ → Option (List ℕ × List ℕ) → Result Raw ReadFault
of_parts cells text None = alone text
of_parts cells text (Some x) = of_verb cells (task_verb x.0) (variable_verb x.0) x.1

unfoldable pub move_in : Bool → List ℕ → Result Raw ReadFault
move_in cells text = of_parts cells text (parted 32 text)

abbrev pub raw_in : Bool → Line → Result Raw ReadFault
raw_in cells (Whole text) = move_in cells text
raw_in cells (Cut text) = Err Shape

abbrev pub raws_at : Bool → List Line → Result (List Raw) ReadFault
raws_at cells ls = each (raw_in cells) ls
