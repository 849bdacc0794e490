-- Reading lines in their order, each step with what it reads and the lines left.
use Rattle.std.specs.Prelude.{ℕ, Bool, true, false, ◌&&◌, if◌then◌else◌, Result, Ok, Err, List, [], codes}
use Rattle.std.specs.Str.{bytes_eq}
use Rattle.text_words.specs.Answers.{◌>>=◌}
use Rattle.text_words.specs.declared.fault.ReadFault.{ReadFault}
use Rattle.text_words.specs.declared.fault.ReadFault.TheVariants.{Shape}
use Rattle.text_line_reader.specs.Lines.{Line}
use Rattle.text_line_reader.specs.ReportRaw.{Variable, Cell, Ending, Returned, Threw, Overflow, DivideByZero, Outside, Broke, Entry, Task, Raw}
use Rattle.text_line_reader.specs.Words.{first_word, name_in, int_in, number_in, cell_in, is_bracketed, expect, after_word}
use Rattle.text_line_reader.specs.Rows.{Read, line_at, lines_at, all_by, all_at, end_at}

-- ---- lines

unfoldable pub variable_in : List ℕ → Result Variable ReadFault
variable_in text = do
  first ← first_word text
  second ← first_word first.1
  name ← name_in first.0
  value ← int_in second.0
  version ← number_in second.1
  Ok (record { name = name; value = value; version = version })

unfoldable pub cell_line_in : List ℕ → Result Cell ReadFault
cell_line_in text = do
  first ← first_word text
  second ← first_word first.1
  cell ← cell_in first.0
  value ← int_in second.0
  version ← number_in second.1
  Ok (record { table = cell.0; index = cell.1; value = value; version = version })

-- behind a word, the value with which an ending comes
unfoldable pub valued_in : List ℕ → List ℕ → Result Ending ReadFault
valued_in word text = do
  value ← int_in text
  if bytes_eq word (codes "returned") then Ok (Returned value) else (if bytes_eq word (codes "threw") then Ok (Threw value) else Err Shape)

-- the name of the condition that is broken
unfoldable pub broke_in : List ℕ → Result Ending ReadFault
broke_in text = do
  name ← name_in text
  Ok (Broke name)

-- an ending of two words
unfoldable pub worded_in : List ℕ → Result Ending ReadFault
worded_in text = do
  word ← first_word text
  if bytes_eq word.0 (codes "broke") then broke_in word.1 else valued_in word.0 word.1

-- an ending, which is outside only where cells can be told
unfoldable pub ending_in : Bool → List ℕ → Result Ending ReadFault
ending_in cells text =
    if bytes_eq text (codes "overflow") then Ok Overflow
    else (if bytes_eq text (codes "zerodiv") then Ok DivideByZero
    else (if bytes_eq text (codes "outside") && cells then Ok Outside else worded_in text))

unfoldable pub entry_in : Bool → List ℕ → Result Entry ReadFault
entry_in cells text = do
  first ← after_word (codes "entry") text
  second ← first_word first
  third ← first_word second.1
  fourth ← first_word third.1
  number ← number_in second.0
  task ← number_in third.0
  name ← name_in fourth.0
  ending ← ending_in cells fourth.1
  Ok (record { number = number; task = task; name = name; ending = ending })

unfoldable pub task_in : List ℕ → List ℕ → Result Task ReadFault
task_in wanted text = do
  first ← after_word wanted text
  second ← first_word first
  task ← number_in second.0
  name ← name_in second.1
  Ok (record { task = task; name = name })

unfoldable pub numbered_in : List ℕ → List ℕ → Result (List ℕ) ReadFault
numbered_in wanted text = do
  number ← after_word wanted text
  number_in number

-- ---- one line after another

-- the lines of cells, where cells can be told
unfoldable pub cells_at : Bool → List Line → Read (List Cell)
cells_at false ls = Ok ([], ls)
cells_at true ls = all_by is_bracketed cell_line_in ls

-- the lines of so many variables, and behind them those of cells
unfoldable pub values_at : Bool → ℕ → List Line → Read (List Variable × List Cell)
values_at cells variables ls = do
  vars ← lines_at variable_in variables ls
  of_cells ← cells_at cells vars.1
  Ok ((vars.0, of_cells.0), of_cells.1)

unfoldable pub raw_at : Bool → ℕ → List Line → Result Raw ReadFault
raw_at cells variables ls = do
  base ← line_at (numbered_in (codes "base")) ls
  base_values ← values_at cells variables base.1
  entries ← all_at (codes "entry") (entry_in cells) base_values.1
  current ← line_at (numbered_in (codes "now")) entries.1
  current_values ← values_at cells variables current.1
  parked ← all_at (codes "parked") (task_in (codes "parked")) current_values.1
  memory ← all_at (codes "memory") (task_in (codes "memory")) parked.1
  last ← line_at (expect (codes "end")) memory.1
  nothing ← end_at last.1
  Ok (record {
    base = base.0;
    base_vars = base_values.0.0;
    base_cells = base_values.0.1;
    entries = entries.0;
    current = current.0;
    current_vars = current_values.0.0;
    current_cells = current_values.0.1;
    parked = parked.0;
    memory = memory.0;
  })
