-- A schedule as it is written: its words, before any name or number is judged.
use Rattle.std.specs.Prelude.{◌≡◌, ℕ, Bool, true, List, [], ◌∷◌, codes}
use Rattle.std.specs.List.{flat_map}
use Rattle.txn_programs.specs.Names.{is_name}
use Rattle.text_words.specs.Words.{line}
use Rattle.text_report_printer.specs.ReportText.{cell_text}
use Rattle.text_line_reader.specs.Words.{is_number}
use Rattle.text_line_reader.specs.declared.schedule.raw.TaskVerb.{TaskVerb}
use Rattle.text_line_reader.specs.declared.schedule.raw.TaskVerb.TheVariants as of_task
use Rattle.text_line_reader.specs.declared.schedule.raw.VariableVerb.{VariableVerb}
use Rattle.text_line_reader.specs.declared.schedule.raw.VariableVerb.TheVariants as of_variable

pub data Raw : Type 0 where
  -- VERB TASK
  OfTask : (verb : TaskVerb) (task : List ℕ) → Raw
  -- VERB TASK NAME
  OfVariable : (verb : VariableVerb) (task : List ℕ) (name : List ℕ) → Raw
  -- VERB TASK NAME[INDEX]
  OfCell : (verb : VariableVerb) (task : List ℕ) (table index : List ℕ) → Raw
  -- word
  Word : Raw

abbrev pub task_word : TaskVerb → List ℕ
task_word of_task.Begin = codes "begin"
task_word of_task.Commit = codes "commit"
task_word of_task.Drop = codes "drop"
task_word of_task.Value = codes "value"
task_word of_task.Second = codes "second"
task_word of_task.Ask = codes "ask"
task_word of_task.Again = codes "again"
task_word of_task.Move = codes "move"

abbrev pub variable_word : VariableVerb → List ℕ
variable_word of_variable.Read = codes "read"
variable_word of_variable.First = codes "first"

abbrev pub raw_words : Raw → List (List ℕ)
raw_words (OfTask verb task) = task_word verb ∷ task ∷ []
raw_words (OfVariable verb task name) = variable_word verb ∷ task ∷ name ∷ []
raw_words (OfCell verb task table index) = variable_word verb ∷ task ∷ cell_text table index ∷ []
raw_words Word = codes "word" ∷ []

abbrev pub raw_text : List Raw → List ℕ
raw_text raws = flat_map (λ r. line (raw_words r)) raws

-- each word is of its kind, and a cell stands there only where cells can be told
abbrev pub IsRaw : Bool → Raw → Type 0
IsRaw cells (OfTask verb task) = is_number task ≡ true
IsRaw cells (OfVariable verb task name) = (is_number task ≡ true) × (is_name name ≡ true)
IsRaw cells (OfCell verb task table index) =
    (cells ≡ true) × (is_number task ≡ true) × (is_name table ≡ true) × (is_number index ≡ true)
IsRaw cells Word = Unit {0}
