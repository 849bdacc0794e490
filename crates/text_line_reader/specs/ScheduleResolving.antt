-- From the words of a schedule to its moves: names as ids, and integers as numbers of the machine.
use Rattle.std.specs.Prelude.{ℕ, Bool, true, is_some, if◌then◌else◌, Option, Some, None, Result, Ok, Err, List}
use Rattle.std.specs.List.{list_all}
use Rattle.txn_programs.specs.declared.ast.TaskId.{TaskId}
use Rattle.txn_programs.specs.declared.ast.VarId.{VarId}
use Rattle.txn_programs.specs.declared.moves.Move.{Move}
use Rattle.txn_programs.specs.declared.moves.Move.TheVariants as move
use Rattle.txn_programs.specs.Listing.{Listing, variable_named}
use Rattle.text_words.specs.Answers.{◌>>=◌}
use Rattle.text_words.specs.declared.fault.ReadFault.{ReadFault}
use Rattle.text_words.specs.declared.fault.ReadFault.TheVariants.{Name}
use Rattle.text_line_reader.specs.CellNames.{cell_named}
use Rattle.text_line_reader.specs.Counts.{task_id}
use Rattle.text_line_reader.specs.Rows.{each}
use Rattle.text_line_reader.specs.declared.schedule.raw.TaskVerb.{TaskVerb}
use Rattle.text_line_reader.specs.declared.schedule.raw.TaskVerb.TheVariants as of_task
use Rattle.text_line_reader.specs.declared.schedule.raw.VariableVerb.{VariableVerb}
use Rattle.text_line_reader.specs.declared.schedule.raw.VariableVerb.TheVariants as of_variable
use Rattle.text_line_reader.specs.ScheduleRaw.{Raw, OfTask, OfVariable, OfCell, Word}

-- ---- names

-- the line's variable or cell is known, if it names one
abbrev pub is_known : Listing → Raw → Bool
is_known l (OfTask verb number) = true
is_known l (OfVariable verb number name) = is_some (variable_named l name)
is_known l (OfCell verb number table index) = is_some (cell_named l table index)
is_known l Word = true

abbrev pub names_known : Listing → List Raw → Bool
names_known l raws = list_all (is_known l) raws

abbrev pub found : Option VarId → Result VarId ReadFault
found None = Err Name
found (Some x) = Ok x

unfoldable pub cell_id : Listing → List ℕ → List ℕ → Result VarId ReadFault
cell_id l table index = found (cell_named l table index)

unfoldable pub variable_id : Listing → List ℕ → Result VarId ReadFault
variable_id l name = found (variable_named l name)

-- ---- moves

abbrev pub task_move : TaskVerb → TaskId → Move
task_move of_task.Begin task = move.Begin task
task_move of_task.Commit task = move.Commit task
task_move of_task.Drop task = move.Drop task
task_move of_task.Value task = move.Value task
task_move of_task.Second task = move.Second task
task_move of_task.Ask task = move.Ask task
task_move of_task.Again task = move.Again task
task_move of_task.Move task = move.Move task

abbrev pub variable_move : VariableVerb → TaskId → VarId → Move
variable_move of_variable.Read task x = move.Read task x
variable_move of_variable.First task x = move.First task x

abbrev pub move_told : Listing → Raw → Result Move ReadFault
move_told l (OfTask verb number) = task_id l number >>= λ task. Ok (task_move verb task)
move_told l (OfVariable verb number name) = task_id l number >>= λ task. variable_id l name >>= λ x. Ok (variable_move verb task x)
move_told l (OfCell verb number table index) = task_id l number >>= λ task. cell_id l table index >>= λ x. Ok (variable_move verb task x)
move_told l Word = Ok move.Word

abbrev pub moves_told : Listing → List Raw → Result (List Move) ReadFault
moves_told l raws = each (move_told l) raws

-- names are judged over the whole schedule before any number is
unfoldable pub resolved : Listing → List Raw → Result (List Move) ReadFault
resolved l raws = if names_known l raws then moves_told l raws else Err Name
