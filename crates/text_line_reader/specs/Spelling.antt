-- The text of a schedule: a line for each of its moves.
use Rattle.std.specs.Prelude.{ℕ, ◌<◌, List, [], ◌∷◌, length, codes}
use Rattle.std.specs.List.{flat_map}
use Rattle.std.specs.Fmt.{decimal}
use Rattle.txn_programs.specs.declared.ast.TaskId.{TaskId}
use Rattle.txn_programs.specs.declared.ast.VarId.{VarId}
use Rattle.txn_programs.specs.declared.moves.Move.{Move}
use Rattle.txn_programs.specs.declared.moves.Move.TheVariants as move
use Rattle.txn_programs.specs.declared.moves.Move.TheVariants.{Begin, Read, Commit, Drop, First, Value, Second, Ask, Word, Again}
use Rattle.txn_programs.specs.Listing.{Listing, tasks, values}
use Rattle.text_words.specs.Words.{line}
use Rattle.text_report_printer.specs.Names.{value_name}

-- the words of a move's line
abbrev pub move_words : Listing → Move → List (List ℕ)
move_words l (Begin task) = codes "begin" ∷ decimal task.0 ∷ []
move_words l (Read task x) = codes "read" ∷ decimal task.0 ∷ value_name l x.0 ∷ []
move_words l (Commit task) = codes "commit" ∷ decimal task.0 ∷ []
move_words l (Drop task) = codes "drop" ∷ decimal task.0 ∷ []
move_words l (First task x) = codes "first" ∷ decimal task.0 ∷ value_name l x.0 ∷ []
move_words l (Value task) = codes "value" ∷ decimal task.0 ∷ []
move_words l (Second task) = codes "second" ∷ decimal task.0 ∷ []
move_words l (Ask task) = codes "ask" ∷ decimal task.0 ∷ []
move_words l Word = codes "word" ∷ []
move_words l (Again task) = codes "again" ∷ decimal task.0 ∷ []
move_words l (move.Move task) = codes "move" ∷ decimal task.0 ∷ []

abbrev pub schedule_text : Listing → List Move → List ℕ
schedule_text l moves = flat_map (λ m. line (move_words l m)) moves

-- a task, and a variable or a cell, of the catalogue
abbrev pub TaskFits : Listing → TaskId → Type 0
TaskFits l task = task.0 < length (tasks l)

abbrev pub VariableFits : Listing → VarId → Type 0
VariableFits l x = x.0 < values l

-- the move names tasks and variables of the catalogue alone
abbrev pub MoveFits : Listing → Move → Type 0
MoveFits l (Begin task) = TaskFits l task
MoveFits l (Read task x) = TaskFits l task × VariableFits l x
MoveFits l (Commit task) = TaskFits l task
MoveFits l (Drop task) = TaskFits l task
MoveFits l (First task x) = TaskFits l task × VariableFits l x
MoveFits l (Value task) = TaskFits l task
MoveFits l (Second task) = TaskFits l task
MoveFits l (Ask task) = TaskFits l task
MoveFits l Word = Unit {0}
MoveFits l (Again task) = TaskFits l task
MoveFits l (move.Move task) = TaskFits l task
