-- From the words of a report to what it tells: names as ids, and integers as numbers of the machine.
use Rattle.std.specs.Prelude.{ℕ, suc, ◌+◌, ℤ, Bool, true, false, is_some, ◌&&◌, ◌==◌, nat_le, if◌then◌else◌, Option, Some, None, Result, Ok, Err, List, [], ◌∷◌, ◌++◌, length, drop}
use Rattle.std.specs.List.{list_all}
use Rattle.std.specs.Str.{bytes_eq}
use Rattle.std.specs.Str.Parse.{digits_value}
use Rattle.txn_programs.specs.declared.ast.VarId.{VarId}
use Rattle.txn_programs.specs.declared.ast.AlwaysId.{AlwaysId}
use Rattle.txn_programs.specs.declared.ast.TaskId.{TaskId}
use Rattle.txn_programs.specs.declared.ast.TxId.{TxId}
use Rattle.txn_programs.specs.declared.ast.Fault.TheVariants as fault
use Rattle.txn_programs.specs.declared.ast.Outcome.{Outcome}
use Rattle.txn_programs.specs.declared.ast.Outcome.TheVariants as outcome
use Rattle.txn_programs.specs.declared.report.Entry as told
use Rattle.txn_programs.specs.declared.limits.TheConstants.{MAX_TASKS}
use Rattle.txn_programs.specs.Listing.{Listing, tasks, transaction_named, condition_named}
use Rattle.txn_programs.specs.Told.{Told}
use Rattle.text_words.specs.Bytes.{int_value}
use Rattle.text_words.specs.Answers.{◌>>=◌}
use Rattle.text_words.specs.Numbers.{number_of}
use Rattle.text_words.specs.declared.fault.ReadFault.{ReadFault}
use Rattle.text_words.specs.declared.fault.ReadFault.TheVariants.{Name, Limit}
use Rattle.text_line_reader.specs.ReportRaw.{Variable, Cell, Ending, Returned, Threw, Overflow, DivideByZero, Outside, Broke, Entry, Task, Raw}
use Rattle.text_line_reader.specs.Rows.{each}
use Rattle.text_line_reader.specs.CellNames.{cell_named}
use Rattle.text_line_reader.specs.Counts.{below, task_id}

-- ---- names

-- each line has the name of the variable at its place
abbrev pub named_as : List (List ℕ) → List Variable → Bool
named_as [] [] = true
named_as [] (v ∷ vs) = false
named_as (name ∷ names) [] = false
named_as (name ∷ names) (v ∷ vs) = bytes_eq v.name name && named_as names vs

abbrev pub cell_id : Listing → Cell → Option VarId
cell_id l c = cell_named l c.table c.index

-- it is a cell, and its id is at least this
abbrev pub is_from : ℕ → Option VarId → Bool
is_from least None = false
is_from least (Some x) = nat_le least x.0

-- the least id of a cell behind it
abbrev pub next_id : Option VarId → ℕ
next_id None = 0
next_id (Some x) = suc x.0

-- each is a cell, and stands behind the one before it: the first has at least this id
abbrev pub in_order : Listing → ℕ → List Cell → Bool
in_order l least [] = true
in_order l least (c ∷ cs) = is_from least (cell_id l c) && in_order l (next_id (cell_id l c)) cs

abbrev pub cells_known : Listing → List Cell → Bool
cells_known l cs = in_order l 0 cs

abbrev pub is_known : Listing → List ℕ → Bool
is_known l name = is_some (transaction_named l name)

-- each variable's lines have its name, and those of cells name cells in their order
unfoldable pub variables_known : Listing → Raw → Bool
variables_known l r =
    named_as l.names r.base_vars && (named_as l.names r.current_vars && (cells_known l r.base_cells && cells_known l r.current_cells))

abbrev pub entries_known : Listing → List Entry → Bool
entries_known l entries = list_all (λ e. is_known l e.name) entries

abbrev pub tasks_known : Listing → List Task → Bool
tasks_known l tasks = list_all (λ t. is_known l t.name) tasks

-- only the catalogue's transactions are named
unfoldable pub transactions_known : Listing → Raw → Bool
transactions_known l r = entries_known l r.entries && (tasks_known l r.parked && tasks_known l r.memory)

-- no broken condition, or one of the catalogue's
abbrev pub condition_known : Listing → Ending → Bool
condition_known l (Returned value) = true
condition_known l (Threw value) = true
condition_known l Overflow = true
condition_known l DivideByZero = true
condition_known l Outside = true
condition_known l (Broke name) = is_some (condition_named l name)

abbrev pub conditions_known : Listing → List Entry → Bool
conditions_known l entries = list_all (λ e. condition_known l e.ending) entries

unfoldable pub names_known : Listing → Raw → Bool
names_known l r = variables_known l r && (transactions_known l r && conditions_known l r.entries)

-- ---- numbers and ids

-- a number or a version, which is at most the largest number of tasks
abbrev pub count_in : List ℕ → Result ℕ ReadFault
count_in text = below (MAX_TASKS + 1) (digits_value 10 text)

abbrev pub found : {A : Type 0} → Option A → Result A ReadFault
found None = Err Name
found (Some x) = Ok x

unfoldable pub tx_id : Listing → List ℕ → Result TxId ReadFault
tx_id l name = found (transaction_named l name)

unfoldable pub always_id : Listing → List ℕ → Result AlwaysId ReadFault
always_id l name = found (condition_named l name)

-- ---- lines

unfoldable pub variable_told : Variable → Result (ℤ × ℕ) ReadFault
variable_told v = do
  value ← number_of (int_value v.value)
  version ← count_in v.version
  Ok (value, version)

-- a cell on a line was written
abbrev pub is_written : ℕ → Result ℕ ReadFault
is_written version = if version == 0 then Err Limit else Ok version

-- the cell's id, its value and its version
unfoldable pub cell_told : Listing → Cell → Result (VarId × (ℤ × ℕ)) ReadFault
cell_told l c = do
  x ← found (cell_id l c)
  value ← number_of (int_value c.value)
  version ← count_in c.version
  written ← is_written version
  Ok (x, (value, written))

-- each cell from this id on, as it is told, or else as it was at first and with version 0
abbrev pub filled : List ℤ → ℕ → List (VarId × (ℤ × ℕ)) → List (ℤ × ℕ)
filled [] x cs = []
filled (first ∷ initial) x [] = (first, 0) ∷ filled initial (suc x) []
filled (first ∷ initial) x (c ∷ cs) =
    if c.0.0 == x then c.1 ∷ filled initial (suc x) cs else (first, 0) ∷ filled initial (suc x) (c ∷ cs)

-- variables, and behind them the cells
abbrev pub values_told : Listing → List (ℤ × ℕ) → List (VarId × (ℤ × ℕ)) → List (ℤ × ℕ)
values_told l vars cells = vars ++ filled (drop (length l.names) l.initial) (length l.names) cells

abbrev pub outcome_told : Listing → Ending → Result Outcome ReadFault
outcome_told l (Returned value) = number_of (int_value value) >>= λ v. Ok (outcome.Returned v)
outcome_told l (Threw value) = number_of (int_value value) >>= λ v. Ok (outcome.Thrown (fault.User v))
outcome_told l Overflow = Ok (outcome.Thrown fault.Overflow)
outcome_told l DivideByZero = Ok (outcome.Thrown fault.DivideByZero)
outcome_told l Outside = Ok (outcome.Thrown fault.Outside)
outcome_told l (Broke name) = always_id l name >>= λ id. Ok (outcome.Thrown (fault.Broken id))

unfoldable pub entry_told : Listing → Entry → Result told.Entry ReadFault
entry_told l e = do
  number ← count_in e.number
  task ← task_id l e.task
  tx ← tx_id l e.name
  outcome ← outcome_told l e.ending
  Ok (record { number = number; task = task; tx = tx; outcome = outcome })

unfoldable pub task_told : Listing → Task → Result (TaskId × TxId) ReadFault
task_told l t = do
  task ← task_id l t.task
  tx ← tx_id l t.name
  Ok (task, tx)

-- what a report tells, whose names are known
unfoldable pub told_of : Listing → Raw → Result Told ReadFault
told_of l r = do
  base ← count_in r.base
  base_vars ← each variable_told r.base_vars
  base_cells ← each (cell_told l) r.base_cells
  entries ← each (entry_told l) r.entries
  current ← count_in r.current
  current_vars ← each variable_told r.current_vars
  current_cells ← each (cell_told l) r.current_cells
  parked ← each (task_told l) r.parked
  memory ← each (task_told l) r.memory
  Ok (record {
    base = base;
    base_vars = values_told l base_vars base_cells;
    entries = entries;
    current = current;
    current_vars = values_told l current_vars current_cells;
    parked = parked;
    memory = memory;
  })

-- names are judged over the whole report before any number is
unfoldable pub resolved : Listing → Raw → Result Told ReadFault
resolved l r = if names_known l r then told_of l r else Err Name
