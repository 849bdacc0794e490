-- The text of a report, line by line.
use Rattle.std.specs.Prelude.{ℕ, suc, ℤ, ◌+◌, ◌≤◌, ◌==◌, if◌then◌else◌, List, [], ◌∷◌, ◌++◌, length, take, drop, codes}
use Rattle.std.specs.List.{flat_map}
use Rattle.std.specs.Fmt.{decimal, signed_decimal}
use Rattle.txn_programs.specs.declared.ast.Fault.TheVariants.{User, Overflow, DivideByZero, Broken, Outside}
use Rattle.txn_programs.specs.declared.ast.Outcome.{Outcome}
use Rattle.txn_programs.specs.declared.ast.Outcome.TheVariants.{Returned, Thrown, Retries}
use Rattle.txn_programs.specs.declared.ast.TaskId.{TaskId}
use Rattle.txn_programs.specs.declared.ast.TxId.{TxId}
use Rattle.txn_programs.specs.declared.report.Entry.{Entry}
use Rattle.txn_programs.specs.declared.limits.TheConstants.{MAX_TASKS}
use Rattle.txn_programs.specs.Listing.{Listing, always_name, program_at}
use Rattle.txn_programs.specs.Told.{Told}
use Rattle.text_words.specs.Words.{line}

-- NAME VALUE VERSION
abbrev pub variable_line : List ℕ → ℤ × ℕ → List ℕ
variable_line name v = line (name ∷ signed_decimal v.0 ∷ decimal v.1 ∷ [])

-- one line for each variable, in declared order
abbrev pub variable_lines : List (List ℕ) → List (ℤ × ℕ) → List ℕ
variable_lines names [] = []
variable_lines [] (v ∷ vs) = []
variable_lines (name ∷ names) (v ∷ vs) = variable_line name v ++ variable_lines names vs

-- NAME[INDEX]
abbrev pub cell_text : List ℕ → List ℕ → List ℕ
cell_text name index = name ++ (91 ∷ (index ++ (93 ∷ [])))

abbrev pub cell_name : List ℕ → ℕ → List ℕ
cell_name name index = cell_text name (decimal index)

-- a line for a cell that an entry wrote, and none for another
abbrev pub cell_line : List ℕ → ℕ → ℤ × ℕ → List ℕ
cell_line name index v = if v.1 == 0 then [] else variable_line (cell_name name index) v

-- those of a table's cells from this one on
abbrev pub cell_lines : List ℕ → ℕ → List (ℤ × ℕ) → List ℕ
cell_lines name index [] = []
cell_lines name index (v ∷ vs) = cell_line name index v ++ cell_lines name (suc index) vs

-- those of each table, one behind the other
abbrev pub table_lines : List (List ℕ × ℕ) → List (ℤ × ℕ) → List ℕ
table_lines [] vs = []
table_lines (t ∷ ts) vs = cell_lines t.0 0 (take t.1 vs) ++ table_lines ts (drop t.1 vs)

-- the lines of the variables, and behind them those of the cells
abbrev pub value_lines : Listing → List (ℤ × ℕ) → List ℕ
value_lines l vs = variable_lines l.names vs ++ table_lines l.tables (drop (length l.names) vs)

-- how a transaction ended; a condition that it broke is told by its name
abbrev pub outcome_text : Listing → Outcome → List ℕ
outcome_text l (Returned v) = codes "returned " ++ signed_decimal v
outcome_text l (Thrown (User v)) = codes "threw " ++ signed_decimal v
outcome_text l (Thrown Overflow) = codes "overflow"
outcome_text l (Thrown DivideByZero) = codes "zerodiv"
outcome_text l (Thrown (Broken id)) = codes "broke " ++ always_name l id
outcome_text l (Thrown Outside) = codes "outside"
outcome_text l Retries = codes "retries"

-- entry NUMBER TASK NAME OUTCOME
abbrev pub entry_line : Listing → Entry → List ℕ
entry_line l e =
    line (codes "entry" ∷ decimal e.number ∷ decimal e.task.0 ∷ (program_at l e.tx).name ∷ outcome_text l e.outcome ∷ [])

-- WORD TASK NAME
abbrev pub task_line : Listing → List ℕ → TaskId × TxId → List ℕ
task_line l word t = line (word ∷ decimal t.0.0 ∷ (program_at l t.1).name ∷ [])

abbrev pub report_text : Listing → Told → List ℕ
report_text l r =
    line (codes "base" ∷ decimal r.base ∷ [])
    ++ (value_lines l r.base_vars
    ++ (flat_map (entry_line l) r.entries
    ++ (line (codes "now" ∷ decimal r.current ∷ [])
    ++ (value_lines l r.current_vars
    ++ (flat_map (task_line l (codes "parked")) r.parked
    ++ (flat_map (task_line l (codes "memory")) r.memory
    ++ line (codes "end" ∷ [])))))))

-- it has no more entries, parked tasks and tasks given up than there may be tasks
abbrev pub CountsTasks : Told → Type 0
CountsTasks r = length r.entries + (length r.parked + length r.memory) ≤ MAX_TASKS
