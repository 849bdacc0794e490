-- What a catalogue lists: variables, tables, transactions and runs, in declared order.
use Rattle.std.specs.Prelude.{◌≡◌, ℕ, ◌+◌, ◌<◌, ℤ, List, [], ◌∷◌, ◌++◌, map, sum_by, length, flat_map, replicate, slice_index_or, string_bytes, bytes_eq, position, pos, Option, Some, None}
use Rattle.std.specs.declared.alloc.Global.{Global}
use Rattle.std.specs.declared.string.String.{String}
use Rattle.txn_programs.specs.declared.ast.VarId.{VarId}
use Rattle.txn_programs.specs.declared.arguments.Call.{Call}
use Rattle.txn_programs.specs.declared.ast.TxId.{TxId}
use Rattle.txn_programs.specs.declared.ast.TaskId.{TaskId}
use Rattle.txn_programs.specs.declared.ast.Tx.{Tx}
use Rattle.txn_programs.specs.declared.ast.Cond.{Cond}
use Rattle.txn_programs.specs.declared.ast.AlwaysId.{AlwaysId}
use Rattle.txn_programs.specs.declared.ast.Span.{Span}
use Rattle.txn_programs.specs.declared.ast.Cells.{Cells}
use Rattle.txn_programs.specs.declared.ast.Cells.TheVariants.{Same, Each}
use Rattle.txn_programs.specs.declared.ast.Table.{Table}
use Rattle.txn_programs.specs.Tree.{Condition, condition_of, Transaction, transaction_of, Program, under, Skip, Int}
use Rattle.txn_programs.specs.Instance.{instance}

pub record Listing : Type 0 where
  -- the variables' names
  pub names : List (List ℕ)
  -- the tables, each with its name and how many cells it has
  pub tables : List (List ℕ × ℕ)
  -- the initial values of the variables, and behind them those of the cells, table after table
  pub initial : List ℤ
  -- the standing conditions, each with its name
  pub always : List (List ℕ × Condition)
  pub transactions : List Transaction
  -- a call, and how many tasks make it
  pub runs : List (Call × ℕ)

-- the numbers that cells are at first
abbrev pub values_of : Cells → List ℤ
values_of (Same n v) = replicate n v
values_of (Each vs) = vs.items

abbrev pub table_of : Table → List ℕ × ℕ
table_of t = (string_bytes t.name, length (values_of t.cells))

-- the listing of what `build` is given
abbrev pub listing_of : List (String Global × ℤ) → List Table → List (String Global × Cond) → List Tx → List (Call × ℕ) → Listing
listing_of vars tables always txs runs =
    record {
      names = map (λ v. string_bytes v.0) vars;
      tables = map table_of tables;
      initial = map (λ v. v.1) vars ++ flat_map (λ (t : Table). values_of t.cells) tables;
      always = map (λ a. (string_bytes a.0, condition_of a.1)) always;
      transactions = map transaction_of txs;
      runs = runs;
    }

abbrev pub table_names : Listing → List (List ℕ)
table_names l = map (λ t. t.0) l.tables

-- how many cells there are in all tables
abbrev pub cells : Listing → ℕ
cells l = sum_by (λ t. t.1) l.tables

-- how many values a state has: one for each variable, and one for each cell
abbrev pub values : Listing → ℕ
values l = length l.names + cells l

-- the cells of each table, where those of the first begin with this variable: a table's come behind those of the one
-- before it
abbrev pub spans_from : ℕ → List (List ℕ × ℕ) → List Span
spans_from first [] = []
spans_from first (t ∷ ts) = record { first = first; length = t.1 } ∷ spans_from (first + t.1) ts

abbrev pub spans : Listing → List Span
spans l = spans_from (length l.names) l.tables

-- the standing conditions, and beside them their names
abbrev pub conditions : Listing → List Condition
conditions l = map (λ a. a.1) l.always

abbrev pub always_names : Listing → List (List ℕ)
always_names l = map (λ a. a.0) l.always

-- each task's call: a run of n is n tasks, in the order of the runs
abbrev pub calls_of : List (Call × ℕ) → List Call
calls_of runs = flat_map (λ run. replicate run.1 run.0) runs

abbrev pub calls : Listing → List Call
calls l = calls_of l.runs

-- each task's transaction
abbrev pub tasks : Listing → List TxId
tasks l = map (λ (c : Call). c.tx) (calls l)

-- the transaction of a task
abbrev pub task_tx : Listing → TaskId → TxId
task_tx l task = slice_index_or (tasks l) task.0 (record { 0 = 0 })

abbrev pub transaction_at : Listing → TxId → Transaction
transaction_at l tx = slice_index_or l.transactions tx.0 (record { name = []; parameters = []; body = Skip; result = Int (pos 0) })

-- how many arguments a call of the transaction has
abbrev pub arity : Transaction → ℕ
arity t = length t.parameters

-- a transaction of the listing, with as many arguments as it wants
pub record IsCallable (l : Listing) (tx : TxId) (arguments : List ℤ) : Type 0 where
  pub declared : tx.0 < length l.transactions
  pub each : length arguments ≡ arity (transaction_at l tx)

-- the program of a transaction, and of a call of it
abbrev pub program_at : Listing → TxId → Program
program_at l tx = under (conditions l) (transaction_at l tx)

abbrev pub call_program : Listing → TxId → List ℤ → Program
call_program l tx arguments = instance arguments (program_at l tx)

-- the arguments of a task
abbrev pub task_arguments : Listing → TaskId → List ℤ
task_arguments l task = slice_index_or (map (λ (c : Call). c.arguments) (calls l)) task.0 []

-- what a task does where this is its transaction
abbrev pub program_as : Listing → TaskId → TxId → Program
program_as l task tx = call_program l tx (task_arguments l task)

abbrev pub task_program : Listing → TaskId → Program
task_program l task = program_as l task (task_tx l task)

abbrev pub as_variable : Option ℕ → Option VarId
as_variable None = None
as_variable (Some place) = Some (record { 0 = place })

abbrev pub as_transaction : Option ℕ → Option TxId
as_transaction None = None
as_transaction (Some place) = Some (record { 0 = place })

-- the variable of a name
abbrev pub variable_named : Listing → List ℕ → Option VarId
variable_named l name = as_variable (position (bytes_eq name) l.names)

-- the place among the tables of that of a name
abbrev pub table_named : Listing → List ℕ → Option ℕ
table_named l name = position (bytes_eq name) (table_names l)

-- the transaction of a name
abbrev pub transaction_named : Listing → List ℕ → Option TxId
transaction_named l name = as_transaction (position (bytes_eq name) (map (λ t. t.name) l.transactions))

abbrev pub as_condition : Option ℕ → Option AlwaysId
as_condition None = None
as_condition (Some place) = Some (record { 0 = place })

-- the standing condition of a name
abbrev pub condition_named : Listing → List ℕ → Option AlwaysId
condition_named l name = as_condition (position (bytes_eq name) (always_names l))

-- the name of a standing condition
abbrev pub always_name : Listing → AlwaysId → List ℕ
always_name l id = slice_index_or (always_names l) id.0 []
