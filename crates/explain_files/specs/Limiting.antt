-- Names and numbers over a limit.
use Rattle.std.specs.Prelude.{ℕ, ℤ, ◌+◌, Bool, ◌&&◌, ◌||◌, ◌==◌, if◌then◌else◌, nat_le, nat_lt, Option, Some, None, Result, Ok, Err, List, [], ◌∷◌, length}
use Rattle.txn_programs.specs.Limits.{most_variables, most_tables, most_cells, most_conditions, most_transactions, most_parameters, most_tasks, most_times, longest_name}
use Rattle.text_words.specs.Tokens.{Lexeme, Opens, Closes}
use Rattle.text_words.specs.Tokens as token
use Rattle.text_words.specs.Numbers.{number_of, count_of}
use Rattle.text_words.specs.declared.fault.ReadFault.{ReadFault}
use Rattle.text_grammar.specs.declared.file.FileForm.{FileForm}
use Rattle.explain_files.specs.declared.wanted.NameUse.TheVariants as name
use Rattle.explain_files.specs.declared.wanted.NumberUse.TheVariants as number
use Rattle.explain_files.specs.declared.wanted.Role.{Role}
use Rattle.explain_files.specs.declared.wanted.Role.TheVariants as role
use Rattle.explain_files.specs.declared.limits.LimitFault.{LimitFault}
use Rattle.explain_files.specs.declared.limits.LimitFault.TheVariants as over
use Rattle.explain_files.specs.Roles.{role_at}
use Rattle.explain_files.specs.Judging.{Saying, integers_in}

-- how many names are declared of each kind, the parameters of the last transaction alone, how many cells all tables have,
-- and how many tasks are run
pub record Many : Type 0 where
  pub variables : ℕ
  pub tables : ℕ
  pub cells : ℕ
  pub conditions : ℕ
  pub transactions : ℕ
  pub parameters : ℕ
  pub tasks : ℕ

-- the cells of a table and the tasks of a run, where they can be counted
abbrev pub counted : Result ℕ ReadFault → ℕ
counted (Ok n) = n
counted (Err e) = 0

-- and one token more, which is for this
abbrev pub many_with : Many → Role → Lexeme → Many
many_with many (role.Name name.Variable) (token.Name text) = record many { variables = many.variables + 1 }
many_with many (role.Name name.Table) (token.Name text) = record many { tables = many.tables + 1 }
many_with many (role.Number number.Length) (token.Int value) = record many { cells = many.cells + counted (count_of value) }
many_with many (role.Name name.Condition) (token.Name text) = record many { conditions = many.conditions + 1 }
many_with many (role.Name name.Transaction) (token.Name text) = record many { transactions = many.transactions + 1; parameters = 0 }
many_with many (role.Name name.Parameter) (token.Name text) = record many { parameters = many.parameters + 1 }
many_with many (role.Number number.Tasks) (token.Int value) = record many { tasks = many.tasks + counted (count_of value) }
many_with many used t = many

abbrev pub many_in : FileForm → List Lexeme → Many
many_in form [] = record { variables = 0; tables = 0; cells = 0; conditions = 0; transactions = 0; parameters = 0; tasks = 0 }
many_in form (t ∷ before) = many_with (many_in form before) (role_at form before) t

abbrev pub too_long : List ℕ → Option LimitFault
too_long text = if nat_le (length text) longest_name then None else Some over.Name

-- one name more, where there are so many, and so many at most
abbrev pub too_many : ℕ → ℕ → LimitFault → List ℕ → Option LimitFault
too_many many most fault text = if nat_le most many then Some fault else too_long text

abbrev pub value_fault : Result ℤ ReadFault → Option LimitFault
value_fault (Ok n) = None
value_fault (Err e) = Some over.Number

abbrev pub turns_fault : Result ℕ ReadFault → Option LimitFault
turns_fault (Ok n) = if nat_le n most_times then None else Some over.Turns
turns_fault (Err e) = Some over.Turns

-- of a run, where those before it have so many
abbrev pub tasks_fault : ℕ → Result ℕ ReadFault → Option LimitFault
tasks_fault many (Ok n) = if nat_le n most_tasks then (if nat_le (many + n) most_tasks then None else Some over.AllTasks) else Some over.Tasks
tasks_fault many (Err e) = Some over.Tasks

-- a table has one value for all its cells, or one for each
abbrev pub is_given : ℕ → ℕ → Bool
is_given n values = (values == 1) || (values == n)

-- of a table with so many values, where those before it have so many cells
abbrev pub length_fault : ℕ → Result ℕ ReadFault → ℕ → Option LimitFault
length_fault many (Ok n) values =
    if nat_lt 0 n && nat_le n most_cells
    then (if is_given n values then (if nat_le (many + n) most_cells then None else Some over.AllCells) else Some over.Values)
    else Some over.Length
length_fault many (Err e) values = Some over.Length

-- by what the name or the number is for, where there are so many before it, and by the tokens behind it
abbrev pub limit_fault : Many → Role → Lexeme → List Lexeme → Option LimitFault
limit_fault many (role.Name name.Variable) (token.Name text) ts = too_many many.variables most_variables over.Variables text
limit_fault many (role.Name name.Table) (token.Name text) ts = too_many many.tables most_tables over.Tables text
limit_fault many (role.Name name.Condition) (token.Name text) ts = too_many many.conditions most_conditions over.Conditions text
limit_fault many (role.Name name.Transaction) (token.Name text) ts = too_many many.transactions most_transactions over.Transactions text
limit_fault many (role.Name name.Parameter) (token.Name text) ts = too_many many.parameters most_parameters over.Parameters text
limit_fault many (role.Number number.Initial) (token.Int value) ts = value_fault (number_of value)
limit_fault many (role.Number number.Length) (token.Int value) ts = length_fault many.cells (count_of value) (integers_in ts)
limit_fault many (role.Number number.Cell) (token.Int value) ts = value_fault (number_of value)
limit_fault many (role.Number number.Turns) (token.Int value) ts = turns_fault (count_of value)
limit_fault many (role.Number number.Tasks) (token.Int value) ts = tasks_fault many.tasks (count_of value)
limit_fault many (role.Number number.Argument) (token.Int value) ts = value_fault (number_of value)
limit_fault many role.Value (token.Int value) ts = value_fault (number_of value)
limit_fault many used t ts = None

abbrev pub limit_fault_at : FileForm → Saying LimitFault
limit_fault_at form before t behind = limit_fault (many_in form before) (role_at form before) t behind
