-- The limits, and when a listing keeps them.
use Rattle.std.specs.Prelude.{ℕ, ◌+◌, max, min, ◌≤◌, Bool, ◌&&◌, nat_lt, nat_le, List, length, sum_by}
use Rattle.std.specs.List.{list_all}
use Rattle.txn_programs.specs.Tree.{Condition, Statement, Skip, Set, Put, Seq, If, Repeat, Retry, OrElse, Throw, Statements, End, More, Transaction, Program, under}
use Rattle.txn_programs.specs.Cost.{conditions_cost, cost}
use Rattle.txn_programs.specs.Depth.{expression_depth, condition_depth, statement_depth, statements_depth}
use Rattle.txn_programs.specs.Listing.{Listing, cells, conditions, always_names}

abbrev pub most_variables : ℕ
most_variables = 256

abbrev pub most_tables : ℕ
most_tables = 64

-- of all tables
abbrev pub most_cells : ℕ
most_cells = 1048576

-- of a state: the variables, and the cells of all tables behind them
abbrev pub most_values : ℕ
most_values = 1048832

abbrev pub most_transactions : ℕ
most_transactions = 256

abbrev pub most_conditions : ℕ
most_conditions = 64

-- of a transaction
abbrev pub most_parameters : ℕ
most_parameters = 8

-- in all, and of one run
abbrev pub most_tasks : ℕ
most_tasks = 65536

-- in bytes
abbrev pub longest_name : ℕ
longest_name = 32

-- of a body, of a result and of a condition
abbrev pub deepest : ℕ
deepest = 31

abbrev pub most_times : ℕ
most_times = 1000

abbrev pub highest_cost : ℕ
highest_cost = 1000000

-- the largest repeat count
abbrev mutual
  pub largest_repeat : Statement → ℕ
  largest_repeat Skip = 0
  largest_repeat (Set x e) = 0
  largest_repeat (Put t a b) = 0
  largest_repeat (Seq parts) = largest_repeat_of_all parts
  largest_repeat (If c a b) = max (largest_repeat a) (largest_repeat b)
  largest_repeat (Repeat n s) = max n (largest_repeat s)
  largest_repeat Retry = 0
  largest_repeat (OrElse a b) = max (largest_repeat a) (largest_repeat b)
  largest_repeat (Throw e) = 0

  pub largest_repeat_of_all : Statements → ℕ
  largest_repeat_of_all End = 0
  largest_repeat_of_all (More s rest) = max (largest_repeat s) (largest_repeat_of_all rest)

-- the conditions are no deeper than the limit, and cost no more together
abbrev pub conditions_fit : List Condition → Bool
conditions_fit cs = list_all (λ c. nat_le (condition_depth c) deepest) cs && nat_le (conditions_cost cs) highest_cost

-- the program is no deeper than the limit, repeats within it, and costs no more, its conditions included
abbrev pub program_fits : Program → Bool
program_fits t =
    nat_le (statement_depth t.body) deepest && (nat_le (expression_depth t.result) deepest
    && (nat_le (largest_repeat t.body) most_times && nat_le (cost t) highest_cost))

-- a name is no longer than the limit
abbrev pub is_short : List ℕ → Bool
is_short name = nat_le (length name) longest_name

-- so are those of a transaction and of its parameters, of which there are not too many
abbrev pub names_fit : Transaction → Bool
names_fit t = is_short t.name && (nat_le (length t.parameters) most_parameters && list_all is_short t.parameters)

-- a table's name is no longer than the limit, and it has a cell
abbrev pub table_fits : List ℕ × ℕ → Bool
table_fits t = is_short t.0 && nat_lt 0 t.1

-- there are not too many tables, nor cells in all of them
abbrev pub tables_fit : Listing → Bool
tables_fit l = nat_le (length l.tables) most_tables && (list_all table_fits l.tables && nat_le (cells l) most_cells)

unfoldable pub limits_hold : Listing → Bool
limits_hold l =
    nat_le (length l.names) most_variables && (list_all is_short l.names && (tables_fit l
    && (nat_le (length l.always) most_conditions && (list_all is_short (always_names l)
    && (conditions_fit (conditions l)
    && (nat_le (length l.transactions) most_transactions && (list_all names_fit l.transactions
    && (list_all (λ t. program_fits (under (conditions l) t)) l.transactions
    && (list_all (λ run. nat_le run.1 most_tasks) l.runs && nat_le (sum_by (λ run. run.1) l.runs) most_tasks)))))))))

-- a cost as far as it is counted: what is over the limit is one over
abbrev pub capped : ℕ → ℕ
capped n = min n (highest_cost + 1)

-- within a depth, and no repeat count over the limit
abbrev pub StatementFits : ℕ → Statement → Type 0
StatementFits depth s = (statement_depth s ≤ depth) × (largest_repeat s ≤ most_times)

abbrev pub StatementsFit : ℕ → Statements → Type 0
StatementsFit depth parts = (statements_depth parts ≤ depth) × (largest_repeat_of_all parts ≤ most_times)
