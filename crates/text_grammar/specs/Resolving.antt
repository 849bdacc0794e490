-- From the tree of a file to its listing: names as ids, and integers as numbers of the machine.
use Rattle.std.specs.Prelude.{ℕ, ◌+◌, ℤ, Bool, true, false, is_some, ◌&&◌, ◌||◌, ◌==◌, nat_lt, nat_le, length, slice_index_or, if◌then◌else◌, Option, Some, None, position, Result, Ok, Err, List, [], ◌∷◌, ◌++◌, map, replicate, ◌^◌, bytes_eq}
use Rattle.std.specs.List.{flat_map, list_all, list_any}
use Rattle.txn_programs.specs.declared.ast.VarId.{VarId}
use Rattle.txn_programs.specs.declared.ast.ParamId.{ParamId}
use Rattle.txn_programs.specs.declared.ast.Span.{Span}
use Rattle.txn_programs.specs.Limits.{most_parameters}
use Rattle.txn_programs.specs.Names.{are_new}
use Rattle.txn_programs.specs.declared.arguments.Call.{Call}
use Rattle.txn_programs.specs.Tree.{Expression, Condition, Statement, Statements, Transaction}
use Rattle.txn_programs.specs.Tree as t
use Rattle.txn_programs.specs.Listing.{Listing}
use Rattle.text_grammar.specs.Tree.{Expr, Cond, Stmt, Stmts, NoStmts, MoreStmts, Pair, Table, Always, Declaration, Run, File}
use Rattle.text_grammar.specs.Scope.{Scope, standing, inside}
use Rattle.text_grammar.specs.Tree as f
use Rattle.text_words.specs.Answers.{◌>>=◌}
use Rattle.text_words.specs.Numbers.{number_of, count_of}
use Rattle.text_grammar.specs.declared.words.Operator.{Operator}
use Rattle.text_grammar.specs.declared.words.Operator.TheVariants as operator
use Rattle.text_grammar.specs.declared.words.Comparison.{Comparison}
use Rattle.text_grammar.specs.declared.words.Comparison.TheVariants as comparison
use Rattle.text_grammar.specs.declared.words.Connective.{Connective}
use Rattle.text_grammar.specs.declared.words.Connective.TheVariants as connective
use Rattle.text_words.specs.declared.fault.ReadFault.{ReadFault}
use Rattle.text_words.specs.declared.fault.ReadFault.TheVariants.{Name, Limit}

-- ---- names

-- one more declared name, if it is none of the earlier ones
unfoldable pub declared_one : List (List ℕ) → List ℕ → Result (List (List ℕ)) ReadFault
declared_one earlier name = if list_any (bytes_eq name) earlier then Err Name else Ok (earlier ++ name ∷ [])

-- the declared names behind the earlier ones, where none comes twice
abbrev pub declared_after : List (List ℕ) → List (List ℕ) → Result (List (List ℕ)) ReadFault
declared_after earlier [] = Ok earlier
declared_after earlier (name ∷ rest) = declared_one earlier name >>= λ more. declared_after more rest

-- a name is among the declared ones
abbrev pub is_known : List (List ℕ) → List ℕ → Bool
is_known names name = is_some (position (bytes_eq name) names)

abbrev pub expr_known : Scope → Expr → Bool
expr_known s (f.Int value) = true
expr_known s (f.Name name) = is_known s.parameters name || is_known s.variables name
expr_known s (f.At table index) = is_known s.tables table && expr_known s index
expr_known s (f.OfAll fold table) = is_known s.tables table
expr_known s (f.Binary op left right) = expr_known s left && expr_known s right

abbrev pub cond_known : Scope → Cond → Bool
cond_known s (f.Compare op left right) = expr_known s left && expr_known s right
cond_known s (f.Not inner) = cond_known s inner
cond_known s (f.Connect op left right) = cond_known s left && cond_known s right

-- what is set is a variable; calls are judged apart
abbrev mutual
  pub stmt_known : Scope → Stmt → Bool
  stmt_known s f.Skip = true
  stmt_known s (f.Set name value) = is_known s.variables name && expr_known s value
  stmt_known s (f.Put table index value) = is_known s.tables table && (expr_known s index && expr_known s value)
  stmt_known s (f.Seq parts) = stmts_known s parts
  stmt_known s (f.If test first second) = cond_known s test && (stmt_known s first && stmt_known s second)
  stmt_known s (f.Repeat count body) = stmt_known s body
  stmt_known s f.Retry = true
  stmt_known s (f.OrElse first second) = stmt_known s first && stmt_known s second
  stmt_known s (f.Throw value) = expr_known s value
  stmt_known s (f.Call name arguments) = true

  pub stmts_known : Scope → Stmts → Bool
  stmts_known s NoStmts = true
  stmts_known s (MoreStmts first others) = stmt_known s first && stmts_known s others

abbrev pub always_known : Scope → Always → Bool
always_known s a = cond_known s a.condition

-- no parameter has the name of a variable or of one before it, and all names that are used are known
abbrev pub tx_known : Scope → Declaration → Bool
tx_known s t = are_new s.variables t.parameters && (stmt_known (inside s t.parameters) t.body && expr_known (inside s t.parameters) t.value)

abbrev pub tx_name : Declaration → List ℕ
tx_name d = d.name

-- at the place, where it is one, stands a transaction with so many parameters
abbrev pub has_parameters : List Declaration → ℕ → Option ℕ → Bool
has_parameters txs n None = false
has_parameters txs n (Some place) = length (slice_index_or (map (λ (t : Declaration). t.parameters) txs) place []) == n

-- a run names a transaction, and gives as many arguments as that has parameters
abbrev pub run_known : List Declaration → Run → Bool
run_known txs run = has_parameters txs (length run.arguments) (position (bytes_eq run.name) (map tx_name txs))

-- only names that are declared are used, and each as it is declared
unfoldable pub uses_known : Scope → File → Bool
uses_known s file = list_all (always_known s) file.always && (list_all (tx_known s) file.txs && list_all (run_known file.txs) file.runs)

-- ---- ids

-- an id has 32 bits
abbrev pub placed : Option ℕ → Result ℕ ReadFault
placed None = Err Name
placed (Some place) = if nat_lt place (2 ^ 32) then Ok place else Err Limit

-- the place of a declared name
unfoldable pub place_in : List (List ℕ) → List ℕ → Result ℕ ReadFault
place_in names name = placed (position (bytes_eq name) names)

unfoldable pub variable_in : List (List ℕ) → List ℕ → Result VarId ReadFault
variable_in names name = place_in names name >>= λ place. Ok (record { 0 = place })

unfoldable pub parameter_in : List (List ℕ) → List ℕ → Result ParamId ReadFault
parameter_in names name = place_in names name >>= λ place. Ok (record { 0 = place })

-- the cells of the table at a place
abbrev pub span_at : List Span → Option ℕ → Result Span ReadFault
span_at spans None = Err Name
span_at spans (Some place) = Ok (slice_index_or spans place (record { first = 0; length = 0 }))

-- the cells of a declared table
unfoldable pub table_in : Scope → List ℕ → Result Span ReadFault
table_in s name = span_at s.spans (position (bytes_eq name) s.tables)

-- a parameter, where one has the name, else a variable
abbrev pub named_in : Scope → List ℕ → Result Expression ReadFault
named_in s name =
    if is_known s.parameters name then (parameter_in s.parameters name >>= λ p. Ok (t.Param p))
    else (variable_in s.variables name >>= λ x. Ok (t.Var x))

-- ---- conditions and transactions

abbrev pub binary : Operator → Expression → Expression → Expression
binary operator.Add = t.Add
binary operator.Sub = t.Sub
binary operator.Mul = t.Mul
binary operator.Div = t.Div
binary operator.Rem = t.Rem

abbrev pub compare : Comparison → Expression → Expression → Condition
compare comparison.Eq = t.Eq
compare comparison.Lt = t.Lt
compare comparison.Le = t.Le

abbrev pub connect : Connective → Condition → Condition → Condition
connect connective.And = t.And
connect connective.Or = t.Or

abbrev pub expression_in : Scope → Expr → Result Expression ReadFault
expression_in s (f.Int value) = number_of value >>= λ n. Ok (t.Int n)
expression_in s (f.Name name) = named_in s name
expression_in s (f.At table index) = table_in s table >>= λ span. expression_in s index >>= λ a. Ok (t.Cell span a)
expression_in s (f.OfAll fold table) = table_in s table >>= λ span. Ok (t.OfAll fold span)
expression_in s (f.Binary op left right) = expression_in s left >>= λ a. expression_in s right >>= λ b. Ok (binary op a b)

abbrev pub condition_in : Scope → Cond → Result Condition ReadFault
condition_in s (f.Compare op left right) = expression_in s left >>= λ a. expression_in s right >>= λ b. Ok (compare op a b)
condition_in s (f.Not inner) = condition_in s inner >>= λ c. Ok (t.Not c)
condition_in s (f.Connect op left right) = condition_in s left >>= λ c. condition_in s right >>= λ d. Ok (connect op c d)

-- a listing has no room for a call
abbrev mutual
  pub statement_in : Scope → Stmt → Result Statement ReadFault
  statement_in s f.Skip = Ok t.Skip
  statement_in s (f.Set name value) = variable_in s.variables name >>= λ x. expression_in s value >>= λ a. Ok (t.Set x a)
  statement_in s (f.Put table index value) = table_in s table >>= λ span. expression_in s index >>= λ a. expression_in s value >>= λ b. Ok (t.Put span a b)
  statement_in s (f.Seq parts) = statements_in s parts >>= λ ps. Ok (t.Seq ps)
  statement_in s (f.If test first second) = condition_in s test >>= λ c. statement_in s first >>= λ p. statement_in s second >>= λ q. Ok (t.If c p q)
  statement_in s (f.Repeat count body) = count_of count >>= λ n. statement_in s body >>= λ p. Ok (t.Repeat n p)
  statement_in s f.Retry = Ok t.Retry
  statement_in s (f.OrElse first second) = statement_in s first >>= λ p. statement_in s second >>= λ q. Ok (t.OrElse p q)
  statement_in s (f.Throw value) = expression_in s value >>= λ a. Ok (t.Throw a)
  statement_in s (f.Call name arguments) = Err Limit

  pub statements_in : Scope → Stmts → Result Statements ReadFault
  statements_in s NoStmts = Ok t.End
  statements_in s (MoreStmts first others) = statement_in s first >>= λ p. statements_in s others >>= λ ps. Ok (t.More p ps)

-- ---- files

abbrev pub each : {A B : Type 0} → (A → Result B ReadFault) → List A → Result (List B) ReadFault
each one [] = Ok []
each one (x ∷ xs) = one x >>= λ y. each one xs >>= λ ys. Ok (y ∷ ys)

-- a variable's name and first value
abbrev pub variable_of : Pair → Result (List ℕ × ℤ) ReadFault
variable_of p = number_of p.value >>= λ n. Ok (p.name, n)

-- all cells begin at the one number, or each at its own, where as many are given as there are cells
abbrev pub numbers_in : ℕ → ℤ → List ℤ → Result (List ℤ) ReadFault
numbers_in n first [] = number_of first >>= λ v. Ok (replicate n v)
numbers_in n first (second ∷ others) =
    each number_of (first ∷ second ∷ others) >>= λ vs. if length vs == n then Ok vs else Err Limit

-- a table's name, how many cells it has, and what they are at first
abbrev pub table_of : Table → Result ((List ℕ × ℕ) × List ℤ) ReadFault
table_of t = count_of t.count >>= λ n. numbers_in n t.first t.others >>= λ vs. Ok ((t.name, n), vs)

-- cells behind the first variables, whose ids have 32 bits
abbrev pub span_behind : ℕ → ℕ → Result Span ReadFault
span_behind first n = if nat_lt (first + n) (2 ^ 32) then Ok (record { first = first; length = n }) else Err Limit

-- the cells of each table, one behind the other
abbrev pub spans_in : ℕ → List (List ℕ × ℕ) → Result (List Span) ReadFault
spans_in first [] = Ok []
spans_in first (t ∷ ts) = span_behind first t.1 >>= λ span. spans_in (first + t.1) ts >>= λ spans. Ok (span ∷ spans)

abbrev pub always_in : Scope → Always → Result (List ℕ × Condition) ReadFault
always_in s a = condition_in s a.condition >>= λ condition. Ok (a.name, condition)

abbrev pub transaction_in : Scope → Declaration → Result Transaction ReadFault
transaction_in s d =
    statement_in (inside s d.parameters) d.body >>= λ body.
    expression_in (inside s d.parameters) d.value >>= λ result.
    Ok (record { name = d.name; parameters = d.parameters; body = body; result = result })

-- a call has no more arguments than a transaction may have parameters
abbrev pub arguments_in : List ℤ → Result (List ℤ) ReadFault
arguments_in given = if nat_le (length given) most_parameters then each number_of given else Err Limit

abbrev pub call_at : ℕ → List ℤ → Call
call_at place given = record { tx = record { 0 = place }; arguments = given }

abbrev pub run_in : List (List ℕ) → Run → Result (Call × ℕ) ReadFault
run_in names r = place_in names r.name >>= λ place. count_of r.count >>= λ n. arguments_in r.arguments >>= λ given. Ok (call_at place given, n)

abbrev pub listing : List (List ℕ × ℤ) → List ((List ℕ × ℕ) × List ℤ) → List (List ℕ × Condition) → List Transaction → List (Call × ℕ) → Listing
listing vars tables always transactions runs =
    record {
      names = map (λ v. v.0) vars;
      tables = map (λ t. t.0) tables;
      initial = map (λ v. v.1) vars ++ flat_map (λ t. t.1) tables;
      always = always;
      transactions = transactions;
      runs = runs;
    }

-- the listing of a file whose names are known
unfoldable pub converted : List (List ℕ) → List (List ℕ) → List (List ℕ) → File → Result Listing ReadFault
converted vars names txs file = do
  values ← each variable_of file.vars
  tables ← each table_of file.tables
  spans ← spans_in (length vars) (map (λ t. t.0) tables)
  always ← each (always_in (standing vars names spans)) file.always
  transactions ← each (transaction_in (standing vars names spans)) file.txs
  runs ← each (run_in txs) file.runs
  Ok (listing values tables always transactions runs)

abbrev pub pair_name : Pair → List ℕ
pair_name p = p.name

abbrev pub table_name : Table → List ℕ
table_name t = t.name

abbrev pub condition_name : Always → List ℕ
condition_name a = a.name

-- names are judged over the whole file before any number is
unfoldable pub resolved : File → Result Listing ReadFault
resolved file = do
  vars ← declared_after [] (map pair_name file.vars)
  tables ← declared_after [] (map table_name file.tables)
  conditions ← declared_after [] (map condition_name file.always)
  txs ← declared_after [] (map tx_name file.txs)
  if uses_known (standing vars tables []) file then converted vars tables txs file else Err Name
