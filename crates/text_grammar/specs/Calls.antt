-- The calls of a file: which of them are known, how much they stand for, and the file in which each stands as the body that it calls.
use Rattle.std.specs.Prelude.{ℕ, suc, ◌+◌, Bool, true, ◌&&◌, nat_le, if◌then◌else◌, Option, Some, None, position, slice_index_or, Result, Ok, Err, List, [], ◌∷◌, ◌++◌, map, length, bytes_eq}
use Rattle.std.specs.List.{list_all}
use Rattle.txn_programs.specs.Arithmetic.{fits}
use Rattle.txn_programs.specs.Limits.{most_parameters}
use Rattle.text_grammar.specs.Tree.{Expr, Int, Name, At, OfAll, Binary, Cond, Compare, Not, Connect, Argument, Number, Parameter, Stmt, Skip, Set, Put, Seq, If, Repeat, Retry, OrElse, Throw, Call, Stmts, NoStmts, MoreStmts, Declaration, File}
use Rattle.text_grammar.specs.Resolving.{is_known, has_parameters, tx_name}
use Rattle.text_words.specs.declared.fault.ReadFault.{ReadFault}
use Rattle.text_words.specs.declared.fault.ReadFault.TheVariants as fault

-- ---- which calls are known

-- a number, or one of these parameters
abbrev pub argument_known : List (List ℕ) → Argument → Bool
argument_known parameters (Number value) = true
argument_known parameters (Parameter name) = is_known parameters name

-- a call names one of these transactions, gives as many arguments as that has parameters, and no name but those of parameters
abbrev pub call_known : List Declaration → List (List ℕ) → List ℕ → List Argument → Bool
call_known earlier parameters name arguments =
    has_parameters earlier (length arguments) (position (bytes_eq name) (map tx_name earlier)) && list_all (argument_known parameters) arguments

-- so is each call in a statement
abbrev mutual
  pub stmt_calls_known : List Declaration → List (List ℕ) → Stmt → Bool
  stmt_calls_known earlier parameters Skip = true
  stmt_calls_known earlier parameters (Set name value) = true
  stmt_calls_known earlier parameters (Put table index value) = true
  stmt_calls_known earlier parameters (Seq parts) = stmts_calls_known earlier parameters parts
  stmt_calls_known earlier parameters (If test first second) =
      stmt_calls_known earlier parameters first && stmt_calls_known earlier parameters second
  stmt_calls_known earlier parameters (Repeat count body) = stmt_calls_known earlier parameters body
  stmt_calls_known earlier parameters Retry = true
  stmt_calls_known earlier parameters (OrElse first second) =
      stmt_calls_known earlier parameters first && stmt_calls_known earlier parameters second
  stmt_calls_known earlier parameters (Throw value) = true
  stmt_calls_known earlier parameters (Call name arguments) = call_known earlier parameters name arguments

  pub stmts_calls_known : List Declaration → List (List ℕ) → Stmts → Bool
  stmts_calls_known earlier parameters NoStmts = true
  stmts_calls_known earlier parameters (MoreStmts first others) =
      stmt_calls_known earlier parameters first && stmts_calls_known earlier parameters others

-- each transaction calls none but those before it
abbrev pub txs_calls_known : List Declaration → List Declaration → Bool
txs_calls_known earlier [] = true
txs_calls_known earlier (t ∷ ts) = stmt_calls_known earlier t.parameters t.body && txs_calls_known (earlier ++ t ∷ []) ts

unfoldable pub calls_known : File → Bool
calls_known file = txs_calls_known [] file.txs

-- ---- a body, with arguments for parameters

-- the parameters of a transaction that is called, and what each is given
pub record Given : Type 0 where
  pub parameters : List (List ℕ)
  pub arguments : List Argument

abbrev pub argument_expr : Argument → Expr
argument_expr (Number value) = Int value
argument_expr (Parameter name) = Name name

-- what a parameter at a place is given; a name that is no parameter's stays
abbrev pub argument_at : List Argument → List ℕ → Option ℕ → Expr
argument_at arguments name None = Name name
argument_at arguments name (Some place) = slice_index_or (map argument_expr arguments) place (Name name)

abbrev pub name_given : Given → List ℕ → Expr
name_given g name = argument_at g.arguments name (position (bytes_eq name) g.parameters)

abbrev pub expr_given : Given → Expr → Expr
expr_given g (Int value) = Int value
expr_given g (Name name) = name_given g name
expr_given g (At table index) = At table (expr_given g index)
expr_given g (OfAll fold table) = OfAll fold table
expr_given g (Binary op left right) = Binary op (expr_given g left) (expr_given g right)

abbrev pub cond_given : Given → Cond → Cond
cond_given g (Compare op left right) = Compare op (expr_given g left) (expr_given g right)
cond_given g (Not inner) = Not (cond_given g inner)
cond_given g (Connect op left right) = Connect op (cond_given g left) (cond_given g right)

-- what is called has no calls left
abbrev mutual
  pub stmt_given : Given → Stmt → Stmt
  stmt_given g Skip = Skip
  stmt_given g (Set name value) = Set name (expr_given g value)
  stmt_given g (Put table index value) = Put table (expr_given g index) (expr_given g value)
  stmt_given g (Seq parts) = Seq (stmts_given g parts)
  stmt_given g (If test first second) = If (cond_given g test) (stmt_given g first) (stmt_given g second)
  stmt_given g (Repeat count body) = Repeat count (stmt_given g body)
  stmt_given g Retry = Retry
  stmt_given g (OrElse first second) = OrElse (stmt_given g first) (stmt_given g second)
  stmt_given g (Throw value) = Throw (expr_given g value)
  stmt_given g (Call name arguments) = Skip

  pub stmts_given : Given → Stmts → Stmts
  stmts_given g NoStmts = NoStmts
  stmts_given g (MoreStmts first others) = MoreStmts (stmt_given g first) (stmts_given g others)

-- ---- what a call stands for

-- the body of the transaction at a place, with these arguments; where a call is known, there is one
abbrev pub body_given : List Declaration → List Argument → Option ℕ → Stmt
body_given earlier arguments None = Skip
body_given earlier arguments (Some place) =
    stmt_given (record { parameters = slice_index_or (map (λ (t : Declaration). t.parameters) earlier) place []; arguments = arguments })
    (slice_index_or (map (λ (t : Declaration). t.body) earlier) place Skip)

-- a call of one of these transactions, which have no calls left
abbrev pub call_plain : List Declaration → List ℕ → List Argument → Stmt
call_plain earlier name arguments = body_given earlier arguments (position (bytes_eq name) (map tx_name earlier))

-- a statement in which each call stands as the body that it calls
abbrev mutual
  pub stmt_plain : List Declaration → Stmt → Stmt
  stmt_plain earlier Skip = Skip
  stmt_plain earlier (Set name value) = Set name value
  stmt_plain earlier (Put table index value) = Put table index value
  stmt_plain earlier (Seq parts) = Seq (stmts_plain earlier parts)
  stmt_plain earlier (If test first second) = If test (stmt_plain earlier first) (stmt_plain earlier second)
  stmt_plain earlier (Repeat count body) = Repeat count (stmt_plain earlier body)
  stmt_plain earlier Retry = Retry
  stmt_plain earlier (OrElse first second) = OrElse (stmt_plain earlier first) (stmt_plain earlier second)
  stmt_plain earlier (Throw value) = Throw value
  stmt_plain earlier (Call name arguments) = call_plain earlier name arguments

  pub stmts_plain : List Declaration → Stmts → Stmts
  stmts_plain earlier NoStmts = NoStmts
  stmts_plain earlier (MoreStmts first others) = MoreStmts (stmt_plain earlier first) (stmts_plain earlier others)

abbrev pub tx_plain : List Declaration → Declaration → Declaration
tx_plain earlier t = record { name = t.name; parameters = t.parameters; body = stmt_plain earlier t.body; value = t.value }

-- behind these, which have no calls left, each of those
abbrev pub txs_plain : List Declaration → List Declaration → List Declaration
txs_plain earlier [] = earlier
txs_plain earlier (t ∷ ts) = txs_plain (earlier ++ tx_plain earlier t ∷ []) ts

-- ---- how much calls stand for

-- a node is a statement, a condition or an expression
abbrev pub expr_nodes : Expr → ℕ
expr_nodes (Int value) = 1
expr_nodes (Name name) = 1
expr_nodes (At table index) = suc (expr_nodes index)
expr_nodes (OfAll fold table) = 1
expr_nodes (Binary op left right) = suc (expr_nodes left + expr_nodes right)

abbrev pub cond_nodes : Cond → ℕ
cond_nodes (Compare op left right) = suc (expr_nodes left + expr_nodes right)
cond_nodes (Not inner) = suc (cond_nodes inner)
cond_nodes (Connect op left right) = suc (cond_nodes left + cond_nodes right)

abbrev mutual
  pub stmt_nodes : Stmt → ℕ
  stmt_nodes Skip = 1
  stmt_nodes (Set name value) = suc (expr_nodes value)
  stmt_nodes (Put table index value) = suc (expr_nodes index + expr_nodes value)
  stmt_nodes (Seq parts) = suc (stmts_nodes parts)
  stmt_nodes (If test first second) = suc (cond_nodes test + (stmt_nodes first + stmt_nodes second))
  stmt_nodes (Repeat count body) = suc (stmt_nodes body)
  stmt_nodes Retry = 1
  stmt_nodes (OrElse first second) = suc (stmt_nodes first + stmt_nodes second)
  stmt_nodes (Throw value) = suc (expr_nodes value)
  stmt_nodes (Call name arguments) = 1

  pub stmts_nodes : Stmts → ℕ
  stmts_nodes NoStmts = 0
  stmts_nodes (MoreStmts first others) = stmt_nodes first + stmts_nodes others

-- the nodes for which the calls in a statement stand
abbrev mutual
  pub called_nodes : List Declaration → Stmt → ℕ
  called_nodes earlier Skip = 0
  called_nodes earlier (Set name value) = 0
  called_nodes earlier (Put table index value) = 0
  called_nodes earlier (Seq parts) = all_called_nodes earlier parts
  called_nodes earlier (If test first second) = called_nodes earlier first + called_nodes earlier second
  called_nodes earlier (Repeat count body) = called_nodes earlier body
  called_nodes earlier Retry = 0
  called_nodes earlier (OrElse first second) = called_nodes earlier first + called_nodes earlier second
  called_nodes earlier (Throw value) = 0
  called_nodes earlier (Call name arguments) = stmt_nodes (call_plain earlier name arguments)

  pub all_called_nodes : List Declaration → Stmts → ℕ
  all_called_nodes earlier NoStmts = 0
  all_called_nodes earlier (MoreStmts first others) = called_nodes earlier first + all_called_nodes earlier others

-- behind these transactions, which have no calls left
abbrev pub txs_called_nodes : List Declaration → List Declaration → ℕ
txs_called_nodes earlier [] = 0
txs_called_nodes earlier (t ∷ ts) = called_nodes earlier t.body + txs_called_nodes (earlier ++ tx_plain earlier t ∷ []) ts

-- all calls of a file stand for no more nodes
abbrev pub most_called_nodes : ℕ
most_called_nodes = 1000000

-- ---- what calls are given

abbrev pub argument_fits : Argument → Bool
argument_fits (Number value) = fits value
argument_fits (Parameter name) = true

-- no more arguments than a transaction may have parameters, and each number one of 64 signed bits
abbrev pub arguments_fit : List Argument → Bool
arguments_fit arguments = nat_le (length arguments) most_parameters && list_all argument_fits arguments

abbrev mutual
  pub stmt_arguments_fit : Stmt → Bool
  stmt_arguments_fit Skip = true
  stmt_arguments_fit (Set name value) = true
  stmt_arguments_fit (Put table index value) = true
  stmt_arguments_fit (Seq parts) = stmts_arguments_fit parts
  stmt_arguments_fit (If test first second) = stmt_arguments_fit first && stmt_arguments_fit second
  stmt_arguments_fit (Repeat count body) = stmt_arguments_fit body
  stmt_arguments_fit Retry = true
  stmt_arguments_fit (OrElse first second) = stmt_arguments_fit first && stmt_arguments_fit second
  stmt_arguments_fit (Throw value) = true
  stmt_arguments_fit (Call name arguments) = arguments_fit arguments

  pub stmts_arguments_fit : Stmts → Bool
  stmts_arguments_fit NoStmts = true
  stmts_arguments_fit (MoreStmts first others) = stmt_arguments_fit first && stmts_arguments_fit others

abbrev pub tx_arguments_fit : Declaration → Bool
tx_arguments_fit t = stmt_arguments_fit t.body

-- ---- the file

-- what calls are given fits, and they stand for no more than they may
abbrev pub calls_fit : File → Bool
calls_fit file = list_all tx_arguments_fit file.txs && nat_le (txs_called_nodes [] file.txs) most_called_nodes

abbrev pub file_plain : File → File
file_plain file =
    record {
      form = file.form;
      vars = file.vars;
      tables = file.tables;
      always = file.always;
      txs = txs_plain [] file.txs;
      runs = file.runs;
    }

-- the file in which each call stands as the body that it calls, where calls keep to the limits
unfoldable pub without_calls : File → Result File ReadFault
without_calls file = if calls_fit file then Ok (file_plain file) else Err fault.Limit

-- calls are judged over the whole file before any of them is replaced
unfoldable pub plainly : File → Result File ReadFault
plainly file = if calls_known file then without_calls file else Err fault.Name
