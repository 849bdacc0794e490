-- What the code's raw trees say, and not where they lie in memory.
use Rattle.std.specs.Prelude.{ℕ, ℤ, List, map}
use Rattle.std.proofs.Common.{Bor}
use Rattle.text_words.specs.declared.numeral.Numeral.{Numeral}
use Rattle.text_words.specs.Bytes.{int_value}
use Rattle.text_grammar.specs.Tree.{Expr, Cond, Argument, Stmt, Stmts, NoStmts, MoreStmts, Pair, Table, Always, Declaration, Run, File}
use Rattle.text_grammar.specs.Tree as tree
use Rattle.text_grammar.specs.declared.expr.RawExpr.{RawExpr}
use Rattle.text_grammar.specs.declared.expr.RawExpr as expr
use Rattle.text_grammar.specs.declared.cond.RawCond.{RawCond}
use Rattle.text_grammar.specs.declared.cond.RawCond as cond
use Rattle.text_grammar.specs.declared.stmt.RawArgument.{RawArgument}
use Rattle.text_grammar.specs.declared.stmt.RawArgument.TheVariants as argument
use Rattle.text_grammar.specs.declared.stmt.RawStmt.{RawStmt, Row_of-RawStmt, end_of-RawStmt, more_of-RawStmt}
use Rattle.text_grammar.specs.declared.stmt.RawStmt as stmt
use Rattle.text_grammar.specs.declared.file.RawPair.{RawPair}
use Rattle.text_grammar.specs.declared.file.RawTable.{RawTable}
use Rattle.text_grammar.specs.declared.file.RawAlways.{RawAlways}
use Rattle.text_grammar.specs.declared.file.RawTx.{RawTx}
use Rattle.text_grammar.specs.declared.file.RawRun.{RawRun}
use Rattle.text_grammar.specs.declared.file.RawFile.{RawFile}

abbrev pub view_expr : RawExpr → Expr
view_expr (expr.Int numeral) = tree.Int (int_value numeral.text.now)
view_expr (expr.Name name) = tree.Name name.now
view_expr (expr.At' table p index) = tree.At table.now (view_expr index)
view_expr (expr.OfAll fold table) = tree.OfAll fold table.now
view_expr (expr.Binary' op p left q right) = tree.Binary op (view_expr left) (view_expr right)

abbrev pub view_cond : RawCond → Cond
view_cond (cond.Compare op left right) = tree.Compare op (view_expr left) (view_expr right)
view_cond (cond.Not' p inner) = tree.Not (view_cond inner)
view_cond (cond.Connect' op p left q right) = tree.Connect op (view_cond left) (view_cond right)

abbrev pub view_argument : RawArgument → Argument
view_argument (argument.Int numeral) = tree.Number (int_value numeral.text.now)
view_argument (argument.Name name) = tree.Parameter name.now

abbrev pub view_arguments : List RawArgument → List Argument
view_arguments given = map view_argument given

abbrev mutual
  pub view_stmt : RawStmt → Stmt
  view_stmt stmt.Skip = tree.Skip
  view_stmt (stmt.Set name value) = tree.Set name.now (view_expr value)
  view_stmt (stmt.Put table index value) = tree.Put table.now (view_expr index) (view_expr value)
  view_stmt (stmt.Seq' shape parts) = tree.Seq (view_row parts)
  view_stmt (stmt.If' test p first q second) = tree.If (view_cond test) (view_stmt first) (view_stmt second)
  view_stmt (stmt.Repeat' count p body) = tree.Repeat (int_value count.text.now) (view_stmt body)
  view_stmt stmt.Retry = tree.Retry
  view_stmt (stmt.OrElse' p first q second) = tree.OrElse (view_stmt first) (view_stmt second)
  view_stmt (stmt.Throw value) = tree.Throw (view_expr value)
  view_stmt (stmt.Call name given) = tree.Call name.now (view_arguments given.items)

  pub view_row : {k : _} → Row_of-RawStmt k → Stmts
  view_row end_of-RawStmt = NoStmts
  view_row (more_of-RawStmt s rest) = MoreStmts (view_stmt s) (view_row rest)

abbrev pub view_stmts : List RawStmt → List Stmt
view_stmts ss = map view_stmt ss

abbrev pub view_pair : RawPair → Pair
view_pair p = record { name = p.name.now; value = int_value p.value.text.now }

abbrev pub view_pairs : List RawPair → List Pair
view_pairs ps = map view_pair ps

abbrev pub view_always : RawAlways → Always
view_always a = record { name = a.name.now; condition = view_cond a.condition }

abbrev pub view_conditions : List RawAlways → List Always
view_conditions always = map view_always always

-- texts, and not where they lie in memory
abbrev pub view_names : List (Bor (List ℕ)) → List (List ℕ)
view_names names = map (λ name. name.now) names

abbrev pub view_tx : RawTx → Declaration
view_tx t = record { name = t.name.now; parameters = view_names t.params.items; body = view_stmt t.body; value = view_expr t.value }

abbrev pub view_txs : List RawTx → List Declaration
view_txs ts = map view_tx ts

abbrev pub view_numbers : List Numeral → List ℤ
view_numbers numerals = map (λ n. int_value n.text.now) numerals

abbrev pub view_table : RawTable → Table
view_table t =
    record {
      name = t.name.now;
      count = int_value t.count.text.now;
      first = int_value t.first.text.now;
      others = view_numbers t.others.items;
    }

abbrev pub view_tables : List RawTable → List Table
view_tables ts = map view_table ts

abbrev pub view_run : RawRun → Run
view_run r = record { name = r.name.now; count = int_value r.count.text.now; arguments = view_numbers r.arguments.items }

abbrev pub view_runs : List RawRun → List Run
view_runs rs = map view_run rs

abbrev pub view_file : RawFile → File
view_file f =
    record {
      form = f.form;
      vars = view_pairs f.vars.items;
      tables = view_tables f.tables.items;
      always = view_conditions f.always.items;
      txs = view_txs f.txs.items;
      runs = view_runs f.runs.items;
    }
