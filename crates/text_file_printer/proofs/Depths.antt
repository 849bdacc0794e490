-- What is written is no deeper than what is declared.
use Rattle.std.proofs.Common.{ℕ, suc, max, ◌≤◌, arith}
use Rattle.txn_programs.specs.Tree.{Expression, Condition, Statement, Statements}
use Rattle.txn_programs.specs.Tree as t
use Rattle.txn_programs.specs.Depth.{expression_depth, condition_depth, statement_depth, statements_depth}
use Rattle.text_grammar.specs.Scope.{Scope}
use Rattle.text_grammar.specs.Tree.{expr_depth, cond_depth, stmt_depth, stmts_depth}
use Rattle.text_grammar.specs.Written.{written_expression, written_condition, written_statement, written_statements}

both : (a b c d : ℕ) → a ≤ c → b ≤ d → suc (max a b) ≤ suc (max c d)
both a b c d p q = omega (arith, p, q)

pub expr_deep : (names : Scope) (e : Expression) → expr_depth (written_expression names e) ≤ expression_depth e
expr_deep names (t.Int n) = omega arith
expr_deep names (t.Var x) = omega arith
expr_deep names (t.Param p) = omega arith
expr_deep names (t.Cell tb a) = omega (arith, expr_deep names a)
expr_deep names (t.OfAll f tb) = omega arith
expr_deep names (t.Add a b) = both _ _ _ _ (expr_deep names a) (expr_deep names b)
expr_deep names (t.Sub a b) = both _ _ _ _ (expr_deep names a) (expr_deep names b)
expr_deep names (t.Mul a b) = both _ _ _ _ (expr_deep names a) (expr_deep names b)
expr_deep names (t.Div a b) = both _ _ _ _ (expr_deep names a) (expr_deep names b)
expr_deep names (t.Rem a b) = both _ _ _ _ (expr_deep names a) (expr_deep names b)

pub cond_deep : (names : Scope) (c : Condition) → cond_depth (written_condition names c) ≤ condition_depth c
cond_deep names (t.Eq a b) = both _ _ _ _ (expr_deep names a) (expr_deep names b)
cond_deep names (t.Lt a b) = both _ _ _ _ (expr_deep names a) (expr_deep names b)
cond_deep names (t.Le a b) = both _ _ _ _ (expr_deep names a) (expr_deep names b)
cond_deep names (t.Not c) = omega (arith, cond_deep names c)
cond_deep names (t.And c d) = both _ _ _ _ (cond_deep names c) (cond_deep names d)
cond_deep names (t.Or c d) = both _ _ _ _ (cond_deep names c) (cond_deep names d)

mutual
  pub stmt_deep : (names : Scope) (s : Statement) → stmt_depth (written_statement names s) ≤ statement_depth s
  stmt_deep names t.Skip = omega arith
  stmt_deep names (t.Set x e) = omega (arith, expr_deep names e)
  stmt_deep names (t.Put tb a b) = both _ _ _ _ (expr_deep names a) (expr_deep names b)
  stmt_deep names (t.Seq parts) = omega (arith, stmts_deep names parts)
  stmt_deep names (t.If c a b) = omega (arith, cond_deep names c, stmt_deep names a, stmt_deep names b)
  stmt_deep names (t.Repeat n s) = omega (arith, stmt_deep names s)
  stmt_deep names t.Retry = omega arith
  stmt_deep names (t.OrElse a b) = both _ _ _ _ (stmt_deep names a) (stmt_deep names b)
  stmt_deep names (t.Throw e) = omega (arith, expr_deep names e)

  stmts_deep : (names : Scope) (s : Statements) → stmts_depth (written_statements names s) ≤ statements_depth s
  stmts_deep names t.End = omega arith
  stmts_deep names (t.More s rest) = omega (arith, stmt_deep names s, stmts_deep names rest)
