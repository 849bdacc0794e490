-- What is written of a condition or a transaction names a table only in a form of file that has tables.
use Rattle.std.proofs.Common.{◌≡◌, true, refl}
use Rattle.std.proofs.lemmas.Bool.{and_from}
use Rattle.txn_programs.specs.declared.ast.Span.{Span}
use Rattle.txn_programs.specs.Tree.{Expression, Condition, Statement, Statements}
use Rattle.txn_programs.specs.Tree as t
use Rattle.txn_programs.specs.Names.{knows_table}
use Rattle.text_grammar.specs.declared.file.FileForm.{FileForm}
use Rattle.text_grammar.specs.Scope.{Scope}
use Rattle.text_grammar.specs.Tree.{has_tables, expr_formed, cond_formed, stmt_formed, stmts_formed}
use Rattle.text_grammar.specs.Written.{written_expression, written_condition, written_statement, written_statements}
use Rattle.text_file_printer.specs.Named.{ExpressionNamed, ConditionNamed, StatementNamed, StatementsNamed}

-- where a table is known, there are tables
module _ (form : FileForm) (s : Scope) (tabled : (u : Span) → knows_table s.spans u ≡ true → has_tables form ≡ true) where
  pub expr_formed_in : (e : Expression) → ExpressionNamed s e → expr_formed form (written_expression s e) ≡ true
  expr_formed_in (t.Int n) k = refl
  expr_formed_in (t.Var x) k = refl
  expr_formed_in (t.Param p) k = refl
  expr_formed_in (t.Cell u a) k = and_from _ _ (tabled u k.0) (expr_formed_in a k.1)
  expr_formed_in (t.OfAll f u) k = tabled u k
  expr_formed_in (t.Add a b) k = and_from _ _ (expr_formed_in a k.0) (expr_formed_in b k.1)
  expr_formed_in (t.Sub a b) k = and_from _ _ (expr_formed_in a k.0) (expr_formed_in b k.1)
  expr_formed_in (t.Mul a b) k = and_from _ _ (expr_formed_in a k.0) (expr_formed_in b k.1)
  expr_formed_in (t.Div a b) k = and_from _ _ (expr_formed_in a k.0) (expr_formed_in b k.1)
  expr_formed_in (t.Rem a b) k = and_from _ _ (expr_formed_in a k.0) (expr_formed_in b k.1)

  pub cond_formed_in : (c : Condition) → ConditionNamed s c → cond_formed form (written_condition s c) ≡ true
  cond_formed_in (t.Eq a b) k = and_from _ _ (expr_formed_in a k.0) (expr_formed_in b k.1)
  cond_formed_in (t.Lt a b) k = and_from _ _ (expr_formed_in a k.0) (expr_formed_in b k.1)
  cond_formed_in (t.Le a b) k = and_from _ _ (expr_formed_in a k.0) (expr_formed_in b k.1)
  cond_formed_in (t.Not c) k = cond_formed_in c k
  cond_formed_in (t.And c d) k = and_from _ _ (cond_formed_in c k.0) (cond_formed_in d k.1)
  cond_formed_in (t.Or c d) k = and_from _ _ (cond_formed_in c k.0) (cond_formed_in d k.1)

  mutual
    pub stmt_formed_in : (p : Statement) → StatementNamed s p → stmt_formed form (written_statement s p) ≡ true
    stmt_formed_in t.Skip k = refl
    stmt_formed_in (t.Set x e) k = expr_formed_in e k.1
    stmt_formed_in (t.Put u a b) k = and_from _ _ (tabled u k.0) (and_from _ _ (expr_formed_in a k.1) (expr_formed_in b k.2))
    stmt_formed_in (t.Seq parts) k = stmts_formed_in parts k
    stmt_formed_in (t.If c a b) k = and_from _ _ (cond_formed_in c k.0) (and_from _ _ (stmt_formed_in a k.1) (stmt_formed_in b k.2))
    stmt_formed_in (t.Repeat n p) k = stmt_formed_in p k
    stmt_formed_in t.Retry k = refl
    stmt_formed_in (t.OrElse a b) k = and_from _ _ (stmt_formed_in a k.0) (stmt_formed_in b k.1)
    stmt_formed_in (t.Throw e) k = expr_formed_in e k

    stmts_formed_in : (ps : Statements) → StatementsNamed s ps → stmts_formed form (written_statements s ps) ≡ true
    stmts_formed_in t.End k = refl
    stmts_formed_in (t.More p rest) k = and_from _ _ (stmt_formed_in p k.0) (stmts_formed_in rest k.1)
