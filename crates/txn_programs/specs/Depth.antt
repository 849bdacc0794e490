-- How many parentheses a program opens at a time: a node that is written in parentheses counts 1.
use Rattle.std.specs.Prelude.{ℕ, suc, max}
use Rattle.txn_programs.specs.Tree.{Expression, Int, Var, Param, Cell, OfAll, Add, Sub, Mul, Div, Rem, Condition, Eq, Lt, Le, Not, And, Or, Statement, Skip, Set, Put, Seq, If, Repeat, Retry, OrElse, Throw, Statements, End, More}

abbrev pub expression_depth : Expression → ℕ
expression_depth (Int n) = 0
expression_depth (Var x) = 0
expression_depth (Param p) = 0
expression_depth (Cell t a) = suc (expression_depth a)
expression_depth (OfAll f t) = 1
expression_depth (Add a b) = suc (max (expression_depth a) (expression_depth b))
expression_depth (Sub a b) = suc (max (expression_depth a) (expression_depth b))
expression_depth (Mul a b) = suc (max (expression_depth a) (expression_depth b))
expression_depth (Div a b) = suc (max (expression_depth a) (expression_depth b))
expression_depth (Rem a b) = suc (max (expression_depth a) (expression_depth b))

abbrev pub condition_depth : Condition → ℕ
condition_depth (Eq a b) = suc (max (expression_depth a) (expression_depth b))
condition_depth (Lt a b) = suc (max (expression_depth a) (expression_depth b))
condition_depth (Le a b) = suc (max (expression_depth a) (expression_depth b))
condition_depth (Not c) = suc (condition_depth c)
condition_depth (And a b) = suc (max (condition_depth a) (condition_depth b))
condition_depth (Or a b) = suc (max (condition_depth a) (condition_depth b))

abbrev mutual
  pub statement_depth : Statement → ℕ
  statement_depth Skip = 1
  statement_depth (Set x e) = suc (expression_depth e)
  statement_depth (Put t a b) = suc (max (expression_depth a) (expression_depth b))
  statement_depth (Seq parts) = suc (statements_depth parts)
  statement_depth (If c a b) = suc (max (condition_depth c) (max (statement_depth a) (statement_depth b)))
  statement_depth (Repeat n s) = suc (statement_depth s)
  statement_depth Retry = 1
  statement_depth (OrElse a b) = suc (max (statement_depth a) (statement_depth b))
  statement_depth (Throw e) = suc (expression_depth e)

  pub statements_depth : Statements → ℕ
  statements_depth End = 0
  statements_depth (More s rest) = max (statement_depth s) (statements_depth rest)
