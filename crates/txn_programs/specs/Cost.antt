-- How many nodes a run enters at most.
use Rattle.std.specs.Prelude.{ℕ, ◌+◌, ◌*◌, List, [], ◌∷◌}
use Rattle.txn_programs.specs.Tree.{Expression, Int, Var, Param, Cell, OfAll, Add, Sub, Mul, Div, Rem, Condition, Eq, Lt, Le, Not, And, Or, Statement, Skip, Set, Put, Seq, If, Repeat, Retry, OrElse, Throw, Statements, End, More, Program}

abbrev pub expression_cost : Expression → ℕ
expression_cost (Int n) = 1
expression_cost (Var x) = 1
expression_cost (Param p) = 1
expression_cost (Cell t a) = 1 + expression_cost a
expression_cost (OfAll f t) = 1 + t.length
expression_cost (Add a b) = 1 + expression_cost a + expression_cost b
expression_cost (Sub a b) = 1 + expression_cost a + expression_cost b
expression_cost (Mul a b) = 1 + expression_cost a + expression_cost b
expression_cost (Div a b) = 1 + expression_cost a + expression_cost b
expression_cost (Rem a b) = 1 + expression_cost a + expression_cost b

abbrev pub condition_cost : Condition → ℕ
condition_cost (Eq a b) = 1 + expression_cost a + expression_cost b
condition_cost (Lt a b) = 1 + expression_cost a + expression_cost b
condition_cost (Le a b) = 1 + expression_cost a + expression_cost b
condition_cost (Not c) = 1 + condition_cost c
condition_cost (And a b) = 1 + condition_cost a + condition_cost b
condition_cost (Or a b) = 1 + condition_cost a + condition_cost b

abbrev mutual
  pub statement_cost : Statement → ℕ
  statement_cost Skip = 1
  statement_cost (Set x e) = 1 + expression_cost e
  statement_cost (Put t a b) = 1 + expression_cost a + expression_cost b
  statement_cost (Seq parts) = 1 + statements_cost parts
  statement_cost (If c a b) = 1 + condition_cost c + statement_cost a + statement_cost b
  statement_cost (Repeat n s) = 1 + n * statement_cost s
  statement_cost Retry = 1
  statement_cost (OrElse a b) = 1 + statement_cost a + statement_cost b
  statement_cost (Throw e) = 1 + expression_cost e

  pub statements_cost : Statements → ℕ
  statements_cost End = 0
  statements_cost (More s rest) = statement_cost s + statements_cost rest

-- of all of them
abbrev pub conditions_cost : List Condition → ℕ
conditions_cost [] = 0
conditions_cost (c ∷ cs) = condition_cost c + conditions_cost cs

abbrev pub cost : Program → ℕ
cost t = statement_cost t.body + expression_cost t.result + conditions_cost t.always
