-- Which variables and tables a program names. What is run has no parameter left.
use Rattle.std.specs.Prelude.{ℕ, ◌+◌, ◌<◌, ◌≤◌, List, [], ◌∷◌}
use Rattle.txn_programs.specs.declared.ast.Span.{Span}
use Rattle.txn_programs.specs.Tree.{Expression, Int, Var, Param, Cell, OfAll, Add, Sub, Mul, Div, Rem, Condition, Eq, Lt, Le, Not, And, Or, Statement, Skip, Set, Put, Seq, If, Repeat, Retry, OrElse, Throw, Statements, End, More, Program}

-- each cell has a number below n as a variable
abbrev pub TableKnown : ℕ → Span → Type 0
TableKnown n t = t.first + t.length ≤ n

abbrev pub ExpressionKnown : ℕ → Expression → Type 0
ExpressionKnown n (Int v) = Unit {0}
ExpressionKnown n (Var x) = x.0 < n
ExpressionKnown n (Param p) = ⊥
ExpressionKnown n (Cell t a) = TableKnown n t × ExpressionKnown n a
ExpressionKnown n (OfAll f t) = TableKnown n t
ExpressionKnown n (Add a b) = ExpressionKnown n a × ExpressionKnown n b
ExpressionKnown n (Sub a b) = ExpressionKnown n a × ExpressionKnown n b
ExpressionKnown n (Mul a b) = ExpressionKnown n a × ExpressionKnown n b
ExpressionKnown n (Div a b) = ExpressionKnown n a × ExpressionKnown n b
ExpressionKnown n (Rem a b) = ExpressionKnown n a × ExpressionKnown n b

abbrev pub ConditionKnown : ℕ → Condition → Type 0
ConditionKnown n (Eq a b) = ExpressionKnown n a × ExpressionKnown n b
ConditionKnown n (Lt a b) = ExpressionKnown n a × ExpressionKnown n b
ConditionKnown n (Le a b) = ExpressionKnown n a × ExpressionKnown n b
ConditionKnown n (Not c) = ConditionKnown n c
ConditionKnown n (And a b) = ConditionKnown n a × ConditionKnown n b
ConditionKnown n (Or a b) = ConditionKnown n a × ConditionKnown n b

abbrev mutual
  pub StatementKnown : ℕ → Statement → Type 0
  StatementKnown n Skip = Unit {0}
  StatementKnown n (Set x e) = (x.0 < n) × ExpressionKnown n e
  StatementKnown n (Put t a b) = TableKnown n t × (ExpressionKnown n a × ExpressionKnown n b)
  StatementKnown n (Seq parts) = StatementsKnown n parts
  StatementKnown n (If c a b) = ConditionKnown n c × StatementKnown n a × StatementKnown n b
  StatementKnown n (Repeat k s) = StatementKnown n s
  StatementKnown n Retry = Unit {0}
  StatementKnown n (OrElse a b) = StatementKnown n a × StatementKnown n b
  StatementKnown n (Throw e) = ExpressionKnown n e

  pub StatementsKnown : ℕ → Statements → Type 0
  StatementsKnown n End = Unit {0}
  StatementsKnown n (More s rest) = StatementKnown n s × StatementsKnown n rest

abbrev pub ConditionsKnown : ℕ → List Condition → Type 0
ConditionsKnown n [] = Unit {0}
ConditionsKnown n (c ∷ cs) = ConditionKnown n c × ConditionsKnown n cs

abbrev pub ProgramKnown : ℕ → Program → Type 0
ProgramKnown n t = StatementKnown n t.body × (ExpressionKnown n t.result × ConditionsKnown n t.always)
