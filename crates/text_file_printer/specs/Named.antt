-- Which variables, parameters and tables a transaction names: those of a scope.
use Rattle.std.specs.Prelude.{◌≡◌, ◌<◌, true, length}
use Rattle.txn_programs.specs.Tree.{Expression, Int, Var, Param, Cell, OfAll, Add, Sub, Mul, Div, Rem, Condition, Eq, Lt, Le, Not, And, Or, Statement, Skip, Set, Put, Seq, If, Repeat, Retry, OrElse, Throw, Statements, End, More}
use Rattle.txn_programs.specs.Names.{knows_table}
use Rattle.text_grammar.specs.Scope.{Scope}

abbrev pub ExpressionNamed : Scope → Expression → Type 0
ExpressionNamed s (Int v) = Unit {0}
ExpressionNamed s (Var x) = x.0 < length s.variables
ExpressionNamed s (Param p) = p.0 < length s.parameters
ExpressionNamed s (Cell t a) = (knows_table s.spans t ≡ true) × ExpressionNamed s a
ExpressionNamed s (OfAll f t) = knows_table s.spans t ≡ true
ExpressionNamed s (Add a b) = ExpressionNamed s a × ExpressionNamed s b
ExpressionNamed s (Sub a b) = ExpressionNamed s a × ExpressionNamed s b
ExpressionNamed s (Mul a b) = ExpressionNamed s a × ExpressionNamed s b
ExpressionNamed s (Div a b) = ExpressionNamed s a × ExpressionNamed s b
ExpressionNamed s (Rem a b) = ExpressionNamed s a × ExpressionNamed s b

abbrev pub ConditionNamed : Scope → Condition → Type 0
ConditionNamed s (Eq a b) = ExpressionNamed s a × ExpressionNamed s b
ConditionNamed s (Lt a b) = ExpressionNamed s a × ExpressionNamed s b
ConditionNamed s (Le a b) = ExpressionNamed s a × ExpressionNamed s b
ConditionNamed s (Not c) = ConditionNamed s c
ConditionNamed s (And c d) = ConditionNamed s c × ConditionNamed s d
ConditionNamed s (Or c d) = ConditionNamed s c × ConditionNamed s d

abbrev mutual
  pub StatementNamed : Scope → Statement → Type 0
  StatementNamed s Skip = Unit {0}
  StatementNamed s (Set x e) = (x.0 < length s.variables) × ExpressionNamed s e
  StatementNamed s (Put t a b) = (knows_table s.spans t ≡ true) × ExpressionNamed s a × ExpressionNamed s b
  StatementNamed s (Seq parts) = StatementsNamed s parts
  StatementNamed s (If c p q) = ConditionNamed s c × StatementNamed s p × StatementNamed s q
  StatementNamed s (Repeat n p) = StatementNamed s p
  StatementNamed s Retry = Unit {0}
  StatementNamed s (OrElse p q) = StatementNamed s p × StatementNamed s q
  StatementNamed s (Throw e) = ExpressionNamed s e

  pub StatementsNamed : Scope → Statements → Type 0
  StatementsNamed s End = Unit {0}
  StatementsNamed s (More p rest) = StatementNamed s p × StatementsNamed s rest
