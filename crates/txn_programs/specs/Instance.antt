-- A program with its arguments: each parameter is replaced by its argument, as a number. The standing conditions have no parameters.
use Rattle.std.specs.Prelude.{ℤ, pos, List, slice_index_or}
use Rattle.txn_programs.specs.Tree.{Expression, Int, Var, Param, Cell, OfAll, Add, Sub, Mul, Div, Rem, Condition, Eq, Lt, Le, Not, And, Or, Statement, Skip, Set, Put, Seq, If, Repeat, Retry, OrElse, Throw, Statements, End, More, Program}
use Rattle.txn_programs.specs.declared.ast.ParamId.{ParamId}
use Rattle.txn_programs.specs.declared.code.Op.{Op}
use Rattle.txn_programs.specs.declared.code.Op.TheVariants as op

-- the argument of a parameter
abbrev pub argument : List ℤ → ParamId → ℤ
argument given p = slice_index_or given p.0 (pos 0)

abbrev pub instance_expression : List ℤ → Expression → Expression
instance_expression given (Int v) = Int v
instance_expression given (Var x) = Var x
instance_expression given (Param p) = Int (argument given p)
instance_expression given (Cell t a) = Cell t (instance_expression given a)
instance_expression given (OfAll f t) = OfAll f t
instance_expression given (Add a b) = Add (instance_expression given a) (instance_expression given b)
instance_expression given (Sub a b) = Sub (instance_expression given a) (instance_expression given b)
instance_expression given (Mul a b) = Mul (instance_expression given a) (instance_expression given b)
instance_expression given (Div a b) = Div (instance_expression given a) (instance_expression given b)
instance_expression given (Rem a b) = Rem (instance_expression given a) (instance_expression given b)

abbrev pub instance_condition : List ℤ → Condition → Condition
instance_condition given (Eq a b) = Eq (instance_expression given a) (instance_expression given b)
instance_condition given (Lt a b) = Lt (instance_expression given a) (instance_expression given b)
instance_condition given (Le a b) = Le (instance_expression given a) (instance_expression given b)
instance_condition given (Not c) = Not (instance_condition given c)
instance_condition given (And a b) = And (instance_condition given a) (instance_condition given b)
instance_condition given (Or a b) = Or (instance_condition given a) (instance_condition given b)

abbrev mutual
  pub instance_statement : List ℤ → Statement → Statement
  instance_statement given Skip = Skip
  instance_statement given (Set x e) = Set x (instance_expression given e)
  instance_statement given (Put t a b) = Put t (instance_expression given a) (instance_expression given b)
  instance_statement given (Seq parts) = Seq (instance_statements given parts)
  instance_statement given (If c a b) = If (instance_condition given c) (instance_statement given a) (instance_statement given b)
  instance_statement given (Repeat n s) = Repeat n (instance_statement given s)
  instance_statement given Retry = Retry
  instance_statement given (OrElse a b) = OrElse (instance_statement given a) (instance_statement given b)
  instance_statement given (Throw e) = Throw (instance_expression given e)

  pub instance_statements : List ℤ → Statements → Statements
  instance_statements given End = End
  instance_statements given (More s rest) = More (instance_statement given s) (instance_statements given rest)

abbrev pub instance : List ℤ → Program → Program
instance given t = record { name = t.name; body = instance_statement given t.body; result = instance_expression given t.result; always = t.always }

-- an instruction with its argument in place of a parameter
abbrev pub filled : List ℤ → Op → Op
filled given (op.Param n p) = op.Push n (argument given p)
filled given (op.SumParam n p) = op.SumInt n (argument given p)
filled given (op.DifferenceParam n p) = op.DifferenceInt n (argument given p)
filled given (op.EqualParam n p) = op.EqualInt n (argument given p)
filled given (op.LessParam n p) = op.LessInt n (argument given p)
filled given (op.AtMostParam n p) = op.AtMostInt n (argument given p)
filled given o = o
