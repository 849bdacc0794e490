-- Programs as plain trees: what a transaction says, and not where it lies in memory.
use Rattle.std.specs.Prelude.{map, ℕ, ℤ, List, [], ◌∷◌, string_bytes}
use Rattle.txn_programs.specs.declared.ast.VarId.{VarId}
use Rattle.txn_programs.specs.declared.ast.ParamId.{ParamId}
use Rattle.txn_programs.specs.declared.ast.Span.{Span}
use Rattle.txn_programs.specs.declared.ast.Fold.{Fold}
use Rattle.txn_programs.specs.declared.ast.Fold.TheVariants as fold
use Rattle.txn_programs.specs.declared.ast.Expr.{Expr}
use Rattle.txn_programs.specs.declared.ast.Expr.TheVariants as e
use Rattle.txn_programs.specs.declared.ast.Cond.{Cond}
use Rattle.txn_programs.specs.declared.ast.Cond.TheVariants as c
use Rattle.txn_programs.specs.declared.ast.Stmt.{Stmt, Row_of-Stmt, end_of-Stmt, more_of-Stmt}
use Rattle.txn_programs.specs.declared.ast.Stmt.TheVariants as s
use Rattle.txn_programs.specs.declared.ast.Tx.{Tx}

-- a number, a variable, a parameter, a cell of a table by its number, all cells of a table, or an operator on two operands
pub data Expression : Type 0 where
  Int : (n : ℤ) → Expression
  Var : (x : VarId) → Expression
  Param : (p : ParamId) → Expression
  Cell : (t : Span) (a : Expression) → Expression
  OfAll : (f : Fold) (t : Span) → Expression
  Add : (a b : Expression) → Expression
  Sub : (a b : Expression) → Expression
  Mul : (a b : Expression) → Expression
  Div : (a b : Expression) → Expression
  Rem : (a b : Expression) → Expression

-- a comparison, or conditions combined
pub data Condition : Type 0 where
  Eq : (a b : Expression) → Condition
  Lt : (a b : Expression) → Condition
  Le : (a b : Expression) → Condition
  Not : (t : Condition) → Condition
  And : (t u : Condition) → Condition
  Or : (t u : Condition) → Condition

mutual
  -- what a body does; the parts of a sequence are a chain
  pub data Statement : Type 0 where
    Skip : Statement
    Set : (x : VarId) (a : Expression) → Statement
    Put : (t : Span) (a b : Expression) → Statement
    Seq : (parts : Statements) → Statement
    If : (t : Condition) (p q : Statement) → Statement
    Repeat : (n : ℕ) (p : Statement) → Statement
    Retry : Statement
    OrElse : (p q : Statement) → Statement
    Throw : (a : Expression) → Statement

  pub data Statements : Type 0 where
    End : Statements
    More : (p : Statement) (rest : Statements) → Statements

-- the tree of a program's expression, and likewise below
abbrev pub expression_of : Expr → Expression
expression_of (e.Int n) = Int n
expression_of (e.Var x) = Var x
expression_of (e.Param p) = Param p
expression_of (e.At' t p a) = Cell t (expression_of a)
expression_of (e.Sum t) = OfAll fold.Sum t
expression_of (e.Min t) = OfAll fold.Min t
expression_of (e.Max t) = OfAll fold.Max t
expression_of (e.Add' p a q b) = Add (expression_of a) (expression_of b)
expression_of (e.Sub' p a q b) = Sub (expression_of a) (expression_of b)
expression_of (e.Mul' p a q b) = Mul (expression_of a) (expression_of b)
expression_of (e.Div' p a q b) = Div (expression_of a) (expression_of b)
expression_of (e.Rem' p a q b) = Rem (expression_of a) (expression_of b)

abbrev pub condition_of : Cond → Condition
condition_of (c.Eq a b) = Eq (expression_of a) (expression_of b)
condition_of (c.Lt a b) = Lt (expression_of a) (expression_of b)
condition_of (c.Le a b) = Le (expression_of a) (expression_of b)
condition_of (c.Not' p t) = Not (condition_of t)
condition_of (c.And' p t q u) = And (condition_of t) (condition_of u)
condition_of (c.Or' p t q u) = Or (condition_of t) (condition_of u)

abbrev mutual
  pub statement_of : Stmt → Statement
  statement_of s.Skip = Skip
  statement_of (s.Set x a) = Set x (expression_of a)
  statement_of (s.Put t a b) = Put t (expression_of a) (expression_of b)
  statement_of (s.Seq' shape parts) = Seq (statements_of parts)
  statement_of (s.If' t p a q b) = If (condition_of t) (statement_of a) (statement_of b)
  statement_of (s.Repeat' n p a) = Repeat n (statement_of a)
  statement_of s.Retry = Retry
  statement_of (s.OrElse' p a q b) = OrElse (statement_of a) (statement_of b)
  statement_of (s.Throw a) = Throw (expression_of a)

  pub statements_of : {k : _} → Row_of-Stmt k → Statements
  statements_of end_of-Stmt = End
  statements_of (more_of-Stmt p rest) = More (statement_of p) (statements_of rest)

-- the same of a list of statements
abbrev pub statements_of_list : List Stmt → Statements
statements_of_list [] = End
statements_of_list (p ∷ rest) = More (statement_of p) (statements_of_list rest)

-- a transaction, as it is declared
pub record Transaction : Type 0 where
  pub name : List ℕ
  -- the names of its parameters
  pub parameters : List (List ℕ)
  pub body : Statement
  pub result : Expression

abbrev pub transaction_of : Tx → Transaction
transaction_of t = record { name = string_bytes t.name; parameters = map string_bytes t.params.items; body = statement_of t.body; result = expression_of t.result }

-- what a task runs: a transaction, and the conditions that have to stand after it
pub record Program : Type 0 where
  pub name : List ℕ
  pub body : Statement
  pub result : Expression
  pub always : List Condition

abbrev pub under : List Condition → Transaction → Program
under conditions t = record { name = t.name; body = t.body; result = t.result; always = conditions }
