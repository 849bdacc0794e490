-- Integers of a tree fit 64 signed bits.
use Rattle.std.specs.Prelude.{FitsSigned}
use Rattle.std.specs.Int.{w64}
use Rattle.std.specs.List.{AllByRecursion}
use Rattle.text_grammar.specs.Tree.{Expr, Int, Name, At, OfAll, Binary, Cond, Compare, Not, Connect, Argument, Number, Parameter, Stmt, Skip, Set, Put, Seq, If, Repeat, Retry, OrElse, Throw, Call, Stmts, NoStmts, MoreStmts, Pair, Table, Always, Declaration, Run, File}
use Rattle.text_file_printer.specs.Canonical.{numbers_told}

abbrev pub ExprFits : Expr → Type 0
ExprFits (Int value) = FitsSigned w64 value
ExprFits (Name name) = Unit {0}
ExprFits (At table index) = ExprFits index
ExprFits (OfAll fold table) = Unit {0}
ExprFits (Binary op left right) = ExprFits left × ExprFits right

abbrev pub CondFits : Cond → Type 0
CondFits (Compare op left right) = ExprFits left × ExprFits right
CondFits (Not inner) = CondFits inner
CondFits (Connect op left right) = CondFits left × CondFits right

abbrev pub ArgumentFits : Argument → Type 0
ArgumentFits (Number value) = FitsSigned w64 value
ArgumentFits (Parameter name) = Unit {0}

abbrev mutual
  pub StmtFits : Stmt → Type 0
  StmtFits Skip = Unit {0}
  StmtFits (Set name value) = ExprFits value
  StmtFits (Put table index value) = ExprFits index × ExprFits value
  StmtFits (Seq parts) = StmtsFit parts
  StmtFits (If test first second) = CondFits test × StmtFits first × StmtFits second
  StmtFits (Repeat count body) = FitsSigned w64 count × StmtFits body
  StmtFits Retry = Unit {0}
  StmtFits (OrElse first second) = StmtFits first × StmtFits second
  StmtFits (Throw value) = ExprFits value
  StmtFits (Call name arguments) = AllByRecursion ArgumentFits arguments

  pub StmtsFit : Stmts → Type 0
  StmtsFit NoStmts = Unit {0}
  StmtsFit (MoreStmts first others) = StmtFits first × StmtsFit others

abbrev pub PairFits : Pair → Type 0
PairFits p = FitsSigned w64 p.value

abbrev pub TableFits : Table → Type 0
TableFits t = FitsSigned w64 t.count × AllByRecursion (FitsSigned w64) (numbers_told t)

abbrev pub AlwaysFits : Always → Type 0
AlwaysFits a = CondFits a.condition

abbrev pub DeclarationFits : Declaration → Type 0
DeclarationFits t = StmtFits t.body × ExprFits t.value

abbrev pub RunFits : Run → Type 0
RunFits r = FitsSigned w64 r.count × AllByRecursion (FitsSigned w64) r.arguments

pub record FileFits (f : File) : Type 0 where
  pub vars : AllByRecursion PairFits f.vars
  pub tables : AllByRecursion TableFits f.tables
  pub always : AllByRecursion AlwaysFits f.always
  pub txs : AllByRecursion DeclarationFits f.txs
  pub runs : AllByRecursion RunFits f.runs
