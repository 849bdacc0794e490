-- The files that declare a listing: each id written as its name, each number as it is.
use Rattle.std.specs.Prelude.{◌≡◌, ℕ, ℤ, pos, negsuc, Bool, not, ◌==◌, if◌then◌else◌, Option, Some, None, position, List, [], ◌∷◌, map, length, replicate, take, drop, slice_index_or}
use Rattle.std.specs.Ordering.{int_eq}
use Rattle.std.specs.List.{flat_map, list_all, list_any}
use Rattle.txn_programs.specs.declared.arguments.Call.{Call}
use Rattle.txn_programs.specs.Tree.{Expression, Condition, Statement, Statements, Transaction}
use Rattle.txn_programs.specs.Tree as t
use Rattle.txn_programs.specs.declared.ast.Span.{Span}
use Rattle.txn_programs.specs.Names.{same_span}
use Rattle.txn_programs.specs.Listing.{Listing, arity, table_names, spans}
use Rattle.text_grammar.specs.Tree.{Expr, Cond, Stmt, Stmts, NoStmts, MoreStmts, Pair, Table, Always, Declaration, Run, File}
use Rattle.text_grammar.specs.Scope.{Scope, standing, inside}
use Rattle.text_grammar.specs.Tree as f
use Rattle.text_grammar.specs.declared.words.Operator.TheVariants as operator
use Rattle.text_grammar.specs.declared.words.Comparison.TheVariants as comparison
use Rattle.text_grammar.specs.declared.words.Connective.TheVariants as connective
use Rattle.text_grammar.specs.declared.file.FileForm.{FileForm}
use Rattle.text_grammar.specs.declared.file.FileForm.TheVariants.{One, Two, Three}

-- the name at a place
abbrev pub name_at : List (List ℕ) → ℕ → List ℕ
name_at names place = slice_index_or names place []

abbrev pub name_where : List (List ℕ) → Option ℕ → List ℕ
name_where names None = []
name_where names (Some place) = name_at names place

-- the name of the table with these cells
abbrev pub name_of : Scope → Span → List ℕ
name_of s t = name_where s.tables (position (same_span t) s.spans)

abbrev pub written_expression : Scope → Expression → Expr
written_expression s (t.Int n) = f.Int n
written_expression s (t.Var x) = f.Name (name_at s.variables x.0)
written_expression s (t.Param p) = f.Name (name_at s.parameters p.0)
written_expression s (t.Cell table a) = f.At (name_of s table) (written_expression s a)
written_expression s (t.OfAll fold table) = f.OfAll fold (name_of s table)
written_expression s (t.Add a b) = f.Binary operator.Add (written_expression s a) (written_expression s b)
written_expression s (t.Sub a b) = f.Binary operator.Sub (written_expression s a) (written_expression s b)
written_expression s (t.Mul a b) = f.Binary operator.Mul (written_expression s a) (written_expression s b)
written_expression s (t.Div a b) = f.Binary operator.Div (written_expression s a) (written_expression s b)
written_expression s (t.Rem a b) = f.Binary operator.Rem (written_expression s a) (written_expression s b)

abbrev pub written_condition : Scope → Condition → Cond
written_condition s (t.Eq a b) = f.Compare comparison.Eq (written_expression s a) (written_expression s b)
written_condition s (t.Lt a b) = f.Compare comparison.Lt (written_expression s a) (written_expression s b)
written_condition s (t.Le a b) = f.Compare comparison.Le (written_expression s a) (written_expression s b)
written_condition s (t.Not c) = f.Not (written_condition s c)
written_condition s (t.And c d) = f.Connect connective.And (written_condition s c) (written_condition s d)
written_condition s (t.Or c d) = f.Connect connective.Or (written_condition s c) (written_condition s d)

abbrev mutual
  pub written_statement : Scope → Statement → Stmt
  written_statement s t.Skip = f.Skip
  written_statement s (t.Set x a) = f.Set (name_at s.variables x.0) (written_expression s a)
  written_statement s (t.Put table a b) = f.Put (name_of s table) (written_expression s a) (written_expression s b)
  written_statement s (t.Seq parts) = f.Seq (written_statements s parts)
  written_statement s (t.If c p q) = f.If (written_condition s c) (written_statement s p) (written_statement s q)
  written_statement s (t.Repeat n p) = f.Repeat (pos n) (written_statement s p)
  written_statement s t.Retry = f.Retry
  written_statement s (t.OrElse p q) = f.OrElse (written_statement s p) (written_statement s q)
  written_statement s (t.Throw a) = f.Throw (written_expression s a)

  pub written_statements : Scope → Statements → Stmts
  written_statements s t.End = NoStmts
  written_statements s (t.More p rest) = MoreStmts (written_statement s p) (written_statements s rest)

abbrev pub written_always : Scope → List ℕ × Condition → Always
written_always s a = record { name = a.0; condition = written_condition s a.1 }

abbrev pub written_transaction : Scope → Transaction → Declaration
written_transaction s t =
    record {
      name = t.name;
      parameters = t.parameters;
      body = written_statement (inside s t.parameters) t.body;
      value = written_expression (inside s t.parameters) t.result;
    }

-- a variable and its initial value, side by side
abbrev pub written_vars : List (List ℕ) → List ℤ → List Pair
written_vars (name ∷ names) (value ∷ values) = record { name = name; value = value } ∷ written_vars names values
written_vars names values = []

-- a call and how many tasks make it
abbrev pub written_run : List Transaction → Call × ℕ → Run
written_run transactions run =
    record { name = name_at (map (λ t. t.name) transactions) run.0.tx.0; count = pos run.1; arguments = run.0.arguments }

-- the names of a listing that its standing conditions know
abbrev pub scope_of : Listing → Scope
scope_of l = standing l.names (table_names l) (spans l)

abbrev pub natural : ℤ → ℕ
natural (pos n) = n
natural (negsuc n) = 0

-- what the cells of a table are at first, as it is written
abbrev pub numbers_of : Table → List ℤ
numbers_of t = if length t.others == 0 then replicate (natural t.count) t.first else t.first ∷ t.others

-- the tables of the listing, as they may be written: each with one number for all its cells, or with as many as it has cells
pub record DeclareTables (tables : List Table) (l : Listing) : Type 0 where
  pub counted : map {B = List ℕ × ℤ} (λ t. (t.name, t.count)) tables ≡ map {B = List ℕ × ℤ} (λ t. (t.0, pos t.1)) l.tables
  pub filled : map (λ (t : Table). length (numbers_of t)) tables ≡ map (λ (t : List ℕ × ℕ). t.1) l.tables
  pub begun : flat_map numbers_of tables ≡ drop (length l.names) l.initial

-- the file of a listing, in one form or another, with its tables so
unfoldable pub written_in : FileForm → List Table → Listing → File
written_in form tables l =
    record {
      form = form;
      vars = written_vars l.names l.initial;
      tables = tables;
      always = map (written_always (scope_of l)) l.always;
      txs = map (written_transaction (scope_of l)) l.transactions;
      runs = map (written_run l.transactions) l.runs;
    }

-- the first form that has room for the conditions
abbrev pub form_for_conditions : List (List ℕ × Condition) → FileForm
form_for_conditions [] = One
form_for_conditions (a ∷ always) = Two

-- a transaction with parameters
abbrev pub has_list : Transaction → Bool
has_list t = not (arity t == 0)

-- the first form that has room for the tables, the conditions and the parameters
abbrev pub form_with : List (List ℕ × ℕ) → Listing → FileForm
form_with [] l = if list_any has_list l.transactions then Three else form_for_conditions l.always
form_with (t ∷ ts) l = Three

abbrev pub form_for : Listing → FileForm
form_for l = form_with l.tables l

-- a table with one number where all its cells begin at the same, else with all
abbrev pub written_table : List ℕ × ℕ → List ℤ → Table
written_table t [] = record { name = t.0; count = pos t.1; first = pos 0; others = [] }
written_table t (v ∷ vs) = record { name = t.0; count = pos t.1; first = v; others = if list_all (int_eq v) vs then [] else vs }

-- each with its part of these numbers
abbrev pub written_tables : List (List ℕ × ℕ) → List ℤ → List Table
written_tables [] vs = []
written_tables (t ∷ ts) vs = written_table t (take t.1 vs) ∷ written_tables ts (drop t.1 vs)

-- the file as it is printed in this form
abbrev pub written : FileForm → Listing → File
written form l = written_in form (written_tables l.tables (drop (length l.names) l.initial)) l
