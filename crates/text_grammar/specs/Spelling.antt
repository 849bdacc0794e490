-- Which listing the bytes of a file spell, and which fault is the first where they spell none.
use Rattle.std.specs.Prelude.{◌≡◌, ℕ, Bool, true, ◌&&◌, if◌then◌else◌, Option, Some, None, Result, Ok, Err, List, length}
use Rattle.std.specs.List.{list_all}
use Rattle.txn_programs.specs.Arithmetic.{fits}
use Rattle.txn_programs.specs.Tree.{Expression, Condition, Statement, Statements, Transaction}
use Rattle.txn_programs.specs.Tree as t
use Rattle.txn_programs.specs.Listing.{Listing, values, conditions}
use Rattle.txn_programs.specs.declared.arguments.Call.{Call}
use Rattle.txn_programs.specs.Standing.{upholds}
use Rattle.txn_programs.specs.Names.{names_hold}
use Rattle.txn_programs.specs.Limits.{limits_hold}
use Rattle.text_grammar.specs.Tree.{Table, SpellsTree}
use Rattle.text_grammar.specs.Written.{DeclareTables, written_in}
use Rattle.text_words.specs.Answers.{◌>>=◌}
use Rattle.text_grammar.specs.Reading.{tree_of}
use Rattle.text_grammar.specs.Resolving.{resolved}
use Rattle.text_words.specs.declared.fault.ReadFault.{ReadFault}
use Rattle.text_words.specs.declared.fault.ReadFault.TheVariants.{Name, Limit, Broken}
use Rattle.text_grammar.specs.declared.file.FileForm.{FileForm}

-- each integer is one of 64 signed bits
abbrev pub expression_integers : Expression → Bool
expression_integers (t.Int n) = fits n
expression_integers (t.Var x) = true
expression_integers (t.Param p) = true
expression_integers (t.Cell table a) = expression_integers a
expression_integers (t.OfAll fold table) = true
expression_integers (t.Add a b) = expression_integers a && expression_integers b
expression_integers (t.Sub a b) = expression_integers a && expression_integers b
expression_integers (t.Mul a b) = expression_integers a && expression_integers b
expression_integers (t.Div a b) = expression_integers a && expression_integers b
expression_integers (t.Rem a b) = expression_integers a && expression_integers b

abbrev pub condition_integers : Condition → Bool
condition_integers (t.Eq a b) = expression_integers a && expression_integers b
condition_integers (t.Lt a b) = expression_integers a && expression_integers b
condition_integers (t.Le a b) = expression_integers a && expression_integers b
condition_integers (t.Not c) = condition_integers c
condition_integers (t.And c d) = condition_integers c && condition_integers d
condition_integers (t.Or c d) = condition_integers c && condition_integers d

abbrev mutual
  pub statement_integers : Statement → Bool
  statement_integers t.Skip = true
  statement_integers (t.Set x a) = expression_integers a
  statement_integers (t.Put table a b) = expression_integers a && expression_integers b
  statement_integers (t.Seq parts) = statements_integers parts
  statement_integers (t.If c p q) = condition_integers c && (statement_integers p && statement_integers q)
  statement_integers (t.Repeat n p) = statement_integers p
  statement_integers t.Retry = true
  statement_integers (t.OrElse p q) = statement_integers p && statement_integers q
  statement_integers (t.Throw a) = expression_integers a

  pub statements_integers : Statements → Bool
  statements_integers t.End = true
  statements_integers (t.More p rest) = statement_integers p && statements_integers rest

abbrev pub transaction_integers : Transaction → Bool
transaction_integers t = statement_integers t.body && expression_integers t.result

abbrev pub run_integers : Call × ℕ → Bool
run_integers run = list_all fits run.0.arguments

unfoldable pub integers_fit : Listing → Bool
integers_fit l =
    list_all fits l.initial && (list_all condition_integers (conditions l) && (list_all transaction_integers l.transactions
    && list_all run_integers l.runs))

-- the bytes spell a file that declares the listing, whose names, limits and integers hold
pub record Declares (bytes : List ℕ) (l : Listing) : Type 0 where
  pub form : FileForm
  pub tables : List Table
  pub spelled : SpellsTree bytes (written_in form tables l)
  pub tabled : DeclareTables tables l
  -- each variable and each cell has one initial value
  pub valued : length l.initial ≡ values l
  pub names : names_hold l ≡ true
  pub limits : limits_hold l ≡ true
  pub integers : integers_fit l ≡ true

-- and each standing condition is true of the initial values
pub record Spells (bytes : List ℕ) (l : Listing) : Type 0 where
  pub declared : Declares bytes l
  pub upheld : upholds l l.initial ≡ true

-- ---- the same, read from left to right

abbrev pub lawful : Listing → Result Listing ReadFault
lawful l = if names_hold l then (if limits_hold l then (if upholds l l.initial then Ok l else Err Broken) else Err Limit) else Err Name

-- what the bytes are read as: first the tree of all of them, then its names, then its numbers and limits, then its conditions
unfoldable pub listing_at : List ℕ → Result Listing ReadFault
listing_at bytes = tree_of bytes >>= λ f. resolved f >>= λ l. lawful l

abbrev pub fault_in : Result Listing ReadFault → Option ReadFault
fault_in (Ok l) = None
fault_in (Err e) = Some e

-- the first kind of fault, where there is one
abbrev pub first_fault : List ℕ → Option ReadFault
first_fault bytes = fault_in (listing_at bytes)
