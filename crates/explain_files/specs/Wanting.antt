-- What is read of a file from a token on, by what is wanted there.
use Rattle.std.specs.Prelude.{ℕ, suc, ℤ, Option, None, Some, Result, Ok, Err, List, [], ◌∷◌, codes}
use Rattle.text_words.specs.Answers.{◌>>=◌}
use Rattle.text_words.specs.Tokens.{Lexeme, Opens}
use Rattle.text_words.specs.Tokens as token
use Rattle.text_words.specs.TokenReading.{Read, close_at, name_at, int_at, is_name, is_int, begins, all_of}
use Rattle.text_words.specs.declared.fault.ReadFault.{ReadFault}
use Rattle.text_grammar.specs.Tree.{Stmt, Cond}
use Rattle.text_grammar.specs.Reading.{test_of, keyword_of, compound_with, expr_at, cond_with, cond_at, stmt_with, stmt_at, seq_with, pair_at, table_at, always_at, list_at, tx_at, run_at, end_at, heading_at}
use Rattle.text_grammar.specs.declared.file.FileForm.{FileForm}
use Rattle.text_grammar.specs.declared.file.FileForm.TheVariants.{One, Two, Three}
use Rattle.explain_files.specs.declared.wanted.Section.{Section}
use Rattle.explain_files.specs.declared.wanted.Section.TheVariants as section
use Rattle.explain_files.specs.declared.wanted.Wanted.{Wanted}
use Rattle.explain_files.specs.declared.wanted.Wanted.TheVariants as want

-- the tokens left behind what is read, if it is
abbrev pub Left : Type 0
Left = Option (List Lexeme)

abbrev pub left_of : {A : Type 0} → Read A → Left
left_of (Ok x) = Some x.1
left_of (Err e) = None

abbrev pub kept : Result (List Lexeme) ReadFault → Left
kept (Ok ts) = Some ts
kept (Err e) = None

infixl 10 ◌▷◌
abbrev pub ◌▷◌ : Left → (List Lexeme → Left) → Left
None ▷ next = None
(Some ts) ▷ next = next ts

-- what is read to the end leaves nothing
abbrev pub Whole : Type 0
Whole = Result (Unit {0}) ReadFault

abbrev pub none_left : Whole → Left
none_left (Ok ended) = Some []
none_left (Err e) = None

-- ---- declarations, from one part of the file on to the end

unfoldable pub from_runs : FileForm → List Lexeme → Whole
from_runs form ts = all_of (begins (codes "run")) (run_at form) ts >>= λ runs. end_at runs.1

unfoldable pub from_txs : FileForm → List Lexeme → Whole
from_txs form ts = all_of (begins (codes "tx")) (tx_at form) ts >>= λ txs. from_runs form txs.1

unfoldable pub from_conditions : FileForm → List Lexeme → Whole
from_conditions form ts = all_of (begins (codes "always")) (always_at form) ts >>= λ always. from_txs form always.1

unfoldable pub from_tables : List Lexeme → Whole
from_tables ts = all_of (begins (codes "table")) table_at ts >>= λ tables. from_conditions Three tables.1

-- form 1 has no conditions, and only form 3 has tables
abbrev pub behind_variables : FileForm → List Lexeme → Whole
behind_variables One ts = from_txs One ts
behind_variables Two ts = from_conditions Two ts
behind_variables Three ts = from_tables ts

unfoldable pub from_variables : FileForm → List Lexeme → Whole
from_variables form ts = all_of (begins (codes "var")) (pair_at (codes "var")) ts >>= λ vars. behind_variables form vars.1

unfoldable pub from_start : List Lexeme → Whole
from_start ts = heading_at ts >>= λ heading. from_variables heading.0 heading.1

abbrev pub from_part : Section → List Lexeme → Whole
from_part section.Start ts = from_start ts
from_part (section.Variables form) ts = from_variables form ts
from_part section.Tables ts = from_tables ts
from_part (section.Conditions form) ts = from_conditions form ts
from_part (section.Transactions form) ts = from_txs form ts
from_part (section.Runs form) ts = from_runs form ts

-- ---- what is wanted

unfoldable pub read_test : FileForm → ℕ → List Lexeme → Read Cond
read_test form depth ts = do
  word ← name_at ts
  kind ← test_of word.0
  cond_with (expr_at form depth) (cond_at form depth) kind word.1

unfoldable pub read_keyword : FileForm → ℕ → List Lexeme → Read Stmt
read_keyword form depth ts = do
  word ← name_at ts
  kind ← keyword_of form word.0
  stmt_with (expr_at form depth) (cond_at form depth) (stmt_at form depth) kind word.1

-- the names of a list, and its closing parenthesis
unfoldable pub read_parameters : List Lexeme → Read (List (List ℕ))
read_parameters ts = do
  names ← all_of is_name name_at ts
  rest ← close_at names.1
  Ok (names.0, rest)

-- numbers, and a closing parenthesis
unfoldable pub read_numbers : List Lexeme → Read (List ℤ)
read_numbers ts = do
  numbers ← all_of is_int int_at ts
  rest ← close_at numbers.1
  Ok (numbers.0, rest)

abbrev pub read_one : Wanted → List Lexeme → Left
read_one (want.Declarations part) ts = none_left (from_part part ts)
read_one (want.Word part) ts = none_left (from_part part (Opens ∷ ts))
read_one want.FormNumber ts = none_left (from_start (Opens ∷ token.Name (codes "stm") ∷ ts))
read_one want.Close ts = kept (close_at ts)
read_one (want.Name used) ts = left_of (name_at ts)
read_one (want.Number used) ts = left_of (int_at ts)
read_one (want.Expr form depth) ts = left_of (expr_at form depth ts)
read_one (want.Head form depth) ts = left_of (compound_with form (expr_at form depth) ts)
read_one (want.Cond form depth) ts = left_of (cond_at form (suc depth) ts)
read_one (want.Test form depth) ts = left_of (read_test form depth ts)
read_one (want.Stmt form depth) ts = left_of (stmt_at form (suc depth) ts)
read_one (want.Keyword form depth) ts = left_of (read_keyword form depth ts)
read_one (want.Parts form depth) ts = left_of (seq_with (stmt_at form depth) ts)
read_one want.List ts = left_of (list_at ts)
read_one want.Parameters ts = left_of (read_parameters ts)
read_one (want.Numbers used) ts = left_of (read_numbers ts)

-- what is wanted in turn, the next of it first
abbrev pub read_all : List Wanted → List Lexeme → Left
read_all [] ts = Some ts
read_all (wanted ∷ more) ts = read_one wanted ts ▷ read_all more

-- what was wanted before, and on top of it what is wanted now, the next of it last
abbrev pub onto : List Wanted → List Wanted → List Wanted
onto [] below = below
onto (wanted ∷ more) below = onto more (wanted ∷ below)
