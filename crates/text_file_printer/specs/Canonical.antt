-- The canonical text: one form a line, one space between two tokens, but none after ( and none before ).
use Rattle.std.specs.Prelude.{ℕ, ℤ, Bool, List, [], ◌∷◌, ◌++◌, codes, length, nat_le, if◌then◌else◌}
use Rattle.std.specs.Fmt.{signed_decimal}
use Rattle.std.specs.List.{flat_map}
use Rattle.txn_programs.specs.Listing.{Listing}
use Rattle.text_grammar.specs.Tree.{Expr, Int, Name, At, OfAll, Binary, Cond, Compare, Not, Connect, Argument, Number, Parameter, Stmt, Skip, Set, Put, Seq, If, Repeat, Retry, OrElse, Throw, Call, Stmts, NoStmts, MoreStmts, Pair, Table, Always, Declaration, Run, File, longest, operator_word, fold_word, comparison_word, connective_word, keyword_word}
use Rattle.text_grammar.specs.declared.words.Keyword.TheVariants as keyword
use Rattle.text_grammar.specs.declared.file.FileForm.{FileForm}
use Rattle.text_grammar.specs.declared.file.FileForm.TheVariants.{One, Two, Three}
use Rattle.text_grammar.specs.Written.{form_for, written}

-- a word in parentheses, with its parts behind it
abbrev pub form_text : List ℕ → List ℕ → List ℕ
form_text word parts = codes "(" ++ (word ++ (parts ++ codes ")"))

-- a part, behind a space
abbrev pub spaced : List ℕ → List ℕ
spaced part = codes " " ++ part

abbrev pub expr_text : Expr → List ℕ
expr_text (Int value) = signed_decimal value
expr_text (Name name) = name
expr_text (At table index) = form_text (codes "at") (spaced table ++ spaced (expr_text index))
expr_text (OfAll fold table) = form_text (fold_word fold) (spaced table)
expr_text (Binary op left right) = form_text (operator_word op) (spaced (expr_text left) ++ spaced (expr_text right))

abbrev pub cond_text : Cond → List ℕ
cond_text (Compare op left right) = form_text (comparison_word op) (spaced (expr_text left) ++ spaced (expr_text right))
cond_text (Not inner) = form_text (codes "not") (spaced (cond_text inner))
cond_text (Connect op left right) = form_text (connective_word op) (spaced (cond_text left) ++ spaced (cond_text right))

abbrev pub argument_text : Argument → List ℕ
argument_text (Number value) = signed_decimal value
argument_text (Parameter name) = name

-- an argument behind a space
abbrev pub spaced_argument : Argument → List ℕ
spaced_argument given = spaced (argument_text given)

abbrev mutual
  pub stmt_text : Stmt → List ℕ
  stmt_text Skip = form_text (keyword_word keyword.Skip) []
  stmt_text (Set name value) = form_text (keyword_word keyword.Set) (spaced name ++ spaced (expr_text value))
  stmt_text (Put table index value) = form_text (keyword_word keyword.Put) (spaced table ++ (spaced (expr_text index) ++ spaced (expr_text value)))
  stmt_text (Seq parts) = form_text (keyword_word keyword.Seq) (stmts_text parts)
  stmt_text (If test first second) = form_text (keyword_word keyword.If) (spaced (cond_text test) ++ (spaced (stmt_text first) ++ spaced (stmt_text second)))
  stmt_text (Repeat count body) = form_text (keyword_word keyword.Repeat) (spaced (signed_decimal count) ++ spaced (stmt_text body))
  stmt_text Retry = form_text (keyword_word keyword.Retry) []
  stmt_text (OrElse first second) = form_text (keyword_word keyword.OrElse) (spaced (stmt_text first) ++ spaced (stmt_text second))
  stmt_text (Throw value) = form_text (keyword_word keyword.Throw) (spaced (expr_text value))
  stmt_text (Call name arguments) = form_text (codes "call") (spaced name ++ flat_map spaced_argument arguments)

  -- each statement behind a space
  pub stmts_text : Stmts → List ℕ
  stmts_text NoStmts = []
  stmts_text (MoreStmts first others) = spaced (stmt_text first) ++ stmts_text others

-- a variable on a line
abbrev pub pair_line : List ℕ → Pair → List ℕ
pair_line word p = form_text word (spaced p.name ++ spaced (signed_decimal p.value)) ++ codes "\n"

-- an integer behind a space
abbrev pub spaced_integer : ℤ → List ℕ
spaced_integer value = spaced (signed_decimal value)

-- the numbers that are told of a table's cells
abbrev pub numbers_told : Table → List ℤ
numbers_told t = t.first ∷ t.others

-- a table on a line
abbrev pub table_line : Table → List ℕ
table_line t = form_text (codes "table") (spaced t.name ++ (spaced_integer t.count ++ flat_map spaced_integer (numbers_told t))) ++ codes "\n"

-- a condition that has to stand, on a line
abbrev pub always_line : Always → List ℕ
always_line a = form_text (codes "always") (spaced a.name ++ spaced (cond_text a.condition)) ++ codes "\n"

-- names in parentheses
abbrev pub names_text : List (List ℕ) → List ℕ
names_text [] = codes "()"
names_text (name ∷ names) = form_text name (flat_map spaced names)

-- parameters, of which only form 3 has a list
abbrev pub list_text : FileForm → List (List ℕ) → List ℕ
list_text One names = []
list_text Two names = []
list_text Three names = spaced (names_text names)

-- a transaction, on a line
abbrev pub tx_line : FileForm → Declaration → List ℕ
tx_line announced t =
    form_text (codes "tx") (spaced t.name ++ (list_text announced t.parameters ++ (spaced (stmt_text t.body) ++ spaced (expr_text t.value)))) ++ codes "\n"

-- a run, on a line
abbrev pub run_line : Run → List ℕ
run_line r = form_text (codes "run") (spaced r.name ++ (spaced_integer r.count ++ flat_map spaced_integer r.arguments)) ++ codes "\n"

-- forms 2 and 3 say so on a line, form 1 says nothing
abbrev pub heading_text : FileForm → List ℕ
heading_text One = []
heading_text Two = codes "(stm 2)\n"
heading_text Three = codes "(stm 3)\n"

-- the form, then the variables, then the tables, then the conditions, then the transactions, then the runs
abbrev pub text_of : File → List ℕ
text_of f =
    heading_text f.form ++ (flat_map (pair_line (codes "var")) f.vars ++ (flat_map table_line f.tables
    ++ (flat_map always_line f.always ++ (flat_map (tx_line f.form) f.txs ++ flat_map run_line f.runs))))

-- the text of a listing in this form
abbrev pub text_in : FileForm → Listing → List ℕ
text_in form l = text_of (written form l)

-- no longer than a file that begins so may be
abbrev pub is_short_enough : List ℕ → Bool
is_short_enough text = nat_le (length text) (longest text)

-- the first form that has room for the tables, the conditions and the parameters, but form 3 where the text in that one is too long
unfoldable pub form_told : Listing → FileForm
form_told l = if is_short_enough (text_in (form_for l) l) then form_for l else Three

abbrev pub file_text : Listing → List ℕ
file_text l = text_in (form_told l) l
