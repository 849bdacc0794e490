-- What is wanted behind a token, where the token may stand there: what is put on the stack, the next of it last.
use Rattle.std.specs.Prelude.{ℕ, ℤ, ◌-◌, ◌==◌, Bool, true, false, if◌then◌else◌, ◌≡◌, ◌++◌, Option, Some, None, List, [], ◌∷◌, codes}
use Rattle.std.specs.Result.{result_ok}
use Rattle.std.specs.Str.{bytes_eq}
use Rattle.text_words.specs.Tokens.{Lexeme, Opens, Closes}
use Rattle.text_words.specs.Tokens as token
use Rattle.text_grammar.specs.Reading.{head_of, test_of, keyword_of, form_numbered}
use Rattle.text_grammar.specs.declared.words.Head.{Head}
use Rattle.text_grammar.specs.declared.words.Head.TheVariants as head
use Rattle.text_grammar.specs.declared.words.Test.{Test}
use Rattle.text_grammar.specs.declared.words.Test.TheVariants as test
use Rattle.text_grammar.specs.declared.words.Keyword.{Keyword}
use Rattle.text_grammar.specs.declared.words.Keyword.TheVariants as keyword
use Rattle.text_grammar.specs.declared.file.FileForm.{FileForm}
use Rattle.text_grammar.specs.declared.file.FileForm.TheVariants.{One, Two, Three}
use Rattle.explain_files.specs.declared.wanted.NameUse.TheVariants as name
use Rattle.explain_files.specs.declared.wanted.NumberUse.TheVariants as number
use Rattle.explain_files.specs.declared.wanted.Kind.{Kind}
use Rattle.explain_files.specs.declared.wanted.Kind.TheVariants as kind
use Rattle.explain_files.specs.declared.wanted.Section.{Section}
use Rattle.explain_files.specs.declared.wanted.Section.TheVariants as section
use Rattle.explain_files.specs.declared.wanted.Wanted.{Wanted}
use Rattle.explain_files.specs.declared.wanted.Wanted.TheVariants as want

abbrev pub Wants : Type 0
Wants = Option (List Wanted)

-- ---- expressions, conditions and statements of a file of this form, with this many more parentheses inside

abbrev pub behind_head : FileForm → ℕ → Option Head → Wants
behind_head form depth (Some (head.Operates op)) = Some (want.Close ∷ want.Expr form depth ∷ want.Expr form depth ∷ [])
behind_head form depth (Some head.Picks) = Some (want.Close ∷ want.Expr form depth ∷ want.Name name.Cells ∷ [])
behind_head form depth (Some (head.Folds fold)) = Some (want.Close ∷ want.Name name.Cells ∷ [])
behind_head form depth None = None

-- where one more parenthesis may be open inside
abbrev pub deeper : ℕ → List Wanted → Wants
deeper depth more = if depth == 0 then None else Some more

abbrev pub behind_test : FileForm → ℕ → Option Test → Wants
behind_test form depth (Some (test.Compares op)) = Some (want.Close ∷ want.Expr form depth ∷ want.Expr form depth ∷ [])
behind_test form depth (Some test.Negates) = deeper depth (want.Close ∷ want.Cond form (depth - 1) ∷ [])
behind_test form depth (Some (test.Connects op)) =
    deeper depth (want.Close ∷ want.Cond form (depth - 1) ∷ want.Cond form (depth - 1) ∷ [])
behind_test form depth None = None

abbrev pub behind_keyword : FileForm → ℕ → Option Keyword → Wants
behind_keyword form depth (Some keyword.Skip) = Some (want.Close ∷ [])
behind_keyword form depth (Some keyword.Set) = Some (want.Close ∷ want.Expr form depth ∷ want.Name name.Target ∷ [])
behind_keyword form depth (Some keyword.Put) =
    Some (want.Close ∷ want.Expr form depth ∷ want.Expr form depth ∷ want.Name name.Cells ∷ [])
behind_keyword form depth (Some keyword.Seq) = Some (want.Parts form depth ∷ [])
behind_keyword form depth (Some keyword.If) =
    deeper depth (want.Close ∷ want.Stmt form (depth - 1) ∷ want.Stmt form (depth - 1) ∷ want.Cond form (depth - 1) ∷ [])
behind_keyword form depth (Some keyword.Repeat) =
    deeper depth (want.Close ∷ want.Stmt form (depth - 1) ∷ want.Number number.Turns ∷ [])
behind_keyword form depth (Some keyword.Retry) = Some (want.Close ∷ [])
behind_keyword form depth (Some keyword.OrElse) =
    deeper depth (want.Close ∷ want.Stmt form (depth - 1) ∷ want.Stmt form (depth - 1) ∷ [])
behind_keyword form depth (Some keyword.Throw) = Some (want.Close ∷ want.Expr form depth ∷ [])
behind_keyword form depth None = None

-- ---- declarations

abbrev pub kind_of : List ℕ → Option Kind
kind_of word =
    if bytes_eq word (codes "var") then Some kind.Variable
    else (if bytes_eq word (codes "table") then Some kind.Table
    else (if bytes_eq word (codes "always") then Some kind.Condition
    else (if bytes_eq word (codes "tx") then Some kind.Transaction
    else (if bytes_eq word (codes "run") then Some kind.Run
    else None))))

-- the form of the file, as far as it is known there
abbrev pub form_in : Section → FileForm
form_in section.Start = One
form_in (section.Variables form) = form
form_in section.Tables = Three
form_in (section.Conditions form) = form
form_in (section.Transactions form) = form
form_in (section.Runs form) = form

-- tables stand behind variables in form 3 alone
abbrev pub tables_in : FileForm → Option Section
tables_in One = None
tables_in Two = None
tables_in Three = Some section.Tables

-- conditions stand behind them, but not in form 1
abbrev pub conditions_in : FileForm → Option Section
conditions_in One = None
conditions_in Two = Some (section.Conditions Two)
conditions_in Three = Some (section.Conditions Three)

-- where one of this kind may stand, the part of the file behind it
abbrev pub part_behind : Section → Kind → Option Section
part_behind section.Start kind.Variable = Some (section.Variables One)
part_behind section.Start kind.Table = None
part_behind section.Start kind.Condition = None
part_behind (section.Variables form) kind.Variable = Some (section.Variables form)
part_behind (section.Variables form) kind.Table = tables_in form
part_behind (section.Variables form) kind.Condition = conditions_in form
part_behind section.Tables kind.Variable = None
part_behind section.Tables kind.Table = Some section.Tables
part_behind section.Tables kind.Condition = Some (section.Conditions Three)
part_behind (section.Conditions form) kind.Variable = None
part_behind (section.Conditions form) kind.Table = None
part_behind (section.Conditions form) kind.Condition = Some (section.Conditions form)
part_behind (section.Transactions form) kind.Variable = None
part_behind (section.Transactions form) kind.Table = None
part_behind (section.Transactions form) kind.Condition = None
part_behind (section.Runs form) kind.Variable = None
part_behind (section.Runs form) kind.Table = None
part_behind (section.Runs form) kind.Condition = None
part_behind (section.Runs form) kind.Transaction = None
part_behind part kind.Transaction = Some (section.Transactions (form_in part))
part_behind part kind.Run = Some (section.Runs (form_in part))

-- a transaction behind its word
abbrev pub tx_wants : FileForm → List Wanted
tx_wants One = want.Expr One 31 ∷ want.Stmt One 30 ∷ want.Name name.Transaction ∷ []
tx_wants Two = want.Expr Two 31 ∷ want.Stmt Two 30 ∷ want.Name name.Transaction ∷ []
tx_wants Three = want.Expr Three 31 ∷ want.Stmt Three 30 ∷ want.List ∷ want.Name name.Transaction ∷ []

-- behind the count of a run
abbrev pub run_end : FileForm → Wanted
run_end One = want.Close
run_end Two = want.Close
run_end Three = want.Numbers number.Argument

abbrev pub within : Section → Kind → List Wanted
within part kind.Variable = want.Declarations part ∷ want.Close ∷ want.Number number.Initial ∷ want.Name name.Variable ∷ []
within part kind.Table =
    want.Declarations part ∷ want.Numbers number.Cell ∷ want.Number number.Cell ∷ want.Number number.Length
    ∷ want.Name name.Table ∷ []
within part kind.Condition = want.Declarations part ∷ want.Close ∷ want.Cond (form_in part) 30 ∷ want.Name name.Condition ∷ []
within part kind.Transaction = want.Declarations part ∷ want.Close ∷ tx_wants (form_in part)
within part kind.Run = want.Declarations part ∷ run_end (form_in part) ∷ want.Number number.Tasks ∷ want.Name name.Called ∷ []

abbrev pub behind_part : Kind → Option Section → Wants
behind_part k None = None
behind_part k (Some part) = Some (within part k)

abbrev pub behind_kind : Section → Option Kind → Wants
behind_kind part None = None
behind_kind part (Some k) = behind_part k (part_behind part k)

-- a form is announced first of all
abbrev pub behind_stm : Section → Wants
behind_stm section.Start = Some (want.FormNumber ∷ [])
behind_stm (section.Variables form) = None
behind_stm section.Tables = None
behind_stm (section.Conditions form) = None
behind_stm (section.Transactions form) = None
behind_stm (section.Runs form) = None

abbrev pub behind_declared : Section → List ℕ → Wants
behind_declared part word = if bytes_eq word (codes "stm") then behind_stm part else behind_kind part (kind_of word)

-- behind the number of a form
abbrev pub behind_form : Option FileForm → Wants
behind_form (Some form) = Some (want.Declarations (section.Variables form) ∷ want.Close ∷ [])
behind_form None = None

-- ---- tokens

-- what is wanted in place of this, behind a word
abbrev pub behind_word : Wanted → List ℕ → Wants
behind_word (want.Word part) word = behind_declared part word
behind_word (want.Name used) word = Some []
behind_word (want.Expr form depth) word = Some []
behind_word want.Parameters word = Some (want.Parameters ∷ [])
behind_word (want.Head form depth) word = behind_head form depth (result_ok (head_of form word))
behind_word (want.Test form depth) word = behind_test form depth (result_ok (test_of word))
behind_word (want.Keyword form depth) word = behind_keyword form depth (result_ok (keyword_of form word))
behind_word (want.Declarations part) word = None
behind_word want.FormNumber word = None
behind_word want.Close word = None
behind_word (want.Number used) word = None
behind_word (want.Cond form depth) word = None
behind_word (want.Stmt form depth) word = None
behind_word (want.Parts form depth) word = None
behind_word want.List word = None
behind_word (want.Numbers used) word = None

-- behind an integer
abbrev pub behind_int : Wanted → ℤ → Wants
behind_int want.FormNumber value = behind_form (result_ok (form_numbered value))
behind_int (want.Number used) value = Some []
behind_int (want.Expr form depth) value = Some []
behind_int (want.Numbers used) value = Some (want.Numbers used ∷ [])
behind_int (want.Word part) value = None
behind_int (want.Name used) value = None
behind_int (want.Head form depth) value = None
behind_int (want.Test form depth) value = None
behind_int (want.Keyword form depth) value = None
behind_int (want.Declarations part) value = None
behind_int want.Close value = None
behind_int (want.Cond form depth) value = None
behind_int (want.Stmt form depth) value = None
behind_int (want.Parts form depth) value = None
behind_int want.List value = None
behind_int want.Parameters value = None

-- behind an opening parenthesis
abbrev pub behind_open : Wanted → Wants
behind_open (want.Declarations part) = Some (want.Word part ∷ [])
behind_open (want.Expr form depth) = deeper depth (want.Head form (depth - 1) ∷ [])
behind_open (want.Cond form depth) = Some (want.Test form depth ∷ [])
behind_open (want.Stmt form depth) = Some (want.Keyword form depth ∷ [])
behind_open (want.Parts form depth) = deeper depth (want.Parts form depth ∷ want.Keyword form (depth - 1) ∷ [])
behind_open want.List = Some (want.Parameters ∷ [])
behind_open want.FormNumber = None
behind_open (want.Number used) = None
behind_open (want.Word part) = None
behind_open (want.Name used) = None
behind_open (want.Head form depth) = None
behind_open (want.Test form depth) = None
behind_open (want.Keyword form depth) = None
behind_open want.Close = None
behind_open want.Parameters = None
behind_open (want.Numbers used) = None

-- behind a closing one
abbrev pub behind_close : Wanted → Wants
behind_close want.Close = Some []
behind_close (want.Parts form depth) = Some []
behind_close want.Parameters = Some []
behind_close (want.Numbers used) = Some []
behind_close (want.Declarations part) = None
behind_close (want.Expr form depth) = None
behind_close (want.Cond form depth) = None
behind_close (want.Stmt form depth) = None
behind_close want.FormNumber = None
behind_close (want.Number used) = None
behind_close (want.Word part) = None
behind_close (want.Name used) = None
behind_close (want.Head form depth) = None
behind_close (want.Test form depth) = None
behind_close (want.Keyword form depth) = None
behind_close want.List = None

unfoldable pub behind : Wanted → Lexeme → Wants
behind wanted Opens = behind_open wanted
behind wanted Closes = behind_close wanted
behind wanted (token.Name word) = behind_word wanted word
behind wanted (token.Int value) = behind_int wanted value
behind wanted token.Other = None

-- the token stood there, and this is wanted now; or it did not
abbrev pub Puts : Bool → List Wanted → List Wanted → Wants → Type 0
Puts true old new (Some more) = new ≡ old ++ more
Puts true old new None = ⊥
Puts false old new (Some more) = ⊥
Puts false old new None = Unit {0}
