-- What each token of a file is for, by the form of the file and the tokens before it, the nearest of them first.
use Rattle.std.specs.Prelude.{ℕ, Bool, ◌||◌, List, [], ◌∷◌, Ok, Err, if◌then◌else◌, codes}
use Rattle.std.specs.Str.{bytes_eq}
use Rattle.text_words.specs.Tokens.{Lexeme, Opens, Closes}
use Rattle.text_words.specs.Tokens as token
use Rattle.text_words.specs.TokenReading.{Read}
use Rattle.text_grammar.specs.Reading.{heading_at}
use Rattle.text_grammar.specs.declared.file.FileForm.{FileForm}
use Rattle.text_grammar.specs.declared.file.FileForm.TheVariants.{One, Two, Three}
use Rattle.explain_files.specs.declared.wanted.NameUse.TheVariants as name
use Rattle.explain_files.specs.declared.wanted.NumberUse.TheVariants as number
use Rattle.explain_files.specs.declared.wanted.Role.{Role}
use Rattle.explain_files.specs.declared.wanted.Role.TheVariants as role

-- the words behind which a table is named
abbrev pub names_cells : List ℕ → Bool
names_cells word =
    bytes_eq word (codes "at") || (bytes_eq word (codes "sum") || (bytes_eq word (codes "min")
    || (bytes_eq word (codes "max") || bytes_eq word (codes "put"))))

-- behind the word of a parenthesis
abbrev pub role_of_word : List ℕ → Role
role_of_word word =
    if bytes_eq word (codes "var") then role.Name name.Variable
    else (if bytes_eq word (codes "table") then role.Name name.Table
    else (if bytes_eq word (codes "always") then role.Name name.Condition
    else (if bytes_eq word (codes "tx") then role.Name name.Transaction
    else (if bytes_eq word (codes "set") then role.Name name.Target
    else (if names_cells word then role.Name name.Cells
    else (if bytes_eq word (codes "run") then role.Name name.Called
    else (if bytes_eq word (codes "repeat") then role.Number number.Turns
    else role.Value)))))))

-- behind the name of a transaction, which has a list of parameters in form 3 alone
abbrev pub role_of_list : FileForm → Role
role_of_list One = role.Value
role_of_list Two = role.Value
role_of_list Three = role.List

-- behind a name: a number follows that of a variable or a table that is declared, and that of a transaction that is run
abbrev pub role_behind_name : FileForm → Role → List ℕ → Role
role_behind_name form role.Word word = role_of_word word
role_behind_name form (role.Name name.Variable) named = role.Number number.Initial
role_behind_name form (role.Name name.Table) named = role.Number number.Length
role_behind_name form (role.Name name.Called) named = role.Number number.Tasks
role_behind_name form (role.Name name.Condition) named = role.Value
role_behind_name form (role.Name name.Transaction) named = role_of_list form
role_behind_name form (role.Name name.Parameter) named = role.Name name.Parameter
role_behind_name form (role.Name name.Target) named = role.Value
role_behind_name form (role.Name name.Cells) named = role.Value
role_behind_name form (role.Number used) named = role.Value
role_behind_name form role.List named = role.Value
role_behind_name form role.Value named = role.Value

-- behind a number: values follow the length of a table, and arguments the count of a run
abbrev pub role_behind_number : Role → Role
role_behind_number (role.Number number.Tasks) = role.Number number.Argument
role_behind_number (role.Number number.Argument) = role.Number number.Argument
role_behind_number (role.Number number.Length) = role.Number number.Cell
role_behind_number (role.Number number.Cell) = role.Number number.Cell
role_behind_number (role.Number number.Initial) = role.Value
role_behind_number (role.Number number.Turns) = role.Value
role_behind_number (role.Name used) = role.Value
role_behind_number role.Word = role.Value
role_behind_number role.List = role.Value
role_behind_number role.Value = role.Value

-- behind an opening parenthesis: a word, but for parameters
abbrev pub role_inside : Role → Role
role_inside role.List = role.Name name.Parameter
role_inside role.Word = role.Word
role_inside (role.Name used) = role.Word
role_inside (role.Number used) = role.Word
role_inside role.Value = role.Word

-- behind a token, which was for this
abbrev pub role_behind : FileForm → Role → Lexeme → Role
role_behind form was Opens = role_inside was
role_behind form was (token.Name text) = role_behind_name form was text
role_behind form was (token.Int value) = role_behind_number was
role_behind form was Closes = role.Value
role_behind form was token.Other = role.Value

abbrev pub role_at : FileForm → List Lexeme → Role
role_at form [] = role.Value
role_at form (t ∷ before) = role_behind form (role_at form before) t

-- the form that is read; form 1, where none is
abbrev pub form_read : Read FileForm → FileForm
form_read (Ok heading) = heading.0
form_read (Err e) = One

-- the form that the tokens announce
abbrev pub form_of : List Lexeme → FileForm
form_of ts = form_read (heading_at ts)
