-- Reading tokens from left to right by the grammar, each step with what it reads and the tokens left.
use Rattle.std.specs.Prelude.{ℕ, zero, suc, ℤ, pos, ◌&&◌, Result, Ok, Err, List, [], ◌∷◌, length, codes, nat_lt, if◌then◌else◌}
use Rattle.std.specs.Ordering.{int_eq}
use Rattle.std.specs.Str.{bytes_eq}
use Rattle.std.specs.List.{list_all}
use Rattle.text_words.specs.Answers.{◌>>=◌}
use Rattle.text_words.specs.TokenReading.{Read, open_at, close_at, name_at, int_at, is_open, is_name, is_int, word_at, form_at, begins, next_at, all_of}
use Rattle.text_words.specs.Bytes.{is_allowed}
use Rattle.text_words.specs.Tokens.{Lexeme, Opens, Closes, tokens}
use Rattle.text_words.specs.Tokens as token
use Rattle.txn_programs.specs.declared.ast.Fold.{Fold}
use Rattle.txn_programs.specs.declared.ast.Fold.TheVariants as fold
use Rattle.text_grammar.specs.Tree.{Expr, Cond, Stmt, Stmts, NoStmts, MoreStmts, Pair, Table, Always, Declaration, Run, File, has_tables}
use Rattle.text_grammar.specs.Tree as tree
use Rattle.text_grammar.specs.declared.words.Operator.{Operator}
use Rattle.text_grammar.specs.declared.words.Operator.TheVariants as operator
use Rattle.text_grammar.specs.declared.words.Head.{Head}
use Rattle.text_grammar.specs.declared.words.Head.TheVariants as head
use Rattle.text_grammar.specs.declared.words.Comparison.TheVariants as comparison
use Rattle.text_grammar.specs.declared.words.Connective.TheVariants as connective
use Rattle.text_grammar.specs.declared.words.Test.{Test}
use Rattle.text_grammar.specs.declared.words.Test.TheVariants as test
use Rattle.text_grammar.specs.declared.words.Keyword.{Keyword}
use Rattle.text_grammar.specs.declared.words.Keyword.TheVariants as keyword
use Rattle.text_grammar.specs.declared.file.FileForm.{FileForm}
use Rattle.text_grammar.specs.declared.file.FileForm.TheVariants.{One, Two, Three}
use Rattle.text_words.specs.declared.fault.ReadFault.{ReadFault}
use Rattle.text_words.specs.declared.fault.ReadFault.TheVariants.{TooLong, BadByte, Shape}

-- ---- words

abbrev pub operator_of : List ℕ → Result Operator ReadFault
operator_of word =
    if bytes_eq word (codes "add") then Ok operator.Add
    else (if bytes_eq word (codes "sub") then Ok operator.Sub
    else (if bytes_eq word (codes "mul") then Ok operator.Mul
    else (if bytes_eq word (codes "div") then Ok operator.Div
    else (if bytes_eq word (codes "rem") then Ok operator.Rem
    else Err Shape))))

abbrev pub fold_of : List ℕ → Result Fold ReadFault
fold_of word =
    if bytes_eq word (codes "sum") then Ok fold.Sum
    else (if bytes_eq word (codes "min") then Ok fold.Min
    else (if bytes_eq word (codes "max") then Ok fold.Max
    else Err Shape))

-- what names a table begins so
abbrev pub table_head_of : List ℕ → Result Head ReadFault
table_head_of word = if bytes_eq word (codes "at") then Ok head.Picks else (fold_of word >>= λ f. Ok (head.Folds f))

-- an operator, or else a word of tables where there can be any
abbrev pub operator_or : Result Operator ReadFault → Result Head ReadFault → Result Head ReadFault
operator_or (Ok op) other = Ok (head.Operates op)
operator_or (Err e) other = other

abbrev pub head_of : FileForm → List ℕ → Result Head ReadFault
head_of announced word = operator_or (operator_of word) (if has_tables announced then table_head_of word else Err Shape)

abbrev pub test_of : List ℕ → Result Test ReadFault
test_of word =
    if bytes_eq word (codes "eq") then Ok (test.Compares comparison.Eq)
    else (if bytes_eq word (codes "lt") then Ok (test.Compares comparison.Lt)
    else (if bytes_eq word (codes "le") then Ok (test.Compares comparison.Le)
    else (if bytes_eq word (codes "not") then Ok test.Negates
    else (if bytes_eq word (codes "and") then Ok (test.Connects connective.And)
    else (if bytes_eq word (codes "or") then Ok (test.Connects connective.Or)
    else Err Shape)))))

abbrev pub keyword_of : FileForm → List ℕ → Result Keyword ReadFault
keyword_of announced word =
    if bytes_eq word (codes "skip") then Ok keyword.Skip
    else (if bytes_eq word (codes "set") then Ok keyword.Set
    else (if bytes_eq word (codes "seq") then Ok keyword.Seq
    else (if bytes_eq word (codes "if") then Ok keyword.If
    else (if bytes_eq word (codes "repeat") then Ok keyword.Repeat
    else (if bytes_eq word (codes "retry") then Ok keyword.Retry
    else (if bytes_eq word (codes "orelse") then Ok keyword.OrElse
    else (if bytes_eq word (codes "throw") then Ok keyword.Throw
    else (if bytes_eq word (codes "put") && has_tables announced then Ok keyword.Put
    else Err Shape))))))))

-- ---- expressions, with no more than this many parentheses open at a time

-- ---- the forms of expressions, each behind its word

unfoldable pub binary_with : (List Lexeme → Read Expr) → Operator → List Lexeme → Read Expr
binary_with operand op ts = do
  left ← operand ts
  right ← operand left.1
  rest ← close_at right.1
  Ok (tree.Binary op left.0 right.0, rest)

unfoldable pub at_with : (List Lexeme → Read Expr) → List Lexeme → Read Expr
at_with operand ts = do
  table ← name_at ts
  index ← operand table.1
  rest ← close_at index.1
  Ok (tree.At table.0 index.0, rest)

unfoldable pub all_with : Fold → List Lexeme → Read Expr
all_with fold ts = do
  table ← name_at ts
  rest ← close_at table.1
  Ok (tree.OfAll fold table.0, rest)

abbrev pub head_with : (List Lexeme → Read Expr) → Head → List Lexeme → Read Expr
head_with operand (head.Operates op) ts = binary_with operand op ts
head_with operand head.Picks ts = at_with operand ts
head_with operand (head.Folds fold) ts = all_with fold ts

-- an expression behind its parenthesis
unfoldable pub compound_with : FileForm → (List Lexeme → Read Expr) → List Lexeme → Read Expr
compound_with announced operand ts = do
  word ← name_at ts
  kind ← head_of announced word.0
  head_with operand kind word.1

-- an expression after its first token, behind a parenthesis by `inside`
abbrev pub expr_from : (List Lexeme → Read Expr) → Lexeme → List Lexeme → Read Expr
expr_from inside Opens ts = inside ts
expr_from inside Closes ts = Err Shape
expr_from inside (token.Name text) ts = Ok (tree.Name text, ts)
expr_from inside (token.Int value) ts = Ok (tree.Int value, ts)
expr_from inside token.Other ts = Err Shape

unfoldable pub expr_at : FileForm → ℕ → List Lexeme → Read Expr
expr_at announced zero ts = do
  t ← next_at ts
  expr_from (λ _. Err Shape) t.0 t.1
expr_at announced (suc depth) ts = do
  t ← next_at ts
  expr_from (compound_with announced (expr_at announced depth)) t.0 t.1

-- ---- conditions

-- a condition behind its word
abbrev pub cond_with : (List Lexeme → Read Expr) → (List Lexeme → Read Cond) → Test → List Lexeme → Read Cond
cond_with expr part (test.Compares op) ts = do
  left ← expr ts
  right ← expr left.1
  rest ← close_at right.1
  Ok (tree.Compare op left.0 right.0, rest)
cond_with expr part test.Negates ts = do
  inner ← part ts
  rest ← close_at inner.1
  Ok (tree.Not inner.0, rest)
cond_with expr part (test.Connects op) ts = do
  left ← part ts
  right ← part left.1
  rest ← close_at right.1
  Ok (tree.Connect op left.0 right.0, rest)

unfoldable pub cond_at : FileForm → ℕ → List Lexeme → Read Cond
cond_at announced zero ts = Err Shape
cond_at announced (suc depth) ts = do
  word ← word_at ts
  kind ← test_of word.0
  cond_with (expr_at announced depth) (cond_at announced depth) kind word.1

-- ---- statements

-- the statements of a list, one behind the other
abbrev pub row : List Stmt → Stmts
row [] = NoStmts
row (s ∷ ss) = MoreStmts s (row ss)

-- ---- the forms of statements, each behind its keyword

unfoldable pub set_with : (List Lexeme → Read Expr) → List Lexeme → Read Stmt
set_with expr ts = do
  name ← name_at ts
  value ← expr name.1
  rest ← close_at value.1
  Ok (tree.Set name.0 value.0, rest)

unfoldable pub put_with : (List Lexeme → Read Expr) → List Lexeme → Read Stmt
put_with expr ts = do
  table ← name_at ts
  index ← expr table.1
  value ← expr index.1
  rest ← close_at value.1
  Ok (tree.Put table.0 index.0 value.0, rest)

unfoldable pub seq_with : (List Lexeme → Read Stmt) → List Lexeme → Read Stmt
seq_with part ts = do
  parts ← all_of is_open part ts
  rest ← close_at parts.1
  Ok (tree.Seq (row parts.0), rest)

unfoldable pub if_with : (List Lexeme → Read Cond) → (List Lexeme → Read Stmt) → List Lexeme → Read Stmt
if_with cond part ts = do
  tested ← cond ts
  first ← part tested.1
  second ← part first.1
  rest ← close_at second.1
  Ok (tree.If tested.0 first.0 second.0, rest)

unfoldable pub repeat_with : (List Lexeme → Read Stmt) → List Lexeme → Read Stmt
repeat_with part ts = do
  count ← int_at ts
  body ← part count.1
  rest ← close_at body.1
  Ok (tree.Repeat count.0 body.0, rest)

unfoldable pub orelse_with : (List Lexeme → Read Stmt) → List Lexeme → Read Stmt
orelse_with part ts = do
  first ← part ts
  second ← part first.1
  rest ← close_at second.1
  Ok (tree.OrElse first.0 second.0, rest)

unfoldable pub throw_with : (List Lexeme → Read Expr) → List Lexeme → Read Stmt
throw_with expr ts = do
  value ← expr ts
  rest ← close_at value.1
  Ok (tree.Throw value.0, rest)

-- a statement behind its keyword
abbrev pub stmt_with : (List Lexeme → Read Expr) → (List Lexeme → Read Cond) → (List Lexeme → Read Stmt) → Keyword → List Lexeme → Read Stmt
stmt_with expr cond part keyword.Skip ts = close_at ts >>= λ rest. Ok (tree.Skip, rest)
stmt_with expr cond part keyword.Set ts = set_with expr ts
stmt_with expr cond part keyword.Put ts = put_with expr ts
stmt_with expr cond part keyword.Seq ts = seq_with part ts
stmt_with expr cond part keyword.If ts = if_with cond part ts
stmt_with expr cond part keyword.Repeat ts = repeat_with part ts
stmt_with expr cond part keyword.Retry ts = close_at ts >>= λ rest. Ok (tree.Retry, rest)
stmt_with expr cond part keyword.OrElse ts = orelse_with part ts
stmt_with expr cond part keyword.Throw ts = throw_with expr ts

unfoldable pub stmt_at : FileForm → ℕ → List Lexeme → Read Stmt
stmt_at announced zero ts = Err Shape
stmt_at announced (suc depth) ts = do
  word ← word_at ts
  kind ← keyword_of announced word.0
  stmt_with (expr_at announced depth) (cond_at announced depth) (stmt_at announced depth) kind word.1

-- ---- files

-- NAME INT )
abbrev pub pair_behind : List Lexeme → Read Pair
pair_behind inside = do
  name ← name_at inside
  value ← int_at name.1
  rest ← close_at value.1
  Ok (record { name = name.0; value = value.0 }, rest)

-- ( WORD NAME INT )
unfoldable pub pair_at : List ℕ → List Lexeme → Read Pair
pair_at word ts = do
  inside ← form_at word ts
  pair_behind inside

-- ( table NAME INT INT INT .. )
unfoldable pub table_at : List Lexeme → Read Table
table_at ts = do
  inside ← form_at (codes "table") ts
  name ← name_at inside
  count ← int_at name.1
  first ← int_at count.1
  others ← all_of is_int int_at first.1
  rest ← close_at others.1
  Ok (record { name = name.0; count = count.0; first = first.0; others = others.0 }, rest)

-- tables, which only form 3 has
unfoldable pub tables_at : FileForm → List Lexeme → Read (List Table)
tables_at One ts = Ok ([], ts)
tables_at Two ts = Ok ([], ts)
tables_at Three ts = all_of (begins (codes "table")) table_at ts

-- ( always NAME COND )
unfoldable pub always_at : FileForm → List Lexeme → Read Always
always_at announced ts = do
  inside ← form_at (codes "always") ts
  name ← name_at inside
  condition ← cond_at announced 31 name.1
  rest ← close_at condition.1
  Ok (record { name = name.0; condition = condition.0 }, rest)

-- conditions, of which form 1 has none
unfoldable pub conditions_at : FileForm → List Lexeme → Read (List Always)
conditions_at One ts = Ok ([], ts)
conditions_at Two ts = all_of (begins (codes "always")) (always_at Two) ts
conditions_at Three ts = all_of (begins (codes "always")) (always_at Three) ts

-- ( NAME .. )
unfoldable pub list_at : List Lexeme → Read (List (List ℕ))
list_at ts = do
  inside ← open_at ts
  names ← all_of is_name name_at inside
  rest ← close_at names.1
  Ok (names.0, rest)

-- parameters, of which only form 3 has a list
unfoldable pub parameters_at : FileForm → List Lexeme → Read (List (List ℕ))
parameters_at One ts = Ok ([], ts)
parameters_at Two ts = Ok ([], ts)
parameters_at Three ts = list_at ts

-- ( tx NAME STMT EXPR ), in form 3 ( tx NAME ( NAME .. ) STMT EXPR )
unfoldable pub tx_at : FileForm → List Lexeme → Read Declaration
tx_at announced ts = do
  inside ← form_at (codes "tx") ts
  name ← name_at inside
  parameters ← parameters_at announced name.1
  body ← stmt_at announced 31 parameters.1
  value ← expr_at announced 31 body.1
  rest ← close_at value.1
  Ok (record { name = name.0; parameters = parameters.0; body = body.0; value = value.0 }, rest)

-- arguments, which only form 3 has
unfoldable pub arguments_at : FileForm → List Lexeme → Read (List ℤ)
arguments_at One ts = Ok ([], ts)
arguments_at Two ts = Ok ([], ts)
arguments_at Three ts = all_of is_int int_at ts

-- NAME INT ), in form 3 NAME INT INT .. )
abbrev pub run_behind : FileForm → List Lexeme → Read Run
run_behind announced inside = do
  name ← name_at inside
  count ← int_at name.1
  arguments ← arguments_at announced count.1
  rest ← close_at arguments.1
  Ok (record { name = name.0; count = count.0; arguments = arguments.0 }, rest)

-- ( run NAME INT ), in form 3 ( run NAME INT INT .. )
unfoldable pub run_at : FileForm → List Lexeme → Read Run
run_at announced ts = do
  inside ← form_at (codes "run") ts
  run_behind announced inside

unfoldable pub end_at : List Lexeme → Result Unit ReadFault
end_at [] = Ok tt
end_at (t ∷ ts) = Err Shape

-- the forms that are announced
abbrev pub form_numbered : ℤ → Result FileForm ReadFault
form_numbered number =
    if int_eq number (pos 2) then Ok Two
    else (if int_eq number (pos 3) then Ok Three
    else Err Shape)

-- ( stm 2 ) or ( stm 3 )
unfoldable pub announced_at : List Lexeme → Read FileForm
announced_at ts = do
  inside ← form_at (codes "stm") ts
  number ← int_at inside
  form ← form_numbered number.0
  rest ← close_at number.1
  Ok (form, rest)

-- form 1, unless another is announced
unfoldable pub heading_at : List Lexeme → Read FileForm
heading_at ts = if begins (codes "stm") ts then announced_at ts else Ok (One, ts)

-- the tree of all the tokens
unfoldable pub file_of : List Lexeme → Result File ReadFault
file_of ts = do
  heading ← heading_at ts
  vars ← all_of (begins (codes "var")) (pair_at (codes "var")) heading.1
  tables ← tables_at heading.0 vars.1
  always ← conditions_at heading.0 tables.1
  txs ← all_of (begins (codes "tx")) (tx_at heading.0) always.1
  runs ← all_of (begins (codes "run")) (run_at heading.0) txs.1
  ended ← end_at runs.1
  Ok (record { form = heading.0; vars = vars.0; tables = tables.0; always = always.0; txs = txs.0; runs = runs.0 })

-- the tree of the bytes, or the first fault
unfoldable pub tree_of : List ℕ → Result File ReadFault
tree_of bytes =
    if nat_lt (tree.longest bytes) (length bytes) then Err TooLong
    else (if list_all is_allowed bytes then file_of (tokens bytes) else Err BadByte)
