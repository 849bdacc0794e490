-- The canonical text of each form is read as the form's tokens.
use Rattle.std.proofs.Common.{◌≡◌, ℕ, ◌<◌, ◌≤◌, true, List, [], ◌∷◌, ◌++◌, length, get_or, map, refl, subst, lit<, arith}
use Rattle.std.specs.Prelude.{ℤ, pos, codes, FitsSigned}
use Rattle.std.specs.Int.{w64}
use Rattle.std.specs.Fmt.{signed_decimal}
use Rattle.std.specs.List.{list_all, flat_map, AllByRecursion}
use Rattle.std.proofs.lemmas.Fmt.{decimal_digit}
use Rattle.std.proofs.lemmas.Option.{slice_get-get_or}
use Rattle.txn_programs.specs.Tree.{Expression, Condition, Statement, Statements, Transaction}
use Rattle.txn_programs.specs.Tree as t
use Rattle.std.proofs.lemmas.Bool.{and_parts}
use Rattle.text_grammar.specs.Scope.{Scope, inside}
use Rattle.text_file_printer.specs.Named.{ExpressionNamed, ConditionNamed, StatementNamed, StatementsNamed}
use Rattle.txn_programs.specs.declared.ast.Span.{Span}
use Rattle.txn_programs.specs.declared.ast.Fold.{Fold}
use Rattle.txn_programs.specs.declared.ast.Fold.TheVariants as all
use Rattle.txn_programs.specs.Names.{is_name, knows_table}
use Rattle.txn_programs.proofs.Lawful.{passes_at}
use Rattle.text_grammar.specs.declared.words.Operator.{Operator}
use Rattle.text_grammar.specs.declared.words.Operator.TheVariants as operator
use Rattle.text_grammar.specs.declared.words.Comparison.{Comparison}
use Rattle.text_grammar.specs.declared.words.Comparison.TheVariants as comparison
use Rattle.text_grammar.specs.declared.words.Connective.{Connective}
use Rattle.text_grammar.specs.declared.words.Connective.TheVariants as connective
use Rattle.text_grammar.specs.declared.words.Keyword.{Keyword}
use Rattle.text_grammar.specs.declared.words.Keyword.TheVariants as keyword
use Rattle.text_grammar.specs.declared.file.FileForm.{FileForm}
use Rattle.text_grammar.specs.declared.file.FileForm.TheVariants.{One, Two, Three}
use Rattle.text_words.specs.Tokens.{Lexeme, Opens, Closes}
use Rattle.text_words.specs.Tokens as token
use Rattle.text_grammar.specs.Tree.{Expr, Cond, Stmt, Stmts, Pair, Table, Always, Declaration, Run, form, operator_word, fold_word, comparison_word, connective_word, keyword_word, expr_tokens, cond_tokens, stmt_tokens, stmts_tokens, pair_tokens, table_tokens, always_tokens, list_tokens, tx_tokens, run_tokens, heading_tokens}
use Rattle.text_grammar.specs.Tree as f
use Rattle.text_grammar.specs.Written.{name_at, name_of, written_expression, written_condition, written_statement, written_statements, written_always, written_transaction}
use Rattle.text_file_printer.specs.Canonical.{form_text, spaced, expr_text, cond_text, stmt_text, stmts_text, heading_text, pair_line, numbers_told, table_line, always_line, list_text, tx_line, spaced_integer, run_line}
use Rattle.text_file_printer.specs.Fits.{ExprFits, CondFits, StmtFits, StmtsFit, PairFits, TableFits, AlwaysFits, DeclarationFits, RunFits}
use Rattle.text_file_printer.proofs.Spelled.{IsWord, Reads, Follows, Lines, word_reads, empty_reads, spaced_follows, none_follows, both_follow, form_reads, line_of, none_lines}
use Rattle.text_file_printer.proofs.WordForms.{name_word, int_word}
use Rattle.text_file_printer.proofs.Tables.{known_named}

-- ---- words

operator_is_word : (op : Operator) → IsWord (operator_word op) (token.Name (operator_word op))
unfolding is_name
operator_is_word operator.Add = name_word (codes "add") refl
operator_is_word operator.Sub = name_word (codes "sub") refl
operator_is_word operator.Mul = name_word (codes "mul") refl
operator_is_word operator.Div = name_word (codes "div") refl
operator_is_word operator.Rem = name_word (codes "rem") refl

fold_is_word : (fold : Fold) → IsWord (fold_word fold) (token.Name (fold_word fold))
unfolding is_name
fold_is_word all.Sum = name_word (codes "sum") refl
fold_is_word all.Min = name_word (codes "min") refl
fold_is_word all.Max = name_word (codes "max") refl

at_is_word : IsWord (codes "at") (token.Name (codes "at"))
unfolding is_name
at_is_word = name_word (codes "at") refl

comparison_is_word : (op : Comparison) → IsWord (comparison_word op) (token.Name (comparison_word op))
unfolding is_name
comparison_is_word comparison.Eq = name_word (codes "eq") refl
comparison_is_word comparison.Lt = name_word (codes "lt") refl
comparison_is_word comparison.Le = name_word (codes "le") refl

connective_is_word : (op : Connective) → IsWord (connective_word op) (token.Name (connective_word op))
unfolding is_name
connective_is_word connective.And = name_word (codes "and") refl
connective_is_word connective.Or = name_word (codes "or") refl

not_is_word : IsWord (codes "not") (token.Name (codes "not"))
unfolding is_name
not_is_word = name_word (codes "not") refl

keyword_is_word : (k : Keyword) → IsWord (keyword_word k) (token.Name (keyword_word k))
unfolding is_name
keyword_is_word keyword.Skip = name_word (codes "skip") refl
keyword_is_word keyword.Set = name_word (codes "set") refl
keyword_is_word keyword.Put = name_word (codes "put") refl
keyword_is_word keyword.Seq = name_word (codes "seq") refl
keyword_is_word keyword.If = name_word (codes "if") refl
keyword_is_word keyword.Repeat = name_word (codes "repeat") refl
keyword_is_word keyword.Retry = name_word (codes "retry") refl
keyword_is_word keyword.OrElse = name_word (codes "orelse") refl
keyword_is_word keyword.Throw = name_word (codes "throw") refl

pub var_is_word : IsWord (codes "var") (token.Name (codes "var"))
unfolding is_name
var_is_word = name_word (codes "var") refl

pub run_is_word : IsWord (codes "run") (token.Name (codes "run"))
unfolding is_name
run_is_word = name_word (codes "run") refl

table_is_word : IsWord (codes "table") (token.Name (codes "table"))
unfolding is_name
table_is_word = name_word (codes "table") refl

stm_is_word : IsWord (codes "stm") (token.Name (codes "stm"))
unfolding is_name
stm_is_word = name_word (codes "stm") refl

always_is_word : IsWord (codes "always") (token.Name (codes "always"))
unfolding is_name
always_is_word = name_word (codes "always") refl

tx_is_word : IsWord (codes "tx") (token.Name (codes "tx"))
unfolding is_name
tx_is_word = name_word (codes "tx") refl

-- the name at a place of a list of names
pub name_at_is : (ns : List (List ℕ)) (i : ℕ) → list_all is_name ns ≡ true → i < length ns → is_name (name_at ns i) ≡ true
name_at_is ns i forms lt = passes_at is_name ns i (get_or ns i []) forms (slice_get-get_or ns i [] lt)

named : (ns : List (List ℕ)) (i : ℕ) → list_all is_name ns ≡ true → i < length ns → Reads (name_at ns i) (token.Name (name_at ns i) ∷ [])
named ns i forms lt = word_reads (name_at ns i) (token.Name (name_at ns i)) (name_word (name_at ns i) (name_at_is ns i forms lt))

number : (z : ℤ) → FitsSigned w64 z → Reads (signed_decimal z) (token.Int z ∷ [])
number z h = word_reads (signed_decimal z) (token.Int z) (int_word z h)

-- ---- parts

two : (a b : List ℕ) (ts us : List Lexeme) → Reads a ts → Reads b us → Follows (spaced a ++ spaced b) (ts ++ us)
two a b ts us p q = both_follow (spaced a) (spaced b) ts us (spaced_follows a ts p) (spaced_follows b us q)

three : (a b c : List ℕ) (ts us vs : List Lexeme) → Reads a ts → Reads b us → Reads c vs → Follows (spaced a ++ (spaced b ++ spaced c)) (ts ++ (us ++ vs))
three a b c ts us vs p q r = both_follow (spaced a) (spaced b ++ spaced c) ts (us ++ vs) (spaced_follows a ts p) (two b c us vs q r)

-- ---- expressions

-- each name of a scope has the form of one
pub record AreNames (names : Scope) : Type 0 where
  pub variables : list_all is_name names.variables ≡ true
  pub tables : list_all is_name names.tables ≡ true
  pub spans : length names.spans ≤ length names.tables
  pub parameters : list_all is_name names.parameters ≡ true

-- a table that is known
table_reads : (names : Scope) → AreNames names → (tb : Span) → knows_table names.spans tb ≡ true → Reads (name_of names tb) (token.Name (name_of names tb) ∷ [])
table_reads names forms tb k = word_reads (name_of names tb) (token.Name (name_of names tb)) (name_word (name_of names tb) (known_named names.tables names.spans tb forms.tables forms.spans k))

cell_reads : (table : List ℕ) (index : Expr) → Reads table (token.Name table ∷ []) → Reads (expr_text index) (expr_tokens index) → Reads (expr_text (f.At table index)) (expr_tokens (f.At table index))
cell_reads table index p q =
    form_reads (codes "at") (spaced table ++ spaced (expr_text index)) (token.Name table ∷ expr_tokens index) at_is_word
    (two table (expr_text index) (token.Name table ∷ []) (expr_tokens index) p q)

all_reads : (fold : Fold) (table : List ℕ) → Reads table (token.Name table ∷ []) → Reads (expr_text (f.OfAll fold table)) (expr_tokens (f.OfAll fold table))
all_reads fold table p = form_reads (fold_word fold) (spaced table) (token.Name table ∷ []) (fold_is_word fold) (spaced_follows table (token.Name table ∷ []) p)

binary : (op : Operator) (l r : Expr) → Reads (expr_text l) (expr_tokens l) → Reads (expr_text r) (expr_tokens r) → Reads (expr_text (f.Binary op l r)) (expr_tokens (f.Binary op l r))
binary op l r p q =
    form_reads (operator_word op) (spaced (expr_text l) ++ spaced (expr_text r)) (expr_tokens l ++ expr_tokens r) (operator_is_word op)
    (two (expr_text l) (expr_text r) (expr_tokens l) (expr_tokens r) p q)

pub expr_reads : (names : Scope) → AreNames names → (e : Expression) → ExpressionNamed names e → ExprFits (written_expression names e) → Reads (expr_text (written_expression names e)) (expr_tokens (written_expression names e))
expr_reads names forms (t.Int n) k h = number n h
expr_reads names forms (t.Var x) k h = named names.variables x.0 forms.variables k
expr_reads names forms (t.Param p) k h = named names.parameters p.0 forms.parameters k
expr_reads names forms (t.Cell tb a) k h = cell_reads (name_of names tb) (written_expression names a) (table_reads names forms tb k.0) (expr_reads names forms a k.1 h)
expr_reads names forms (t.OfAll fold tb) k h = all_reads fold (name_of names tb) (table_reads names forms tb k)
expr_reads names forms (t.Add a b) k h = binary operator.Add (written_expression names a) (written_expression names b) (expr_reads names forms a k.0 h.0) (expr_reads names forms b k.1 h.1)
expr_reads names forms (t.Sub a b) k h = binary operator.Sub (written_expression names a) (written_expression names b) (expr_reads names forms a k.0 h.0) (expr_reads names forms b k.1 h.1)
expr_reads names forms (t.Mul a b) k h = binary operator.Mul (written_expression names a) (written_expression names b) (expr_reads names forms a k.0 h.0) (expr_reads names forms b k.1 h.1)
expr_reads names forms (t.Div a b) k h = binary operator.Div (written_expression names a) (written_expression names b) (expr_reads names forms a k.0 h.0) (expr_reads names forms b k.1 h.1)
expr_reads names forms (t.Rem a b) k h = binary operator.Rem (written_expression names a) (written_expression names b) (expr_reads names forms a k.0 h.0) (expr_reads names forms b k.1 h.1)

-- ---- conditions

compare : (op : Comparison) (l r : Expr) → Reads (expr_text l) (expr_tokens l) → Reads (expr_text r) (expr_tokens r) → Reads (cond_text (f.Compare op l r)) (cond_tokens (f.Compare op l r))
compare op l r p q =
    form_reads (comparison_word op) (spaced (expr_text l) ++ spaced (expr_text r)) (expr_tokens l ++ expr_tokens r) (comparison_is_word op)
    (two (expr_text l) (expr_text r) (expr_tokens l) (expr_tokens r) p q)

connect : (op : Connective) (l r : Cond) → Reads (cond_text l) (cond_tokens l) → Reads (cond_text r) (cond_tokens r) → Reads (cond_text (f.Connect op l r)) (cond_tokens (f.Connect op l r))
connect op l r p q =
    form_reads (connective_word op) (spaced (cond_text l) ++ spaced (cond_text r)) (cond_tokens l ++ cond_tokens r) (connective_is_word op)
    (two (cond_text l) (cond_text r) (cond_tokens l) (cond_tokens r) p q)

pub cond_reads : (names : Scope) → AreNames names → (c : Condition) → ConditionNamed names c → CondFits (written_condition names c) → Reads (cond_text (written_condition names c)) (cond_tokens (written_condition names c))
cond_reads names forms (t.Eq a b) k h = compare comparison.Eq (written_expression names a) (written_expression names b) (expr_reads names forms a k.0 h.0) (expr_reads names forms b k.1 h.1)
cond_reads names forms (t.Lt a b) k h = compare comparison.Lt (written_expression names a) (written_expression names b) (expr_reads names forms a k.0 h.0) (expr_reads names forms b k.1 h.1)
cond_reads names forms (t.Le a b) k h = compare comparison.Le (written_expression names a) (written_expression names b) (expr_reads names forms a k.0 h.0) (expr_reads names forms b k.1 h.1)
cond_reads names forms (t.Not c) k h =
    form_reads (codes "not") (spaced (cond_text (written_condition names c))) (cond_tokens (written_condition names c)) not_is_word
    (spaced_follows (cond_text (written_condition names c)) (cond_tokens (written_condition names c)) (cond_reads names forms c k h))
cond_reads names forms (t.And c d) k h = connect connective.And (written_condition names c) (written_condition names d) (cond_reads names forms c k.0 h.0) (cond_reads names forms d k.1 h.1)
cond_reads names forms (t.Or c d) k h = connect connective.Or (written_condition names c) (written_condition names d) (cond_reads names forms c k.0 h.0) (cond_reads names forms d k.1 h.1)

-- ---- statements

set_reads : (name : List ℕ) (e : Expr) → Reads name (token.Name name ∷ []) → Reads (expr_text e) (expr_tokens e) → Reads (stmt_text (f.Set name e)) (stmt_tokens (f.Set name e))
set_reads name e p q =
    form_reads (codes "set") (spaced name ++ spaced (expr_text e)) (token.Name name ∷ expr_tokens e) (keyword_is_word keyword.Set)
    (two name (expr_text e) (token.Name name ∷ []) (expr_tokens e) p q)

put_reads : (table : List ℕ) (index value : Expr) → Reads table (token.Name table ∷ []) → Reads (expr_text index) (expr_tokens index) → Reads (expr_text value) (expr_tokens value) → Reads (stmt_text (f.Put table index value)) (stmt_tokens (f.Put table index value))
put_reads table index value p q r =
    form_reads (codes "put") (spaced table ++ (spaced (expr_text index) ++ spaced (expr_text value))) (token.Name table ∷ (expr_tokens index ++ expr_tokens value)) (keyword_is_word keyword.Put)
    (three table (expr_text index) (expr_text value) (token.Name table ∷ []) (expr_tokens index) (expr_tokens value) p q r)

if_reads : (c : Cond) (a b : Stmt) → Reads (cond_text c) (cond_tokens c) → Reads (stmt_text a) (stmt_tokens a) → Reads (stmt_text b) (stmt_tokens b) → Reads (stmt_text (f.If c a b)) (stmt_tokens (f.If c a b))
if_reads c a b p q r =
    form_reads (codes "if") (spaced (cond_text c) ++ (spaced (stmt_text a) ++ spaced (stmt_text b))) (cond_tokens c ++ (stmt_tokens a ++ stmt_tokens b)) (keyword_is_word keyword.If)
    (three (cond_text c) (stmt_text a) (stmt_text b) (cond_tokens c) (stmt_tokens a) (stmt_tokens b) p q r)

repeat_reads : (n : ℤ) (s : Stmt) → Reads (signed_decimal n) (token.Int n ∷ []) → Reads (stmt_text s) (stmt_tokens s) → Reads (stmt_text (f.Repeat n s)) (stmt_tokens (f.Repeat n s))
repeat_reads n s p q =
    form_reads (codes "repeat") (spaced (signed_decimal n) ++ spaced (stmt_text s)) (token.Int n ∷ stmt_tokens s) (keyword_is_word keyword.Repeat)
    (two (signed_decimal n) (stmt_text s) (token.Int n ∷ []) (stmt_tokens s) p q)

orelse_reads : (a b : Stmt) → Reads (stmt_text a) (stmt_tokens a) → Reads (stmt_text b) (stmt_tokens b) → Reads (stmt_text (f.OrElse a b)) (stmt_tokens (f.OrElse a b))
orelse_reads a b p q =
    form_reads (codes "orelse") (spaced (stmt_text a) ++ spaced (stmt_text b)) (stmt_tokens a ++ stmt_tokens b) (keyword_is_word keyword.OrElse)
    (two (stmt_text a) (stmt_text b) (stmt_tokens a) (stmt_tokens b) p q)

throw_reads : (e : Expr) → Reads (expr_text e) (expr_tokens e) → Reads (stmt_text (f.Throw e)) (stmt_tokens (f.Throw e))
throw_reads e p = form_reads (codes "throw") (spaced (expr_text e)) (expr_tokens e) (keyword_is_word keyword.Throw) (spaced_follows (expr_text e) (expr_tokens e) p)

mutual
  pub stmt_reads : (names : Scope) → AreNames names → (s : Statement) → StatementNamed names s → StmtFits (written_statement names s) → Reads (stmt_text (written_statement names s)) (stmt_tokens (written_statement names s))
  stmt_reads names forms t.Skip k h = form_reads (codes "skip") [] [] (keyword_is_word keyword.Skip) none_follows
  stmt_reads names forms (t.Set x e) k h = set_reads (name_at names.variables x.0) (written_expression names e) (named names.variables x.0 forms.variables k.0) (expr_reads names forms e k.1 h)
  stmt_reads names forms (t.Put tb a b) k h =
      put_reads (name_of names tb) (written_expression names a) (written_expression names b) (table_reads names forms tb k.0) (expr_reads names forms a k.1 h.0) (expr_reads names forms b k.2 h.1)
  stmt_reads names forms (t.Seq parts) k h =
      form_reads (codes "seq") (stmts_text (written_statements names parts)) (stmts_tokens (written_statements names parts)) (keyword_is_word keyword.Seq) (stmts_follow names forms parts k h)
  stmt_reads names forms (t.If c a b) k h =
      if_reads (written_condition names c) (written_statement names a) (written_statement names b) (cond_reads names forms c k.0 h.0) (stmt_reads names forms a k.1 h.1) (stmt_reads names forms b k.2 h.2)
  stmt_reads names forms (t.Repeat n s) k h = repeat_reads (pos n) (written_statement names s) (number (pos n) h.0) (stmt_reads names forms s k h.1)
  stmt_reads names forms t.Retry k h = form_reads (codes "retry") [] [] (keyword_is_word keyword.Retry) none_follows
  stmt_reads names forms (t.OrElse a b) k h = orelse_reads (written_statement names a) (written_statement names b) (stmt_reads names forms a k.0 h.0) (stmt_reads names forms b k.1 h.1)
  stmt_reads names forms (t.Throw e) k h = throw_reads (written_expression names e) (expr_reads names forms e k h)

  pub stmts_follow : (names : Scope) → AreNames names → (s : Statements) → StatementsNamed names s → StmtsFit (written_statements names s) → Follows (stmts_text (written_statements names s)) (stmts_tokens (written_statements names s))
  stmts_follow names forms t.End k h = none_follows
  stmts_follow names forms (t.More s rest) k h =
      both_follow (spaced (stmt_text (written_statement names s))) (stmts_text (written_statements names rest)) (stmt_tokens (written_statement names s)) (stmts_tokens (written_statements names rest))
      (spaced_follows (stmt_text (written_statement names s)) (stmt_tokens (written_statement names s)) (stmt_reads names forms s k.0 h.0))
      (stmts_follow names forms rest k.1 h.1)

-- ---- lines

pub pair_lines : (word : List ℕ) (p : Pair) → IsWord word (token.Name word) → is_name p.name ≡ true → PairFits p → Lines (pair_line word p) (pair_tokens word p)
pair_lines word p w name h =
    line_of (form_text word (spaced p.name ++ spaced (signed_decimal p.value))) (pair_tokens word p)
    (form_reads word (spaced p.name ++ spaced (signed_decimal p.value)) (token.Name p.name ∷ token.Int p.value ∷ []) w
    (two p.name (signed_decimal p.value) (token.Name p.name ∷ []) (token.Int p.value ∷ []) (word_reads p.name (token.Name p.name) (name_word p.name name)) (number p.value h)))

-- the line of the form: its text is that of a form with one integer
pub two_printed : signed_decimal (pos 2) ≡ codes "2"
two_printed = decimal_digit 2 (lit< tt)

pub three_printed : signed_decimal (pos 3) ≡ codes "3"
three_printed = decimal_digit 3 (lit< tt)

number_line : (value : ℤ) → FitsSigned w64 value → Lines (form_text (codes "stm") (spaced (signed_decimal value)) ++ codes "\n") (f.form (codes "stm") (token.Int value ∷ []))
number_line value h =
    line_of (form_text (codes "stm") (spaced (signed_decimal value))) (f.form (codes "stm") (token.Int value ∷ []))
    (form_reads (codes "stm") (spaced (signed_decimal value)) (token.Int value ∷ []) stm_is_word (spaced_follows (signed_decimal value) (token.Int value ∷ []) (number value h)))

pub heading_lines : (form : FileForm) → Lines (heading_text form) (heading_tokens form)
heading_lines One = none_lines
heading_lines Two = subst (λ (digits : List ℕ). Lines (form_text (codes "stm") (spaced digits) ++ codes "\n") (f.form (codes "stm") (token.Int (pos 2) ∷ []))) two_printed (number_line (pos 2) (omega arith))
heading_lines Three = subst (λ (digits : List ℕ). Lines (form_text (codes "stm") (spaced digits) ++ codes "\n") (f.form (codes "stm") (token.Int (pos 3) ∷ []))) three_printed (number_line (pos 3) (omega arith))

pub always_lines : (names : Scope) → AreNames names → (a : List ℕ × Condition) → is_name a.0 ≡ true → ConditionNamed names a.1 → AlwaysFits (written_always names a) → Lines (always_line (written_always names a)) (always_tokens (written_always names a))
always_lines names forms a name k h =
    let c = written_condition names a.1 in
    line_of (form_text (codes "always") (spaced a.0 ++ spaced (cond_text c))) (always_tokens (written_always names a))
    (form_reads (codes "always") (spaced a.0 ++ spaced (cond_text c)) (token.Name a.0 ∷ cond_tokens c) always_is_word
    (two a.0 (cond_text c) (token.Name a.0 ∷ []) (cond_tokens c) (word_reads a.0 (token.Name a.0) (name_word a.0 name))
    (cond_reads names forms a.1 k h)))

one_name : (name : List ℕ) → is_name name ≡ true → Follows (spaced name) (token.Name name ∷ [])
one_name name h = spaced_follows name (token.Name name ∷ []) (word_reads name (token.Name name) (name_word name h))

names_follow : (names : List (List ℕ)) → list_all is_name names ≡ true → Follows (flat_map spaced names) (map token.Name names)
names_follow [] h = none_follows
names_follow (name ∷ names) h =
    let parts = and_parts (is_name name) (list_all is_name names) h in
    both_follow (spaced name) (flat_map spaced names) (token.Name name ∷ []) (map token.Name names) (one_name name parts.0) (names_follow names parts.1)

-- a list of parameters, in a form that has one
list_follows : (announced : FileForm) (names : List (List ℕ)) → list_all is_name names ≡ true → Follows (list_text announced names) (list_tokens announced names)
list_follows One names h = none_follows
list_follows Two names h = none_follows
list_follows Three [] h = spaced_follows (codes "()") (Opens ∷ Closes ∷ []) empty_reads
list_follows Three (name ∷ names) h =
    let parts = and_parts (is_name name) (list_all is_name names) h in
    spaced_follows (form_text name (flat_map spaced names)) (f.form name (map token.Name names)) (form_reads name (flat_map spaced names) (map token.Name names) (name_word name parts.0) (names_follow names parts.1))

pub tx_lines : (announced : FileForm) (s : Scope) → AreNames s → (t : Transaction) → is_name t.name ≡ true → list_all is_name t.parameters ≡ true
    → StatementNamed (inside s t.parameters) t.body → ExpressionNamed (inside s t.parameters) t.result
    → DeclarationFits (written_transaction s t) → Lines (tx_line announced (written_transaction s t)) (tx_tokens announced (written_transaction s t))
tx_lines announced s forms p name named known valued h =
    let names = inside s p.parameters in
    let all : AreNames names = record { variables = forms.variables; tables = forms.tables; spans = forms.spans; parameters = named } in
    let body = written_statement names p.body in
    let value = written_expression names p.result in
    let list = list_text announced p.parameters in
    let listed = list_tokens announced p.parameters in
    line_of (form_text (codes "tx") (spaced p.name ++ (list ++ (spaced (stmt_text body) ++ spaced (expr_text value))))) (tx_tokens announced (written_transaction s p))
    (form_reads (codes "tx") (spaced p.name ++ (list ++ (spaced (stmt_text body) ++ spaced (expr_text value)))) (token.Name p.name ∷ (listed ++ (stmt_tokens body ++ expr_tokens value))) tx_is_word
    (both_follow (spaced p.name) (list ++ (spaced (stmt_text body) ++ spaced (expr_text value))) (token.Name p.name ∷ []) (listed ++ (stmt_tokens body ++ expr_tokens value)) (one_name p.name name)
    (both_follow list (spaced (stmt_text body) ++ spaced (expr_text value)) listed (stmt_tokens body ++ expr_tokens value) (list_follows announced p.parameters named)
    (two (stmt_text body) (expr_text value) (stmt_tokens body) (expr_tokens value) (stmt_reads names all p.body known h.0) (expr_reads names all p.result valued h.1)))))

one_integer : (value : ℤ) → FitsSigned w64 value → Follows (spaced_integer value) (token.Int value ∷ [])
one_integer value h = spaced_follows (signed_decimal value) (token.Int value ∷ []) (number value h)

integers_follow : (values : List ℤ) → AllByRecursion (FitsSigned w64) values → Follows (flat_map spaced_integer values) (map token.Int values)
integers_follow [] h = none_follows
integers_follow (value ∷ values) h =
    both_follow (spaced_integer value) (flat_map spaced_integer values) (token.Int value ∷ []) (map token.Int values) (one_integer value h.0) (integers_follow values h.1)

pub run_lines : (r : Run) → is_name r.name ≡ true → RunFits r → Lines (run_line r) (run_tokens r)
run_lines r name h =
    let behind = spaced_integer r.count ++ flat_map spaced_integer r.arguments in
    line_of (form_text (codes "run") (spaced r.name ++ behind)) (run_tokens r)
    (form_reads (codes "run") (spaced r.name ++ behind) (token.Name r.name ∷ token.Int r.count ∷ map token.Int r.arguments) run_is_word
    (both_follow (spaced r.name) behind (token.Name r.name ∷ []) (token.Int r.count ∷ map token.Int r.arguments) (one_name r.name name)
    (both_follow (spaced_integer r.count) (flat_map spaced_integer r.arguments) (token.Int r.count ∷ []) (map token.Int r.arguments) (one_integer r.count h.0) (integers_follow r.arguments h.1))))

pub table_lines : (t : Table) → is_name t.name ≡ true → TableFits t → Lines (table_line t) (table_tokens t)
table_lines t name h =
    let numbers = numbers_told t in
    let behind = spaced_integer t.count ++ flat_map spaced_integer numbers in
    line_of (form_text (codes "table") (spaced t.name ++ behind)) (table_tokens t)
    (form_reads (codes "table") (spaced t.name ++ behind) (token.Name t.name ∷ token.Int t.count ∷ map token.Int numbers) table_is_word
    (both_follow (spaced t.name) behind (token.Name t.name ∷ []) (token.Int t.count ∷ map token.Int numbers) (one_name t.name name)
    (both_follow (spaced_integer t.count) (flat_map spaced_integer numbers) (token.Int t.count ∷ []) (map token.Int numbers) (one_integer t.count h.0) (integers_follow numbers h.1))))
