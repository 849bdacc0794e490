-- Which faults each step may have.
use Rattle.std.proofs.Common.{◌≡◌, ℕ, zero, suc, Bool, true, false, ◌&&◌, cond, List, [], ◌∷◌, length, Result, Ok, Err, ap}
use Rattle.std.specs.Prelude.{ℤ, pos, codes}
use Rattle.std.specs.Ordering.{int_eq}
use Rattle.std.specs.Str.{bytes_eq}
use Rattle.text_words.specs.Tokens.{Lexeme, Opens, Closes}
use Rattle.text_words.specs.Tokens as token
use Rattle.txn_programs.specs.declared.ast.Fold.{Fold}
use Rattle.txn_programs.specs.declared.ast.Fold.TheVariants as folds
use Rattle.text_grammar.specs.Tree.{Expr, Cond, Stmt, Stmts, NoStmts, MoreStmts, Pair, Declaration, File, has_tables}
use Rattle.text_grammar.specs.Tree as f
use Rattle.text_grammar.specs.declared.words.Operator.{Operator}
use Rattle.text_grammar.specs.declared.words.Operator.TheVariants as operators
use Rattle.text_grammar.specs.declared.words.Head.{Head}
use Rattle.text_grammar.specs.declared.words.Head.TheVariants as heads
use Rattle.text_grammar.specs.declared.words.Comparison.TheVariants as comparisons
use Rattle.text_grammar.specs.declared.words.Connective.TheVariants as connectives
use Rattle.text_grammar.specs.declared.words.Test.{Test}
use Rattle.text_grammar.specs.declared.words.Test.TheVariants as tests
use Rattle.text_grammar.specs.declared.words.Keyword.{Keyword}
use Rattle.text_grammar.specs.declared.words.Keyword.TheVariants as keywords
use Rattle.text_words.specs.declared.fault.ReadFault.{ReadFault}
use Rattle.text_words.specs.declared.fault.ReadFault.TheVariants as faults
use Rattle.text_words.specs.Answers.{◌>>=◌}
use Rattle.text_words.specs.TokenReading.{Read, next_at, as_open, as_close, as_name, as_int, open_at, close_at, name_at, int_at, word_at, form_at, begins, is_open, is_name, is_int, many, all_of}
use Rattle.text_grammar.specs.Reading.{operator_of, fold_of, table_head_of, operator_or, head_of, test_of, keyword_of, binary_with, at_with, all_with, head_with, compound_with, expr_from, expr_at, cond_with, cond_at, set_with, put_with, seq_with, if_with, repeat_with, orelse_with, throw_with, stmt_with, stmt_at, pair_at, table_at, tables_at, always_at, conditions_at, list_at, parameters_at, tx_at, arguments_at, run_at, end_at, form_numbered, announced_at, heading_at, file_of}
use Rattle.text_grammar.specs.declared.file.FileForm.{FileForm}
use Rattle.text_grammar.specs.declared.file.FileForm.TheVariants.{One, Two, Three}
use Rattle.text_words.proofs.Steps.{done}

-- a fault of the result is of this kind
pub record Only {A : Type 0} (kind : ReadFault) (r : Result A ReadFault) : Type 0 where
  pub by : (e : ReadFault) → r ≡ Err e → e ≡ kind

abbrev pub bad : {A : Type 0} → ReadFault → Result A ReadFault
bad e = Err e

pub only_ok : {A : Type 0} (kind : ReadFault) (x : A) → Only kind (done x)
only_ok kind x = record { by = λ e h. absurd cc }

pub only_err : {A : Type 0} (kind : ReadFault) → Only {A = A} kind (bad kind)
only_err kind = record { by = λ e h. cc }

pub only_bind : {A B : Type 0} (kind : ReadFault) (r : Result A ReadFault) (g : A → Result B ReadFault) → Only kind r → ((x : A) → Only kind (g x)) → Only kind (r >>= g)
only_bind kind (Ok x) g p q = q x
only_bind kind (Err d) g p q = record { by = λ e h. let s : d ≡ e = cc in p.by e (ap bad s) }

pub only_cond : {A : Type 0} (kind : ReadFault) (b : Bool) (x y : Result A ReadFault) → Only kind x → Only kind y → Only kind (cond b x y)
only_cond kind true x y p q = p
only_cond kind false x y p q = q

-- ---- reading fails by its shape alone

abbrev IsShape : {A : Type 0} → Result A ReadFault → Type 0
IsShape r = Only faults.Shape r

ok : {A : Type 0} (x : A) → IsShape (done x)
ok x = only_ok faults.Shape x

err : {A : Type 0} → IsShape {A = A} (bad faults.Shape)
err = only_err faults.Shape

bind : {A B : Type 0} (r : Result A ReadFault) (g : A → Result B ReadFault) → IsShape r → ((x : A) → IsShape (g x)) → IsShape (r >>= g)
bind r g p q = only_bind faults.Shape r g p q

next_shape : (ts : List Lexeme) → IsShape (next_at ts)
next_shape [] = err
next_shape (t ∷ ts) = ok (t, ts)

as_open_shape : (t : Lexeme) → IsShape (as_open t)
as_open_shape Opens = ok tt
as_open_shape Closes = err
as_open_shape (token.Name text) = err
as_open_shape (token.Int value) = err
as_open_shape token.Other = err

as_close_shape : (t : Lexeme) → IsShape (as_close t)
as_close_shape Opens = err
as_close_shape Closes = ok tt
as_close_shape (token.Name text) = err
as_close_shape (token.Int value) = err
as_close_shape token.Other = err

as_name_shape : (t : Lexeme) → IsShape (as_name t)
as_name_shape Opens = err
as_name_shape Closes = err
as_name_shape (token.Name text) = ok text
as_name_shape (token.Int value) = err
as_name_shape token.Other = err

as_int_shape : (t : Lexeme) → IsShape (as_int t)
as_int_shape Opens = err
as_int_shape Closes = err
as_int_shape (token.Name text) = err
as_int_shape (token.Int value) = ok value
as_int_shape token.Other = err

open_shape : (ts : List Lexeme) → IsShape (open_at ts)
unfolding open_at
open_shape ts = bind (next_at ts) _ (next_shape ts) (λ t. bind (as_open t.0) _ (as_open_shape t.0) (λ u. ok t.1))

close_shape : (ts : List Lexeme) → IsShape (close_at ts)
unfolding close_at
close_shape ts = bind (next_at ts) _ (next_shape ts) (λ t. bind (as_close t.0) _ (as_close_shape t.0) (λ u. ok t.1))

name_shape : (ts : List Lexeme) → IsShape (name_at ts)
unfolding name_at
name_shape ts = bind (next_at ts) _ (next_shape ts) (λ t. bind (as_name t.0) _ (as_name_shape t.0) (λ name. ok (name, t.1)))

int_shape : (ts : List Lexeme) → IsShape (int_at ts)
unfolding int_at
int_shape ts = bind (next_at ts) _ (next_shape ts) (λ t. bind (as_int t.0) _ (as_int_shape t.0) (λ value. ok (value, t.1)))

word_shape : (ts : List Lexeme) → IsShape (word_at ts)
unfolding word_at
word_shape ts = bind (open_at ts) _ (open_shape ts) name_shape

form_shape : (wanted : List ℕ) (ts : List Lexeme) → IsShape (form_at wanted ts)
unfolding form_at
form_shape wanted ts = bind (word_at ts) _ (word_shape ts) (λ w. only_cond faults.Shape (bytes_eq w.0 wanted) _ _ (ok w.1) err)

many_shape : {A : Type 0} (goes : List Lexeme → Bool) (one : List Lexeme → Read A) → ((ts : List Lexeme) → IsShape (one ts)) → (n : ℕ) (ts : List Lexeme) → IsShape (many goes one n ts)
unfolding many
many_shape goes one h zero ts = err
many_shape goes one h (suc n) ts = only_cond faults.Shape (goes ts) _ _ (bind (one ts) _ (h ts) (λ x. bind (many goes one n x.1) _ (many_shape goes one h n x.1) (λ xs. ok (x.0 ∷ xs.0, xs.1)))) (ok ([], ts))

all_shape : {A : Type 0} (goes : List Lexeme → Bool) (one : List Lexeme → Read A) → ((ts : List Lexeme) → IsShape (one ts)) → (ts : List Lexeme) → IsShape (all_of goes one ts)
unfolding all_of
all_shape goes one h ts = many_shape goes one h (suc (length ts)) ts

-- a word among others
among : {K : Type 0} (word wanted : List ℕ) (k : K) (rest : Result K ReadFault) → IsShape rest → IsShape (cond (bytes_eq word wanted) (Ok k) rest)
among word wanted k rest h = only_cond faults.Shape (bytes_eq word wanted) (done k) rest (ok k) h

operator_shape : (word : List ℕ) → IsShape (operator_of word)
operator_shape word =
    among word (codes "add") operators.Add _
    (among word (codes "sub") operators.Sub _
    (among word (codes "mul") operators.Mul _
    (among word (codes "div") operators.Div _
    (among word (codes "rem") operators.Rem _ err))))

fold_shape : (word : List ℕ) → IsShape (fold_of word)
fold_shape word =
    among word (codes "sum") folds.Sum _
    (among word (codes "min") folds.Min _
    (among word (codes "max") folds.Max _ err))

table_head_shape : (word : List ℕ) → IsShape (table_head_of word)
table_head_shape word = among word (codes "at") heads.Picks _ (bind (fold_of word) _ (fold_shape word) (λ f. ok (heads.Folds f)))

or_shape : (operator : Result Operator ReadFault) (other : Result Head ReadFault) → IsShape other → IsShape (operator_or operator other)
or_shape (Ok op) other h = ok (heads.Operates op)
or_shape (Err e) other h = h

head_shape : (form : FileForm) (word : List ℕ) → IsShape (head_of form word)
head_shape form word = or_shape (operator_of word) _ (only_cond faults.Shape (has_tables form) (table_head_of word) (Err faults.Shape) (table_head_shape word) err)

test_shape : (word : List ℕ) → IsShape (test_of word)
test_shape word =
    among word (codes "eq") (tests.Compares comparisons.Eq) _
    (among word (codes "lt") (tests.Compares comparisons.Lt) _
    (among word (codes "le") (tests.Compares comparisons.Le) _
    (among word (codes "not") tests.Negates _
    (among word (codes "and") (tests.Connects connectives.And) _
    (among word (codes "or") (tests.Connects connectives.Or) _ err)))))

keyword_shape : (form : FileForm) (word : List ℕ) → IsShape (keyword_of form word)
keyword_shape form word =
    among word (codes "skip") keywords.Skip _
    (among word (codes "set") keywords.Set _
    (among word (codes "seq") keywords.Seq _
    (among word (codes "if") keywords.If _
    (among word (codes "repeat") keywords.Repeat _
    (among word (codes "retry") keywords.Retry _
    (among word (codes "orelse") keywords.OrElse _
    (among word (codes "throw") keywords.Throw _
    (only_cond faults.Shape (bytes_eq word (codes "put") && has_tables form) (done keywords.Put) (Err faults.Shape) (ok keywords.Put) err))))))))

binary_shape : (operand : List Lexeme → Read Expr) → ((ts : List Lexeme) → IsShape (operand ts)) → (op : Operator) (ts : List Lexeme) → IsShape (binary_with operand op ts)
unfolding binary_with
binary_shape operand h op ts =
    bind (operand ts) _ (h ts) (λ l. bind (operand l.1) _ (h l.1) (λ r. bind (close_at r.1) _ (close_shape r.1) (λ rest. ok (f.Binary op l.0 r.0, rest))))

at_shape : (operand : List Lexeme → Read Expr) → ((ts : List Lexeme) → IsShape (operand ts)) → (ts : List Lexeme) → IsShape (at_with operand ts)
unfolding at_with
at_shape operand h ts =
    bind (name_at ts) _ (name_shape ts) (λ n. bind (operand n.1) _ (h n.1) (λ i. bind (close_at i.1) _ (close_shape i.1) (λ rest. ok (f.At n.0 i.0, rest))))

all_with_shape : (fold : Fold) (ts : List Lexeme) → IsShape (all_with fold ts)
unfolding all_with
all_with_shape fold ts = bind (name_at ts) _ (name_shape ts) (λ n. bind (close_at n.1) _ (close_shape n.1) (λ rest. ok (f.OfAll fold n.0, rest)))

head_with_shape : (operand : List Lexeme → Read Expr) → ((ts : List Lexeme) → IsShape (operand ts)) → (kind : Head) (ts : List Lexeme) → IsShape (head_with operand kind ts)
head_with_shape operand h (heads.Operates op) ts = binary_shape operand h op ts
head_with_shape operand h heads.Picks ts = at_shape operand h ts
head_with_shape operand h (heads.Folds fold) ts = all_with_shape fold ts

compound_shape : (form : FileForm) (operand : List Lexeme → Read Expr) → ((ts : List Lexeme) → IsShape (operand ts)) → (ts : List Lexeme) → IsShape (compound_with form operand ts)
unfolding compound_with
compound_shape form operand h ts = bind (name_at ts) _ (name_shape ts) (λ w. bind (head_of form w.0) _ (head_shape form w.0) (λ kind. head_with_shape operand h kind w.1))

from_shape : (inside : List Lexeme → Read Expr) → ((ts : List Lexeme) → IsShape (inside ts)) → (t : Lexeme) (ts : List Lexeme) → IsShape (expr_from inside t ts)
from_shape inside h Opens ts = h ts
from_shape inside h Closes ts = err
from_shape inside h (token.Name text) ts = ok (f.Name text, ts)
from_shape inside h (token.Int value) ts = ok (f.Int value, ts)
from_shape inside h token.Other ts = err

expr_shape : (form : FileForm) (depth : ℕ) (ts : List Lexeme) → IsShape (expr_at form depth ts)
unfolding expr_at
expr_shape form zero ts = bind (next_at ts) _ (next_shape ts) (λ t. from_shape (λ _. Err faults.Shape) (λ us. err) t.0 t.1)
expr_shape form (suc depth) ts = bind (next_at ts) _ (next_shape ts) (λ t. from_shape (compound_with form (expr_at form depth)) (compound_shape form (expr_at form depth) (expr_shape form depth)) t.0 t.1)

cond_with_shape : (form : FileForm) (depth : ℕ) (kind : Test) → ((ts : List Lexeme) → IsShape (cond_at form depth ts)) → (ts : List Lexeme) → IsShape (cond_with (expr_at form depth) (cond_at form depth) kind ts)
cond_with_shape form depth (tests.Compares op) h ts =
    bind (expr_at form depth ts) _ (expr_shape form depth ts) (λ l. bind (expr_at form depth l.1) _ (expr_shape form depth l.1) (λ r. bind (close_at r.1) _ (close_shape r.1) (λ rest. ok (f.Compare op l.0 r.0, rest))))
cond_with_shape form depth tests.Negates h ts =
    bind (cond_at form depth ts) _ (h ts) (λ i. bind (close_at i.1) _ (close_shape i.1) (λ rest. ok (f.Not i.0, rest)))
cond_with_shape form depth (tests.Connects op) h ts =
    bind (cond_at form depth ts) _ (h ts) (λ l. bind (cond_at form depth l.1) _ (h l.1) (λ r. bind (close_at r.1) _ (close_shape r.1) (λ rest. ok (f.Connect op l.0 r.0, rest))))

cond_shape : (form : FileForm) (depth : ℕ) (ts : List Lexeme) → IsShape (cond_at form depth ts)
unfolding cond_at
cond_shape form zero ts = err
cond_shape form (suc depth) ts = bind (word_at ts) _ (word_shape ts) (λ w. bind (test_of w.0) _ (test_shape w.0) (λ kind. cond_with_shape form depth kind (cond_shape form depth) w.1))

stmt_with_shape : (form : FileForm) (depth : ℕ) (kind : Keyword) → ((ts : List Lexeme) → IsShape (stmt_at form depth ts)) → (ts : List Lexeme) → IsShape (stmt_with (expr_at form depth) (cond_at form depth) (stmt_at form depth) kind ts)
unfolding set_with put_with seq_with if_with repeat_with orelse_with throw_with
stmt_with_shape form depth keywords.Skip h ts = bind (close_at ts) _ (close_shape ts) (λ rest. ok (f.Skip, rest))
stmt_with_shape form depth keywords.Set h ts =
    bind (name_at ts) _ (name_shape ts) (λ n. bind (expr_at form depth n.1) _ (expr_shape form depth n.1) (λ v. bind (close_at v.1) _ (close_shape v.1) (λ rest. ok (f.Set n.0 v.0, rest))))
stmt_with_shape form depth keywords.Put h ts =
    bind (name_at ts) _ (name_shape ts) (λ n. bind (expr_at form depth n.1) _ (expr_shape form depth n.1) (λ i. bind (expr_at form depth i.1) _ (expr_shape form depth i.1)
    (λ v. bind (close_at v.1) _ (close_shape v.1) (λ rest. ok (f.Put n.0 i.0 v.0, rest)))))
stmt_with_shape form depth keywords.Seq h ts = bind (all_of is_open (stmt_at form depth) ts) _ (all_shape is_open (stmt_at form depth) h ts) (λ p. bind (close_at p.1) _ (close_shape p.1) (λ rest. ok _))
stmt_with_shape form depth keywords.If h ts =
    bind (cond_at form depth ts) _ (cond_shape form depth ts) (λ c. bind (stmt_at form depth c.1) _ (h c.1) (λ a. bind (stmt_at form depth a.1) _ (h a.1) (λ b. bind (close_at b.1) _ (close_shape b.1) (λ rest. ok (f.If c.0 a.0 b.0, rest)))))
stmt_with_shape form depth keywords.Repeat h ts =
    bind (int_at ts) _ (int_shape ts) (λ n. bind (stmt_at form depth n.1) _ (h n.1) (λ b. bind (close_at b.1) _ (close_shape b.1) (λ rest. ok (f.Repeat n.0 b.0, rest))))
stmt_with_shape form depth keywords.Retry h ts = bind (close_at ts) _ (close_shape ts) (λ rest. ok (f.Retry, rest))
stmt_with_shape form depth keywords.OrElse h ts =
    bind (stmt_at form depth ts) _ (h ts) (λ a. bind (stmt_at form depth a.1) _ (h a.1) (λ b. bind (close_at b.1) _ (close_shape b.1) (λ rest. ok (f.OrElse a.0 b.0, rest))))
stmt_with_shape form depth keywords.Throw h ts =
    bind (expr_at form depth ts) _ (expr_shape form depth ts) (λ v. bind (close_at v.1) _ (close_shape v.1) (λ rest. ok (f.Throw v.0, rest)))

stmt_shape : (form : FileForm) (depth : ℕ) (ts : List Lexeme) → IsShape (stmt_at form depth ts)
unfolding stmt_at
stmt_shape form zero ts = err
stmt_shape form (suc depth) ts = bind (word_at ts) _ (word_shape ts) (λ w. bind (keyword_of form w.0) _ (keyword_shape form w.0) (λ kind. stmt_with_shape form depth kind (stmt_shape form depth) w.1))

pair_shape : (word : List ℕ) (ts : List Lexeme) → IsShape (pair_at word ts)
unfolding pair_at
pair_shape word ts = bind (form_at word ts) _ (form_shape word ts) (λ inside. bind (name_at inside) _ (name_shape inside) (λ n. bind (int_at n.1) _ (int_shape n.1) (λ v. bind (close_at v.1) _ (close_shape v.1) (λ rest. ok _))))

table_shape : (ts : List Lexeme) → IsShape (table_at ts)
unfolding table_at
table_shape ts =
    bind (form_at (codes "table") ts) _ (form_shape (codes "table") ts) (λ inside. bind (name_at inside) _ (name_shape inside)
    (λ n. bind (int_at n.1) _ (int_shape n.1) (λ c. bind (int_at c.1) _ (int_shape c.1)
    (λ v. bind (all_of is_int int_at v.1) _ (all_shape is_int int_at int_shape v.1) (λ others. bind (close_at others.1) _ (close_shape others.1) (λ rest. ok _))))))

tables_shape : (form : FileForm) (ts : List Lexeme) → IsShape (tables_at form ts)
unfolding tables_at
tables_shape One ts = ok ([], ts)
tables_shape Two ts = ok ([], ts)
tables_shape Three ts = all_shape (begins (codes "table")) table_at table_shape ts

always_shape : (form : FileForm) (ts : List Lexeme) → IsShape (always_at form ts)
unfolding always_at
always_shape form ts = bind (form_at (codes "always") ts) _ (form_shape (codes "always") ts) (λ inside. bind (name_at inside) _ (name_shape inside) (λ n. bind (cond_at form 31 n.1) _ (cond_shape form 31 n.1) (λ c. bind (close_at c.1) _ (close_shape c.1) (λ rest. ok _))))

conditions_shape : (form : FileForm) (ts : List Lexeme) → IsShape (conditions_at form ts)
unfolding conditions_at
conditions_shape One ts = ok ([], ts)
conditions_shape Two ts = all_shape (begins (codes "always")) (always_at Two) (always_shape Two) ts
conditions_shape Three ts = all_shape (begins (codes "always")) (always_at Three) (always_shape Three) ts

list_shape : (ts : List Lexeme) → IsShape (list_at ts)
unfolding list_at
list_shape ts = bind (open_at ts) _ (open_shape ts) (λ inside. bind (all_of is_name name_at inside) _ (all_shape is_name name_at name_shape inside) (λ names. bind (close_at names.1) _ (close_shape names.1) (λ rest. ok (names.0, rest))))

parameters_shape : (form : FileForm) (ts : List Lexeme) → IsShape (parameters_at form ts)
unfolding parameters_at
parameters_shape One ts = ok ([], ts)
parameters_shape Two ts = ok ([], ts)
parameters_shape Three ts = list_shape ts

arguments_shape : (form : FileForm) (ts : List Lexeme) → IsShape (arguments_at form ts)
unfolding arguments_at
arguments_shape One ts = ok ([], ts)
arguments_shape Two ts = ok ([], ts)
arguments_shape Three ts = all_shape is_int int_at int_shape ts

tx_shape : (form : FileForm) (ts : List Lexeme) → IsShape (tx_at form ts)
unfolding tx_at
tx_shape form ts =
    bind (form_at (codes "tx") ts) _ (form_shape (codes "tx") ts) (λ inside. bind (name_at inside) _ (name_shape inside)
    (λ n. bind (parameters_at form n.1) _ (parameters_shape form n.1) (λ p. bind (stmt_at form 31 p.1) _ (stmt_shape form 31 p.1)
    (λ b. bind (expr_at form 31 b.1) _ (expr_shape form 31 b.1) (λ v. bind (close_at v.1) _ (close_shape v.1) (λ rest. ok _))))))

run_shape : (form : FileForm) (ts : List Lexeme) → IsShape (run_at form ts)
unfolding run_at
run_shape form ts =
    bind (form_at (codes "run") ts) _ (form_shape (codes "run") ts) (λ inside. bind (name_at inside) _ (name_shape inside)
    (λ n. bind (int_at n.1) _ (int_shape n.1) (λ c. bind (arguments_at form c.1) _ (arguments_shape form c.1)
    (λ a. bind (close_at a.1) _ (close_shape a.1) (λ rest. ok _)))))

end_shape : (ts : List Lexeme) → IsShape (end_at ts)
unfolding end_at
end_shape [] = ok tt
end_shape (t ∷ ts) = err

numbered_shape : (number : ℤ) → IsShape (form_numbered number)
numbered_shape number =
    only_cond faults.Shape (int_eq number (pos 2)) (done Two) _ (ok Two) (only_cond faults.Shape (int_eq number (pos 3)) (done Three) (Err faults.Shape) (ok Three) err)

announced_shape : (ts : List Lexeme) → IsShape (announced_at ts)
unfolding announced_at
announced_shape ts =
    bind (form_at (codes "stm") ts) _ (form_shape (codes "stm") ts) (λ inside. bind (int_at inside) _ (int_shape inside) (λ n. bind (form_numbered n.0) _ (numbered_shape n.0) (λ form. bind (close_at n.1) _ (close_shape n.1) (λ rest. ok (form, rest)))))

heading_shape : (ts : List Lexeme) → IsShape (heading_at ts)
unfolding heading_at
heading_shape ts = only_cond faults.Shape (begins (codes "stm") ts) (announced_at ts) (done (One, ts)) (announced_shape ts) (ok (One, ts))

pub file_shape : (ts : List Lexeme) → IsShape (file_of ts)
unfolding file_of
file_shape ts =
    bind (heading_at ts) _ (heading_shape ts)
    (λ h. bind (all_of (begins (codes "var")) (pair_at (codes "var")) h.1) _ (all_shape (begins (codes "var")) (pair_at (codes "var")) (pair_shape (codes "var")) h.1)
    (λ v. bind (tables_at h.0 v.1) _ (tables_shape h.0 v.1)
    (λ n. bind (conditions_at h.0 n.1) _ (conditions_shape h.0 n.1)
    (λ a. bind (all_of (begins (codes "tx")) (tx_at h.0) a.1) _ (all_shape (begins (codes "tx")) (tx_at h.0) (tx_shape h.0) a.1)
    (λ t. bind (all_of (begins (codes "run")) (run_at h.0) t.1) _ (all_shape (begins (codes "run")) (run_at h.0) (run_shape h.0) t.1)
    (λ r. bind (end_at r.1) _ (end_shape r.1) (λ u. ok _)))))))
