-- Files that are read to the end, and how what is wanted can be ended.
use Rattle.std.proofs.Common.{◌≡◌, ℕ, suc, List, [], ◌∷◌, ◌++◌, Option, Some, None, Result, Ok, Err, refl, sym, ap, ◌∙◌, arith}
use Rattle.std.specs.Prelude.{pos, codes}
use Rattle.text_words.specs.Tokens.{Lexeme, Opens, Closes}
use Rattle.text_words.specs.Tokens as token
use Rattle.text_words.specs.Answers.{◌>>=◌}
use Rattle.text_words.specs.TokenReading.{close_at, name_at, int_at, is_open, open_at, word_at, form_at, begins, all_of}
use Rattle.text_words.specs.declared.fault.ReadFault.{ReadFault}
use Rattle.text_words.proofs.Many.{all-stop}
use Rattle.text_grammar.specs.Tree.{File, Pair, Table, Always, Declaration, Run}
use Rattle.text_grammar.specs.Tree as tree
use Rattle.text_grammar.specs.Reading.{compound_with, expr_at, cond_at, stmt_at, pair_at, table_at, tables_at, always_at, conditions_at, tx_at, run_at, end_at, heading_at, file_of}
use Rattle.text_grammar.specs.declared.words.Operator.TheVariants as operator
use Rattle.text_grammar.specs.declared.words.Comparison.TheVariants as comparison
use Rattle.text_grammar.specs.declared.file.FileForm.{FileForm}
use Rattle.text_grammar.specs.declared.file.FileForm.TheVariants.{One, Two, Three}
use Rattle.text_grammar.proofs.Exprs.{expr_again}
use Rattle.text_grammar.proofs.Conds.{cond_again}
use Rattle.text_grammar.proofs.Stmts.{stmt_again}
use Rattle.text_grammar.proofs.Lists.{list_again, names_stop, ints_stop}
use Rattle.text_grammar.proofs.Files.{file_takes, file_again}
use Rattle.explain_files.specs.declared.wanted.Section.{Section}
use Rattle.explain_files.specs.declared.wanted.Section.TheVariants as section
use Rattle.explain_files.specs.declared.wanted.Kind.TheVariants as kind
use Rattle.explain_files.specs.declared.wanted.NumberUse.{NumberUse}
use Rattle.explain_files.specs.declared.wanted.Wanted.{Wanted}
use Rattle.explain_files.specs.declared.wanted.Wanted.TheVariants as want
use Rattle.explain_files.specs.Forms.{form_in, part_behind}
use Rattle.explain_files.specs.Walking.{IsFileOf}
use Rattle.explain_files.specs.Wanting.{Left, Whole, left_of, kept, none_left, ◌▷◌, from_runs, from_txs, from_conditions, from_tables, behind_variables, from_variables, from_start, from_part, read_test, read_keyword, read_one}
use Rattle.explain_files.proofs.Forms.{parts_end, parameters_end, numbers_end}
use Rattle.explain_files.proofs.Declared.{found, kind_found, start_item}

-- ---- a file is read to the end exactly where the tokens are those of one

abbrev ended : File → Whole
ended f = Ok tt

abbrev made : File → Result File ReadFault
made f = Ok f

bind_to : {A B C : Type 0} (r : Result A ReadFault) (f : A → Result B ReadFault) (g : B → Result C ReadFault) (h : A → Result C ReadFault) → ((x : A) → (f x >>= g) ≡ h x) → ((r >>= f) >>= g) ≡ (r >>= h)
bind_to (Ok x) f g h e = e x
bind_to (Err d) f g h e = refl

last : (r : Whole) (f : File) → ((r >>= λ u. made f) >>= ended) ≡ r
last (Ok u) f = refl
last (Err d) f = refl

abbrev of_runs : FileForm → List Pair → List Table → List Always → List Declaration → List Lexeme → Result File ReadFault
of_runs form vars tables always txs ts =
    all_of (begins (codes "run")) (run_at form) ts >>= λ runs. end_at runs.1 >>= λ u. made (record { form = form; vars = vars; tables = tables; always = always; txs = txs; runs = runs.0 })

abbrev of_txs : FileForm → List Pair → List Table → List Always → List Lexeme → Result File ReadFault
of_txs form vars tables always ts = all_of (begins (codes "tx")) (tx_at form) ts >>= λ txs. of_runs form vars tables always txs.0 txs.1

abbrev of_conditions : FileForm → List Pair → List Table → List Lexeme → Result File ReadFault
of_conditions form vars tables ts = conditions_at form ts >>= λ always. of_txs form vars tables always.0 always.1

abbrev of_tables : FileForm → List Pair → List Lexeme → Result File ReadFault
of_tables form vars ts = tables_at form ts >>= λ tables. of_conditions form vars tables.0 tables.1

abbrev of_variables : FileForm → List Lexeme → Result File ReadFault
of_variables form ts = all_of (begins (codes "var")) (pair_at (codes "var")) ts >>= λ vars. of_tables form vars.0 vars.1

runs_whole : (form : FileForm) (vars : List Pair) (tables : List Table) (always : List Always) (txs : List Declaration) (ts : List Lexeme) → (of_runs form vars tables always txs ts >>= ended) ≡ from_runs form ts
unfolding from_runs
runs_whole form vars tables always txs ts = bind_to (all_of (begins (codes "run")) (run_at form) ts) _ ended _ (λ runs. last (end_at runs.1) _)

txs_whole : (form : FileForm) (vars : List Pair) (tables : List Table) (always : List Always) (ts : List Lexeme) → (of_txs form vars tables always ts >>= ended) ≡ from_txs form ts
unfolding from_txs
txs_whole form vars tables always ts = bind_to (all_of (begins (codes "tx")) (tx_at form) ts) _ ended _ (λ txs. runs_whole form vars tables always txs.0 txs.1)

-- the conditions of form 3 stand behind its tables
conditions_whole : (vars : List Pair) (tables : List Table) (ts : List Lexeme) → (of_conditions Three vars tables ts >>= ended) ≡ from_conditions Three ts
unfolding conditions_at from_conditions
conditions_whole vars tables ts = bind_to (all_of (begins (codes "always")) (always_at Three) ts) _ ended _ (λ always. txs_whole Three vars tables always.0 always.1)

tables_whole : (form : FileForm) (vars : List Pair) (ts : List Lexeme) → (of_tables form vars ts >>= ended) ≡ behind_variables form ts
unfolding tables_at conditions_at from_conditions from_tables
tables_whole One vars ts = txs_whole One vars [] [] ts
tables_whole Two vars ts = bind_to (all_of (begins (codes "always")) (always_at Two) ts) _ ended _ (λ always. txs_whole Two vars [] always.0 always.1)
tables_whole Three vars ts = bind_to (all_of (begins (codes "table")) table_at ts) _ ended _ (λ tables. conditions_whole vars tables.0 tables.1)

variables_whole : (form : FileForm) (ts : List Lexeme) → (of_variables form ts >>= ended) ≡ from_variables form ts
unfolding from_variables
variables_whole form ts = bind_to (all_of (begins (codes "var")) (pair_at (codes "var")) ts) _ ended _ (λ vars. tables_whole form vars.0 vars.1)

pub file_whole : (ts : List Lexeme) → (file_of ts >>= ended) ≡ from_start ts
unfolding file_of from_start
file_whole ts = bind_to (heading_at ts) _ ended _ (λ heading. variables_whole heading.0 heading.1)

whole_file : (r : Result File ReadFault) → none_left (r >>= ended) ≡ Some [] → (f : File) × (r ≡ made f)
whole_file (Ok f) e = (f, refl)
whole_file (Err d) e = absurd cc

-- tokens that are read to the end are those of a file
pub is_file : (ts : List Lexeme) → none_left (from_start ts) ≡ Some [] → IsFileOf ts
is_file ts e =
    let found = whole_file (file_of ts) (ap none_left (file_whole ts) ∙ e) in
    let takes = file_takes ts found.0 found.1 in
    record { file = found.0; spelled = takes.spelled; formed = takes.formed; parts = takes.parts }

-- and those of a file are read to the end
pub file_is : (ts : List Lexeme) → IsFileOf ts → none_left (from_start ts) ≡ Some []
file_is ts h =
    ap none_left (sym (file_whole ts)) ∙ ap (λ (us : List Lexeme). none_left (file_of us >>= ended)) h.spelled ∙ ap (λ (r : Result File ReadFault). none_left (r >>= ended)) (file_again h.file h.formed h.parts)

-- ---- the shortest end of what is wanted

abbrev zero_is : tree.Expr
zero_is = tree.Int (pos 0)

abbrev sum_is : tree.Expr
sum_is = tree.Binary operator.Add zero_is zero_is

abbrev equal_is : tree.Cond
equal_is = tree.Compare comparison.Eq zero_is zero_is

abbrev pub finish : Wanted → List Lexeme
finish (want.Declarations part) = []
finish (want.Word part) = token.Name (codes "run") ∷ token.Name (codes "a") ∷ token.Int (pos 0) ∷ Closes ∷ []
finish want.FormNumber = token.Int (pos 2) ∷ Closes ∷ []
finish want.Close = Closes ∷ []
finish (want.Name used) = token.Name (codes "a") ∷ []
finish (want.Number used) = token.Int (pos 0) ∷ []
finish (want.Expr form depth) = token.Int (pos 0) ∷ []
finish (want.Head form depth) = token.Name (codes "add") ∷ token.Int (pos 0) ∷ token.Int (pos 0) ∷ Closes ∷ []
finish (want.Cond form depth) = Opens ∷ token.Name (codes "eq") ∷ token.Int (pos 0) ∷ token.Int (pos 0) ∷ Closes ∷ []
finish (want.Test form depth) = token.Name (codes "eq") ∷ token.Int (pos 0) ∷ token.Int (pos 0) ∷ Closes ∷ []
finish (want.Stmt form depth) = Opens ∷ token.Name (codes "skip") ∷ Closes ∷ []
finish (want.Keyword form depth) = token.Name (codes "skip") ∷ Closes ∷ []
finish (want.Parts form depth) = Closes ∷ []
finish want.List = Opens ∷ Closes ∷ []
finish want.Parameters = Closes ∷ []
finish (want.Numbers used) = Closes ∷ []

pub expr_ends : (form : FileForm) (depth : ℕ) (ts : List Lexeme) → read_one (want.Expr form depth) (finish (want.Expr form depth) ++ ts) ≡ Some ts
expr_ends form depth ts = ap left_of (expr_again form depth zero_is ts (omega arith, refl))

pub cond_ends : (form : FileForm) (depth : ℕ) (ts : List Lexeme) → read_one (want.Cond form depth) (finish (want.Cond form depth) ++ ts) ≡ Some ts
cond_ends form depth ts = ap left_of (cond_again form (suc depth) equal_is ts (omega arith, refl))

pub stmt_ends : (form : FileForm) (depth : ℕ) (ts : List Lexeme) → read_one (want.Stmt form depth) (finish (want.Stmt form depth) ++ ts) ≡ Some ts
stmt_ends form depth ts = ap left_of (stmt_again form (suc depth) tree.Skip ts (omega arith, refl))

head_inside : (form : FileForm) (d : ℕ) (us : List Lexeme) → compound_with form (expr_at form d) us ≡ expr_at form (suc d) (Opens ∷ us)
unfolding expr_at
head_inside form d us = refl

pub head_ends : (form : FileForm) (depth : ℕ) (ts : List Lexeme) → read_one (want.Head form depth) (finish (want.Head form depth) ++ ts) ≡ Some ts
head_ends form depth ts = ap left_of (head_inside form depth (finish (want.Head form depth) ++ ts)) ∙ ap left_of (expr_again form (suc depth) sum_is ts (omega arith, refl))

test_inside : (form : FileForm) (d : ℕ) (us : List Lexeme) → read_test form d us ≡ cond_at form (suc d) (Opens ∷ us)
unfolding cond_at word_at open_at read_test
test_inside form d us = refl

pub test_ends : (form : FileForm) (depth : ℕ) (ts : List Lexeme) → read_one (want.Test form depth) (finish (want.Test form depth) ++ ts) ≡ Some ts
test_ends form depth ts = ap left_of (test_inside form depth (finish (want.Test form depth) ++ ts)) ∙ ap left_of (cond_again form (suc depth) equal_is ts (omega arith, refl))

keyword_inside : (form : FileForm) (d : ℕ) (us : List Lexeme) → read_keyword form d us ≡ stmt_at form (suc d) (Opens ∷ us)
unfolding stmt_at word_at open_at read_keyword
keyword_inside form d us = refl

pub keyword_ends : (form : FileForm) (depth : ℕ) (ts : List Lexeme) → read_one (want.Keyword form depth) (finish (want.Keyword form depth) ++ ts) ≡ Some ts
keyword_ends form depth ts = ap left_of (keyword_inside form depth (finish (want.Keyword form depth) ++ ts)) ∙ ap left_of (stmt_again form (suc depth) tree.Skip ts (omega arith, refl))

pub some_left : (l : Left) → (l ▷ λ us. Some us) ≡ l
some_left (Some us) = refl
some_left None = refl

pub parts_ends : (form : FileForm) (depth : ℕ) (ts : List Lexeme) → read_one (want.Parts form depth) (finish (want.Parts form depth) ++ ts) ≡ Some ts
unfolding is_open open_at close_at
parts_ends form depth ts = sym (some_left (read_one (want.Parts form depth) (Closes ∷ ts))) ∙ parts_end form depth (Closes ∷ ts) (λ us. Some us) refl

pub simple_ends : (ts : List Lexeme) → (kept (close_at (Closes ∷ ts)) ≡ Some ts) × (left_of (name_at (token.Name (codes "a") ∷ ts)) ≡ Some ts) × (left_of (int_at (token.Int (pos 0) ∷ ts)) ≡ Some ts)
unfolding close_at name_at int_at
simple_ends ts = (refl, refl, refl)

pub list_ends : (ts : List Lexeme) → read_one want.List (finish want.List ++ ts) ≡ Some ts
list_ends ts = ap left_of (list_again [] ts)

pub parameters_ends : (ts : List Lexeme) → read_one want.Parameters (finish want.Parameters ++ ts) ≡ Some ts
unfolding close_at
parameters_ends ts = sym (some_left (read_one want.Parameters (Closes ∷ ts))) ∙ parameters_end (Closes ∷ ts) (λ us. Some us) (names_stop ts)

pub numbers_ends : (used : NumberUse) (ts : List Lexeme) → read_one (want.Numbers used) (finish (want.Numbers used) ++ ts) ≡ Some ts
unfolding close_at
numbers_ends used ts = sym (some_left (read_one (want.Numbers used) (Closes ∷ ts))) ∙ numbers_end (Closes ∷ ts) (λ us. Some us) (ints_stop ts)

-- ---- the parts of a file, where nothing more stands

runs_end : (form : FileForm) → none_left (from_runs form []) ≡ Some []
unfolding from_runs begins form_at word_at open_at end_at
runs_end form = rw (all-stop (begins (codes "run")) (run_at form) [] refl) refl

txs_end : (form : FileForm) → none_left (from_txs form []) ≡ Some []
unfolding from_txs begins form_at word_at open_at
txs_end form = rw (all-stop (begins (codes "tx")) (tx_at form) [] refl) (runs_end form)

conditions_end : (form : FileForm) → none_left (from_conditions form []) ≡ Some []
unfolding from_conditions begins form_at word_at open_at
conditions_end form = rw (all-stop (begins (codes "always")) (always_at form) [] refl) (txs_end form)

tables_end : none_left (from_tables []) ≡ Some []
unfolding from_tables begins form_at word_at open_at
tables_end = rw (all-stop (begins (codes "table")) table_at [] refl) (conditions_end Three)

behind_end : (form : FileForm) → none_left (behind_variables form []) ≡ Some []
behind_end One = txs_end One
behind_end Two = conditions_end Two
behind_end Three = tables_end

variables_end : (form : FileForm) → none_left (from_variables form []) ≡ Some []
unfolding from_variables begins form_at word_at open_at
variables_end form = rw (all-stop (begins (codes "var")) (pair_at (codes "var")) [] refl) (behind_end form)

start_end : none_left (from_start []) ≡ Some []
unfolding from_start heading_at begins form_at word_at open_at
start_end = variables_end One

pub part_end : (part : Section) → none_left (from_part part []) ≡ Some []
part_end section.Start = start_end
part_end (section.Variables form) = variables_end form
part_end section.Tables = tables_end
part_end (section.Conditions form) = conditions_end form
part_end (section.Transactions form) = txs_end form
part_end (section.Runs form) = runs_end form

pub number_ends : read_one want.FormNumber (finish want.FormNumber) ≡ Some []
unfolding int_at close_at
number_ends = start_item (finish want.FormNumber) ∙ variables_end Two

abbrev one_run : List Lexeme
one_run = token.Name (codes "a") ∷ token.Int (pos 0) ∷ Closes ∷ []

abbrev some_part : Section → Option Section
some_part part = Some part

run_stands : (part : Section) → part_behind part kind.Run ≡ some_part (section.Runs (form_in part))
run_stands section.Start = refl
run_stands (section.Variables form) = refl
run_stands section.Tables = refl
run_stands (section.Conditions form) = refl
run_stands (section.Transactions form) = refl
run_stands (section.Runs form) = refl

run_ends : (form : FileForm) → found kind.Run one_run (some_part (section.Runs form)) ≡ Some []
unfolding name_at int_at close_at
run_ends One = runs_end One
run_ends Two = runs_end Two
run_ends Three = numbers_end (Closes ∷ []) (λ us. none_left (from_runs Three us)) (ints_stop []) ∙ runs_end Three

pub word_ends : (part : Section) → none_left (from_part part (Opens ∷ finish (want.Word part))) ≡ Some []
word_ends part = kind_found part kind.Run one_run ∙ ap (found kind.Run one_run) (run_stands part) ∙ run_ends (form_in part)
