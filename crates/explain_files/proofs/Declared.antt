-- What is read of declarations is what is wanted there.
use Rattle.std.proofs.Common.{◌≡◌, ℕ, Bool, true, false, cond, List, [], ◌∷◌, Option, Some, None, Result, Ok, Err, refl, ap, ◌∙◌, ◌⊎◌, inl, inr}
use Rattle.std.specs.Prelude.{ℤ, codes}
use Rattle.std.specs.Result.{result_ok}
use Rattle.std.specs.Str.{bytes_eq}
use Rattle.std.proofs.lemmas.Slice.Eq.{bytes_eq-Decides}
use Rattle.text_words.specs.Tokens.{Lexeme, Opens, Closes}
use Rattle.text_words.specs.Tokens as token
use Rattle.text_words.specs.Answers.{◌>>=◌}
use Rattle.text_words.specs.TokenReading.{Read, close_at, name_at, int_at, is_int, open_at, word_at, form_at, begins, all_of}
use Rattle.text_words.specs.declared.fault.ReadFault.{ReadFault}
use Rattle.text_words.specs.declared.fault.ReadFault.TheVariants.{Shape}
use Rattle.text_words.proofs.Steps.{form_again}
use Rattle.text_words.proofs.Many.{all-stop, all-more}
use Rattle.text_grammar.specs.Reading.{expr_at, cond_at, stmt_at, pair_at, table_at, always_at, list_at, parameters_at, tx_at, arguments_at, run_at, end_at, form_numbered, announced_at, heading_at}
use Rattle.text_grammar.specs.declared.file.FileForm.{FileForm}
use Rattle.text_grammar.specs.declared.file.FileForm.TheVariants.{One, Two, Three}
use Rattle.text_grammar.proofs.Files.{pair_shortens, table_shortens, always_shortens, tx_shortens, run_shortens}
use Rattle.explain_files.specs.declared.wanted.NameUse.TheVariants as name
use Rattle.explain_files.specs.declared.wanted.NumberUse.TheVariants as number
use Rattle.explain_files.specs.declared.wanted.Kind.{Kind}
use Rattle.explain_files.specs.declared.wanted.Kind.TheVariants as kind
use Rattle.explain_files.specs.declared.wanted.Section.{Section}
use Rattle.explain_files.specs.declared.wanted.Section.TheVariants as section
use Rattle.explain_files.specs.declared.wanted.Wanted.{Wanted}
use Rattle.explain_files.specs.declared.wanted.Wanted.TheVariants as want
use Rattle.explain_files.specs.Forms.{kind_of, form_in, tables_in, conditions_in, part_behind, tx_wants, run_end, within, behind_part, behind_kind, behind_stm, behind_declared}
use Rattle.explain_files.specs.Wanting.{Left, left_of, kept, none_left, ◌▷◌, from_runs, from_txs, from_conditions, from_tables, behind_variables, from_variables, from_start, from_part, read_numbers, read_all, onto}
use Rattle.explain_files.proofs.Chains.{left_to, close_to, first_to, then_then, then_to}
use Rattle.explain_files.proofs.Forms.{after, ends_alike}

-- ---- one part of a file, where nothing of it stands next

runs_refuse : (form : FileForm) (ts : List Lexeme) → begins (codes "run") ts ≡ false → end_at ts ≡ Err Shape → none_left (from_runs form ts) ≡ None
unfolding from_runs
runs_refuse form ts h e = rw (all-stop (begins (codes "run")) (run_at form) ts h, e) refl

txs_pass : (form : FileForm) (ts : List Lexeme) → begins (codes "tx") ts ≡ false → from_txs form ts ≡ from_runs form ts
unfolding from_txs
txs_pass form ts h = rw (all-stop (begins (codes "tx")) (tx_at form) ts h) refl

conditions_pass : (form : FileForm) (ts : List Lexeme) → begins (codes "always") ts ≡ false → from_conditions form ts ≡ from_txs form ts
unfolding from_conditions
conditions_pass form ts h = rw (all-stop (begins (codes "always")) (always_at form) ts h) refl

tables_pass : (ts : List Lexeme) → begins (codes "table") ts ≡ false → from_tables ts ≡ from_conditions Three ts
unfolding from_tables
tables_pass ts h = rw (all-stop (begins (codes "table")) table_at ts h) refl

variables_pass : (form : FileForm) (ts : List Lexeme) → begins (codes "var") ts ≡ false → from_variables form ts ≡ behind_variables form ts
unfolding from_variables
variables_pass form ts h = rw (all-stop (begins (codes "var")) (pair_at (codes "var")) ts h) refl

start_pass : (ts : List Lexeme) → begins (codes "stm") ts ≡ false → from_start ts ≡ from_variables One ts
unfolding from_start heading_at
start_pass ts h = rw h refl

-- ---- one part of a file, where an item of it stands next

runs_item : (form : FileForm) (ts : List Lexeme) → begins (codes "run") ts ≡ true → none_left (from_runs form ts) ≡ (left_of (run_at form ts) ▷ λ us. none_left (from_runs form us))
unfolding from_runs
runs_item form ts h =
    rw (all-more (begins (codes "run")) (run_at form) (run_shortens form) ts h)
    (first_to (run_at form ts) (all_of (begins (codes "run")) (run_at form)) end_at (from_runs form) (λ us. refl))

txs_item : (form : FileForm) (ts : List Lexeme) → begins (codes "tx") ts ≡ true → none_left (from_txs form ts) ≡ (left_of (tx_at form ts) ▷ λ us. none_left (from_txs form us))
unfolding from_txs
txs_item form ts h =
    rw (all-more (begins (codes "tx")) (tx_at form) (tx_shortens form) ts h)
    (first_to (tx_at form ts) (all_of (begins (codes "tx")) (tx_at form)) (from_runs form) (from_txs form) (λ us. refl))

conditions_item : (form : FileForm) (ts : List Lexeme) → begins (codes "always") ts ≡ true → none_left (from_conditions form ts) ≡ (left_of (always_at form ts) ▷ λ us. none_left (from_conditions form us))
unfolding from_conditions
conditions_item form ts h =
    rw (all-more (begins (codes "always")) (always_at form) (always_shortens form) ts h)
    (first_to (always_at form ts) (all_of (begins (codes "always")) (always_at form)) (from_txs form) (from_conditions form) (λ us. refl))

tables_item : (ts : List Lexeme) → begins (codes "table") ts ≡ true → none_left (from_tables ts) ≡ (left_of (table_at ts) ▷ λ us. none_left (from_tables us))
unfolding from_tables
tables_item ts h =
    rw (all-more (begins (codes "table")) table_at table_shortens ts h)
    (first_to (table_at ts) (all_of (begins (codes "table")) table_at) (from_conditions Three) from_tables (λ us. refl))

variables_item : (form : FileForm) (ts : List Lexeme) → begins (codes "var") ts ≡ true → none_left (from_variables form ts) ≡ (left_of (pair_at (codes "var") ts) ▷ λ us. none_left (from_variables form us))
unfolding from_variables
variables_item form ts h =
    rw (all-more (begins (codes "var")) (pair_at (codes "var")) (pair_shortens (codes "var")) ts h)
    (first_to (pair_at (codes "var") ts) (all_of (begins (codes "var")) (pair_at (codes "var"))) (behind_variables form) (from_variables form) (λ us. refl))

-- ---- the announcement of a form

abbrev headed : FileForm → List Lexeme → Read FileForm
headed form rest = Ok (form, rest)

closed : (form : FileForm) (c : Result (List Lexeme) ReadFault) → none_left ((c >>= λ rest. headed form rest) >>= λ heading. from_variables heading.0 heading.1) ≡ (kept c ▷ λ us. none_left (from_variables form us))
closed form (Ok rest) = refl
closed form (Err e) = refl

-- behind the number of a form, if it is one
abbrev pub numbered : Option FileForm → List Lexeme → Left
numbered None us = None
numbered (Some form) us = kept (close_at us) ▷ λ vs. none_left (from_variables form vs)

announced : (r : Result FileForm ReadFault) (us : List Lexeme) → none_left ((r >>= λ form. close_at us >>= λ rest. headed form rest) >>= λ heading. from_variables heading.0 heading.1) ≡ numbered (result_ok r) us
announced (Ok form) us = closed form (close_at us)
announced (Err e) us = refl

abbrev pub number_left : Read ℤ → Left
number_left (Ok number) = numbered (result_ok (form_numbered number.0)) number.1
number_left (Err e) = None

number_item : (r : Read ℤ) → none_left ((r >>= λ number. form_numbered number.0 >>= λ form. close_at number.1 >>= λ rest. headed form rest) >>= λ heading. from_variables heading.0 heading.1) ≡ number_left r
number_item (Ok number) = announced (form_numbered number.0) number.1
number_item (Err e) = refl

pub start_item : (ts : List Lexeme) → none_left (from_start (Opens ∷ token.Name (codes "stm") ∷ ts)) ≡ number_left (int_at ts)
unfolding from_start heading_at announced_at begins
start_item ts = rw (form_again (codes "stm") ts) (number_item (int_at ts))

-- ---- the items

pair_reads : (word : List ℕ) (ts : List Lexeme) (k : List Lexeme → Left) → (left_of (pair_at word (Opens ∷ token.Name word ∷ ts)) ▷ k) ≡ (left_of (name_at ts) ▷ λ us. left_of (int_at us) ▷ λ vs. kept (close_at vs) ▷ k)
unfolding pair_at
pair_reads word ts k = rw (form_again word ts) (left_to (name_at ts) _ _ _ (λ n. left_to (int_at n.1) _ _ _ (λ v. close_to (close_at v.1) _ _)))

-- a table behind its word
abbrev leads_table : List Lexeme → (List Lexeme → Left) → Left
leads_table ts k = left_of (name_at ts) ▷ λ us. left_of (int_at us) ▷ λ vs. left_of (int_at vs) ▷ λ ws. left_of (read_numbers ws) ▷ k

table_reads : (ts : List Lexeme) (k : List Lexeme → Left) → (left_of (table_at (Opens ∷ token.Name (codes "table") ∷ ts)) ▷ k) ≡ leads_table ts k
unfolding table_at read_numbers
table_reads ts k =
    rw (form_again (codes "table") ts) (left_to (name_at ts) _ _ _ (λ n. left_to (int_at n.1) _ _ _ (λ c. left_to (int_at c.1) _ _ _ (λ v. ends_alike (all_of is_int int_at v.1) _ _ k))))

-- a condition behind its word
abbrev leads_always : FileForm → List Lexeme → (List Lexeme → Left) → Left
leads_always form ts k = left_of (name_at ts) ▷ λ us. left_of (cond_at form 31 us) ▷ λ vs. kept (close_at vs) ▷ k

always_reads : (form : FileForm) (ts : List Lexeme) (k : List Lexeme → Left) → (left_of (always_at form (Opens ∷ token.Name (codes "always") ∷ ts)) ▷ k) ≡ leads_always form ts k
unfolding always_at
always_reads form ts k = rw (form_again (codes "always") ts) (left_to (name_at ts) _ _ _ (λ n. left_to (cond_at form 31 n.1) _ _ _ (λ v. close_to (close_at v.1) _ _)))

-- a body and a result, and the end of a transaction
abbrev leads_body : FileForm → List Lexeme → (List Lexeme → Left) → Left
leads_body form us k = left_of (stmt_at form 31 us) ▷ λ vs. left_of (expr_at form 31 vs) ▷ λ ws. kept (close_at ws) ▷ k

-- a transaction behind its word
abbrev leads_tx : FileForm → List Lexeme → (List Lexeme → Left) → Left
leads_tx One ts k = left_of (name_at ts) ▷ λ us. leads_body One us k
leads_tx Two ts k = left_of (name_at ts) ▷ λ us. leads_body Two us k
leads_tx Three ts k = left_of (name_at ts) ▷ λ us. left_of (list_at us) ▷ λ ls. leads_body Three ls k

tx_reads : (form : FileForm) (ts : List Lexeme) (k : List Lexeme → Left) → (left_of (tx_at form (Opens ∷ token.Name (codes "tx") ∷ ts)) ▷ k) ≡ leads_tx form ts k
unfolding tx_at parameters_at
tx_reads One ts k =
    rw (form_again (codes "tx") ts) (left_to (name_at ts) _ _ _ (λ n. left_to (stmt_at One 31 n.1) _ _ _ (λ s. left_to (expr_at One 31 s.1) _ _ _ (λ v. close_to (close_at v.1) _ _))))
tx_reads Two ts k =
    rw (form_again (codes "tx") ts) (left_to (name_at ts) _ _ _ (λ n. left_to (stmt_at Two 31 n.1) _ _ _ (λ s. left_to (expr_at Two 31 s.1) _ _ _ (λ v. close_to (close_at v.1) _ _))))
tx_reads Three ts k =
    rw (form_again (codes "tx") ts)
    (left_to (name_at ts) _ _ _ (λ n. left_to (list_at n.1) _ _ _ (λ l. left_to (stmt_at Three 31 l.1) _ _ _ (λ s. left_to (expr_at Three 31 s.1) _ _ _ (λ v. close_to (close_at v.1) _ _)))))

-- a run behind its word
abbrev leads_run : FileForm → List Lexeme → (List Lexeme → Left) → Left
leads_run One ts k = left_of (name_at ts) ▷ λ us. left_of (int_at us) ▷ λ vs. kept (close_at vs) ▷ k
leads_run Two ts k = left_of (name_at ts) ▷ λ us. left_of (int_at us) ▷ λ vs. kept (close_at vs) ▷ k
leads_run Three ts k = left_of (name_at ts) ▷ λ us. left_of (int_at us) ▷ λ vs. left_of (read_numbers vs) ▷ k

run_reads : (form : FileForm) (ts : List Lexeme) (k : List Lexeme → Left) → (left_of (run_at form (Opens ∷ token.Name (codes "run") ∷ ts)) ▷ k) ≡ leads_run form ts k
unfolding run_at arguments_at read_numbers
run_reads One ts k = rw (form_again (codes "run") ts) (left_to (name_at ts) _ _ _ (λ n. left_to (int_at n.1) _ _ _ (λ v. close_to (close_at v.1) _ _)))
run_reads Two ts k = rw (form_again (codes "run") ts) (left_to (name_at ts) _ _ _ (λ n. left_to (int_at n.1) _ _ _ (λ v. close_to (close_at v.1) _ _)))
run_reads Three ts k = rw (form_again (codes "run") ts) (left_to (name_at ts) _ _ _ (λ n. left_to (int_at n.1) _ _ _ (λ v. ends_alike (all_of is_int int_at v.1) _ _ k)))

-- ---- a word behind a parenthesis

abbrev pub kind_word : Kind → List ℕ
kind_word kind.Variable = codes "var"
kind_word kind.Table = codes "table"
kind_word kind.Condition = codes "always"
kind_word kind.Transaction = codes "tx"
kind_word kind.Run = codes "run"

abbrev pub at : Kind → List Lexeme → List Lexeme
at k ts = Opens ∷ token.Name (kind_word k) ∷ ts

-- another word than this one does not begin it, and this one does
other : (word wanted : List ℕ) (ts : List Lexeme) → bytes_eq word wanted ≡ false → begins wanted (Opens ∷ token.Name word ∷ ts) ≡ false
unfolding begins form_at word_at open_at name_at
other word wanted ts h = rw h refl

itself : (word : List ℕ) (ts : List Lexeme) → begins word (Opens ∷ token.Name word ∷ ts) ≡ true
unfolding begins
itself word ts = rw (form_again word ts) refl

not_ended : (t : Lexeme) (ts : List Lexeme) → end_at (t ∷ ts) ≡ Err Shape
unfolding end_at
not_ended t ts = refl

-- no word of a declaration stands next
pub record Foreign (ts : List Lexeme) : Type 0 where
  pub stm : begins (codes "stm") ts ≡ false
  pub var : begins (codes "var") ts ≡ false
  pub table : begins (codes "table") ts ≡ false
  pub always : begins (codes "always") ts ≡ false
  pub tx : begins (codes "tx") ts ≡ false
  pub run : begins (codes "run") ts ≡ false
  pub unended : end_at ts ≡ Err Shape

txs_refuse : (form : FileForm) (ts : List Lexeme) → Foreign ts → none_left (from_txs form ts) ≡ None
txs_refuse form ts h = ap none_left (txs_pass form ts h.tx) ∙ runs_refuse form ts h.run h.unended

conditions_refuse : (form : FileForm) (ts : List Lexeme) → Foreign ts → none_left (from_conditions form ts) ≡ None
conditions_refuse form ts h = ap none_left (conditions_pass form ts h.always) ∙ txs_refuse form ts h

tables_refuse : (ts : List Lexeme) → Foreign ts → none_left (from_tables ts) ≡ None
tables_refuse ts h = ap none_left (tables_pass ts h.table) ∙ conditions_refuse Three ts h

behind_refuse : (form : FileForm) (ts : List Lexeme) → Foreign ts → none_left (behind_variables form ts) ≡ None
behind_refuse One ts h = txs_refuse One ts h
behind_refuse Two ts h = conditions_refuse Two ts h
behind_refuse Three ts h = tables_refuse ts h

variables_refuse : (form : FileForm) (ts : List Lexeme) → Foreign ts → none_left (from_variables form ts) ≡ None
variables_refuse form ts h = ap none_left (variables_pass form ts h.var) ∙ behind_refuse form ts h

pub part_refuses : (part : Section) (ts : List Lexeme) → Foreign ts → none_left (from_part part ts) ≡ None
part_refuses section.Start ts h = ap none_left (start_pass ts h.stm) ∙ variables_refuse One ts h
part_refuses (section.Variables form) ts h = variables_refuse form ts h
part_refuses section.Tables ts h = tables_refuse ts h
part_refuses (section.Conditions form) ts h = conditions_refuse form ts h
part_refuses (section.Transactions form) ts h = txs_refuse form ts h
part_refuses (section.Runs form) ts h = runs_refuse form ts h.run h.unended

-- ---- a word of a declaration, where it may stand and where it may not

abbrev pub leads : Section → Kind → List Lexeme → (List Lexeme → Left) → Left
leads part kind.Variable ts k = left_of (name_at ts) ▷ λ us. left_of (int_at us) ▷ λ vs. kept (close_at vs) ▷ k
leads part kind.Table ts k = leads_table ts k
leads part kind.Condition ts k = leads_always (form_in part) ts k
leads part kind.Transaction ts k = leads_tx (form_in part) ts k
leads part kind.Run ts k = leads_run (form_in part) ts k

-- where it may stand, what it leads to, and else nothing
abbrev pub found : Kind → List Lexeme → Option Section → Left
found k ts None = None
found k ts (Some part) = leads part k ts (λ us. none_left (from_part part us))

runs_at_run : (form : FileForm) (ts : List Lexeme) → none_left (from_runs form (at kind.Run ts)) ≡ found kind.Run ts (Some (section.Runs form))
runs_at_run form ts = runs_item form (at kind.Run ts) (itself (codes "run") ts) ∙ run_reads form ts (λ us. none_left (from_runs form us))

txs_at_run : (form : FileForm) (ts : List Lexeme) → none_left (from_txs form (at kind.Run ts)) ≡ found kind.Run ts (Some (section.Runs form))
txs_at_run form ts = ap none_left (txs_pass form (at kind.Run ts) (other (codes "run") (codes "tx") ts refl)) ∙ runs_at_run form ts

txs_at_tx : (form : FileForm) (ts : List Lexeme) → none_left (from_txs form (at kind.Transaction ts)) ≡ found kind.Transaction ts (Some (section.Transactions form))
txs_at_tx form ts = txs_item form (at kind.Transaction ts) (itself (codes "tx") ts) ∙ tx_reads form ts (λ us. none_left (from_txs form us))

-- a word of an earlier part
runs_late : (form : FileForm) (word : List ℕ) (ts : List Lexeme) → bytes_eq word (codes "run") ≡ false → none_left (from_runs form (Opens ∷ token.Name word ∷ ts)) ≡ None
runs_late form word ts h = runs_refuse form (Opens ∷ token.Name word ∷ ts) (other word (codes "run") ts h) (not_ended Opens (token.Name word ∷ ts))

txs_late : (form : FileForm) (word : List ℕ) (ts : List Lexeme) → bytes_eq word (codes "run") ≡ false → bytes_eq word (codes "tx") ≡ false → none_left (from_txs form (Opens ∷ token.Name word ∷ ts)) ≡ None
txs_late form word ts h g = ap none_left (txs_pass form (Opens ∷ token.Name word ∷ ts) (other word (codes "tx") ts g)) ∙ runs_late form word ts h

conditions_over : (form : FileForm) (word : List ℕ) (ts : List Lexeme) → bytes_eq word (codes "always") ≡ false
    → none_left (from_conditions form (Opens ∷ token.Name word ∷ ts)) ≡ none_left (from_txs form (Opens ∷ token.Name word ∷ ts))
conditions_over form word ts h = ap none_left (conditions_pass form (Opens ∷ token.Name word ∷ ts) (other word (codes "always") ts h))

tables_over : (word : List ℕ) (ts : List Lexeme) → bytes_eq word (codes "table") ≡ false
    → none_left (from_tables (Opens ∷ token.Name word ∷ ts)) ≡ none_left (from_conditions Three (Opens ∷ token.Name word ∷ ts))
tables_over word ts h = ap none_left (tables_pass (Opens ∷ token.Name word ∷ ts) (other word (codes "table") ts h))

variables_over : (form : FileForm) (word : List ℕ) (ts : List Lexeme) → bytes_eq word (codes "var") ≡ false → none_left (from_variables form (Opens ∷ token.Name word ∷ ts)) ≡ none_left (behind_variables form (Opens ∷ token.Name word ∷ ts))
variables_over form word ts h = ap none_left (variables_pass form (Opens ∷ token.Name word ∷ ts) (other word (codes "var") ts h))

start_over : (word : List ℕ) (ts : List Lexeme) → bytes_eq word (codes "stm") ≡ false → none_left (from_start (Opens ∷ token.Name word ∷ ts)) ≡ none_left (from_variables One (Opens ∷ token.Name word ∷ ts))
start_over word ts h = ap none_left (start_pass (Opens ∷ token.Name word ∷ ts) (other word (codes "stm") ts h))

conditions_at_always : (form : FileForm) (ts : List Lexeme) → none_left (from_conditions form (at kind.Condition ts)) ≡ found kind.Condition ts (Some (section.Conditions form))
conditions_at_always form ts = conditions_item form (at kind.Condition ts) (itself (codes "always") ts) ∙ always_reads form ts (λ us. none_left (from_conditions form us))

tables_at_table : (ts : List Lexeme) → none_left (from_tables (at kind.Table ts)) ≡ found kind.Table ts (Some section.Tables)
tables_at_table ts = tables_item (at kind.Table ts) (itself (codes "table") ts) ∙ table_reads ts (λ us. none_left (from_tables us))

tables_at_always : (ts : List Lexeme) → none_left (from_tables (at kind.Condition ts)) ≡ found kind.Condition ts (Some (section.Conditions Three))
tables_at_always ts = tables_over (codes "always") ts refl ∙ conditions_at_always Three ts

tables_at_tx : (ts : List Lexeme) → none_left (from_tables (at kind.Transaction ts)) ≡ found kind.Transaction ts (Some (section.Transactions Three))
tables_at_tx ts = tables_over (codes "tx") ts refl ∙ conditions_over Three (codes "tx") ts refl ∙ txs_at_tx Three ts

tables_at_run : (ts : List Lexeme) → none_left (from_tables (at kind.Run ts)) ≡ found kind.Run ts (Some (section.Runs Three))
tables_at_run ts = tables_over (codes "run") ts refl ∙ conditions_over Three (codes "run") ts refl ∙ txs_at_run Three ts

-- a word of an earlier part
tables_late : (word : List ℕ) (ts : List Lexeme) → bytes_eq word (codes "table") ≡ false → bytes_eq word (codes "always") ≡ false → bytes_eq word (codes "run") ≡ false → bytes_eq word (codes "tx") ≡ false
    → none_left (from_tables (Opens ∷ token.Name word ∷ ts)) ≡ None
tables_late word ts h g e d = tables_over word ts h ∙ conditions_over Three word ts g ∙ txs_late Three word ts e d

variables_at_var : (form : FileForm) (ts : List Lexeme) → none_left (from_variables form (at kind.Variable ts)) ≡ found kind.Variable ts (Some (section.Variables form))
variables_at_var form ts = variables_item form (at kind.Variable ts) (itself (codes "var") ts) ∙ pair_reads (codes "var") ts (λ us. none_left (from_variables form us))

-- behind the variables, by the form
behind_at_table : (form : FileForm) (ts : List Lexeme) → none_left (behind_variables form (at kind.Table ts)) ≡ found kind.Table ts (tables_in form)
behind_at_table One ts = txs_late One (codes "table") ts refl refl
behind_at_table Two ts = conditions_over Two (codes "table") ts refl ∙ txs_late Two (codes "table") ts refl refl
behind_at_table Three ts = tables_at_table ts

behind_at_always : (form : FileForm) (ts : List Lexeme) → none_left (behind_variables form (at kind.Condition ts)) ≡ found kind.Condition ts (conditions_in form)
behind_at_always One ts = txs_late One (codes "always") ts refl refl
behind_at_always Two ts = conditions_at_always Two ts
behind_at_always Three ts = tables_at_always ts

behind_at_tx : (form : FileForm) (ts : List Lexeme) → none_left (behind_variables form (at kind.Transaction ts)) ≡ found kind.Transaction ts (Some (section.Transactions form))
behind_at_tx One ts = txs_at_tx One ts
behind_at_tx Two ts = conditions_over Two (codes "tx") ts refl ∙ txs_at_tx Two ts
behind_at_tx Three ts = tables_at_tx ts

behind_at_run : (form : FileForm) (ts : List Lexeme) → none_left (behind_variables form (at kind.Run ts)) ≡ found kind.Run ts (Some (section.Runs form))
behind_at_run One ts = txs_at_run One ts
behind_at_run Two ts = conditions_over Two (codes "run") ts refl ∙ txs_at_run Two ts
behind_at_run Three ts = tables_at_run ts

-- in each part of a file, each kind
variables_found : (form : FileForm) (k : Kind) (ts : List Lexeme) → none_left (from_variables form (at k ts)) ≡ found k ts (part_behind (section.Variables form) k)
variables_found form kind.Variable ts = variables_at_var form ts
variables_found form kind.Table ts = variables_over form (codes "table") ts refl ∙ behind_at_table form ts
variables_found form kind.Condition ts = variables_over form (codes "always") ts refl ∙ behind_at_always form ts
variables_found form kind.Transaction ts = variables_over form (codes "tx") ts refl ∙ behind_at_tx form ts
variables_found form kind.Run ts = variables_over form (codes "run") ts refl ∙ behind_at_run form ts

pub kind_found : (part : Section) (k : Kind) (ts : List Lexeme) → none_left (from_part part (at k ts)) ≡ found k ts (part_behind part k)
kind_found section.Start kind.Variable ts = start_over (codes "var") ts refl ∙ variables_found One kind.Variable ts
kind_found section.Start kind.Table ts = start_over (codes "table") ts refl ∙ variables_found One kind.Table ts
kind_found section.Start kind.Condition ts = start_over (codes "always") ts refl ∙ variables_found One kind.Condition ts
kind_found section.Start kind.Transaction ts = start_over (codes "tx") ts refl ∙ variables_found One kind.Transaction ts
kind_found section.Start kind.Run ts = start_over (codes "run") ts refl ∙ variables_found One kind.Run ts
kind_found (section.Variables form) k ts = variables_found form k ts
kind_found section.Tables kind.Variable ts = tables_late (codes "var") ts refl refl refl refl
kind_found section.Tables kind.Table ts = tables_at_table ts
kind_found section.Tables kind.Condition ts = tables_at_always ts
kind_found section.Tables kind.Transaction ts = tables_at_tx ts
kind_found section.Tables kind.Run ts = tables_at_run ts
kind_found (section.Conditions form) kind.Variable ts = conditions_over form (codes "var") ts refl ∙ txs_late form (codes "var") ts refl refl
kind_found (section.Conditions form) kind.Table ts = conditions_over form (codes "table") ts refl ∙ txs_late form (codes "table") ts refl refl
kind_found (section.Conditions form) kind.Condition ts = conditions_at_always form ts
kind_found (section.Conditions form) kind.Transaction ts = conditions_over form (codes "tx") ts refl ∙ txs_at_tx form ts
kind_found (section.Conditions form) kind.Run ts = conditions_over form (codes "run") ts refl ∙ txs_at_run form ts
kind_found (section.Transactions form) kind.Variable ts = txs_late form (codes "var") ts refl refl
kind_found (section.Transactions form) kind.Table ts = txs_late form (codes "table") ts refl refl
kind_found (section.Transactions form) kind.Condition ts = txs_late form (codes "always") ts refl refl
kind_found (section.Transactions form) kind.Transaction ts = txs_at_tx form ts
kind_found (section.Transactions form) kind.Run ts = txs_at_run form ts
kind_found (section.Runs form) kind.Variable ts = runs_late form (codes "var") ts refl
kind_found (section.Runs form) kind.Table ts = runs_late form (codes "table") ts refl
kind_found (section.Runs form) kind.Condition ts = runs_late form (codes "always") ts refl
kind_found (section.Runs form) kind.Transaction ts = runs_late form (codes "tx") ts refl
kind_found (section.Runs form) kind.Run ts = runs_at_run form ts

-- a form is announced first of all alone
abbrev stm_at : List Lexeme → List Lexeme
stm_at ts = Opens ∷ token.Name (codes "stm") ∷ ts

behind_late : (form : FileForm) (ts : List Lexeme) → none_left (behind_variables form (stm_at ts)) ≡ None
behind_late One ts = txs_late One (codes "stm") ts refl refl
behind_late Two ts = conditions_over Two (codes "stm") ts refl ∙ txs_late Two (codes "stm") ts refl refl
behind_late Three ts = tables_late (codes "stm") ts refl refl refl refl

-- ---- what leads to the end of a declaration, and what comes behind it

body_then : (form : FileForm) (us : List Lexeme) (g h : List Lexeme → Left) → (leads_body form us g ▷ h) ≡ leads_body form us (λ ts. g ts ▷ h)
body_then form us g h =
    then_then (left_of (stmt_at form 31 us)) _ h
    ∙ then_to (left_of (stmt_at form 31 us)) _ _ (λ vs. then_then (left_of (expr_at form 31 vs)) _ h ∙ then_to (left_of (expr_at form 31 vs)) _ _ (λ ws. then_then (kept (close_at ws)) g h))

tx_then : (form : FileForm) (ts : List Lexeme) (g h : List Lexeme → Left) → (leads_tx form ts g ▷ h) ≡ leads_tx form ts (λ us. g us ▷ h)
tx_then One ts g h = then_then (left_of (name_at ts)) _ h ∙ then_to (left_of (name_at ts)) _ _ (λ us. body_then One us g h)
tx_then Two ts g h = then_then (left_of (name_at ts)) _ h ∙ then_to (left_of (name_at ts)) _ _ (λ us. body_then Two us g h)
tx_then Three ts g h =
    then_then (left_of (name_at ts)) _ h
    ∙ then_to (left_of (name_at ts)) _ _ (λ us. then_then (left_of (list_at us)) _ h ∙ then_to (left_of (list_at us)) _ _ (λ ls. body_then Three ls g h))

run_then : (form : FileForm) (ts : List Lexeme) (g h : List Lexeme → Left) → (leads_run form ts g ▷ h) ≡ leads_run form ts (λ us. g us ▷ h)
run_then One ts g h =
    then_then (left_of (name_at ts)) _ h ∙ then_to (left_of (name_at ts)) _ _ (λ us. then_then (left_of (int_at us)) _ h ∙ then_to (left_of (int_at us)) _ _ (λ vs. then_then (kept (close_at vs)) g h))
run_then Two ts g h =
    then_then (left_of (name_at ts)) _ h ∙ then_to (left_of (name_at ts)) _ _ (λ us. then_then (left_of (int_at us)) _ h ∙ then_to (left_of (int_at us)) _ _ (λ vs. then_then (kept (close_at vs)) g h))
run_then Three ts g h =
    then_then (left_of (name_at ts)) _ h ∙ then_to (left_of (name_at ts)) _ _ (λ us. then_then (left_of (int_at us)) _ h ∙ then_to (left_of (int_at us)) _ _ (λ vs. then_then (left_of (read_numbers vs)) g h))

leads_then : (part : Section) (k : Kind) (ts : List Lexeme) (g h : List Lexeme → Left) → (leads part k ts g ▷ h) ≡ leads part k ts (λ us. g us ▷ h)
leads_then part kind.Variable ts g h =
    then_then (left_of (name_at ts)) _ h ∙ then_to (left_of (name_at ts)) _ _ (λ us. then_then (left_of (int_at us)) _ h ∙ then_to (left_of (int_at us)) _ _ (λ vs. then_then (kept (close_at vs)) g h))
leads_then part kind.Table ts g h =
    then_then (left_of (name_at ts)) _ h
    ∙ then_to (left_of (name_at ts)) _ _ (λ us. then_then (left_of (int_at us)) _ h
    ∙ then_to (left_of (int_at us)) _ _ (λ vs. then_then (left_of (int_at vs)) _ h ∙ then_to (left_of (int_at vs)) _ _ (λ ws. then_then (left_of (read_numbers ws)) g h)))
leads_then part kind.Condition ts g h =
    then_then (left_of (name_at ts)) _ h
    ∙ then_to (left_of (name_at ts)) _ _ (λ us. then_then (left_of (cond_at (form_in part) 31 us)) _ h ∙ then_to (left_of (cond_at (form_in part) 31 us)) _ _ (λ vs. then_then (kept (close_at vs)) g h))
leads_then part kind.Transaction ts g h = tx_then (form_in part) ts g h
leads_then part kind.Run ts g h = run_then (form_in part) ts g h

tx_leads : (form : FileForm) (part : Section) (ts : List Lexeme) (below : List Wanted)
    → leads_tx form ts (λ us. none_left (from_part part us) ▷ read_all below) ≡ read_all (onto (want.Declarations part ∷ want.Close ∷ tx_wants form) below) ts
tx_leads One part ts below = refl
tx_leads Two part ts below = refl
tx_leads Three part ts below = refl

run_leads : (form : FileForm) (part : Section) (ts : List Lexeme) (below : List Wanted)
    → leads_run form ts (λ us. none_left (from_part part us) ▷ read_all below) ≡ read_all (onto (want.Declarations part ∷ run_end form ∷ want.Number number.Tasks ∷ want.Name name.Called ∷ []) below) ts
run_leads One part ts below = refl
run_leads Two part ts below = refl
run_leads Three part ts below = refl

leads_to : (part : Section) (k : Kind) (ts : List Lexeme) (below : List Wanted) → leads part k ts (λ us. none_left (from_part part us) ▷ read_all below) ≡ read_all (onto (within part k) below) ts
leads_to part kind.Variable ts below = refl
leads_to part kind.Table ts below = refl
leads_to part kind.Condition ts below = refl
leads_to part kind.Transaction ts below = tx_leads (form_in part) part ts below
leads_to part kind.Run ts below = run_leads (form_in part) part ts below

found_after : (k : Kind) (ts : List Lexeme) (below : List Wanted) (o : Option Section) → (found k ts o ▷ read_all below) ≡ after (behind_part k o) below ts
found_after k ts below None = refl
found_after k ts below (Some part) = leads_then part k ts (λ us. none_left (from_part part us)) (read_all below) ∙ leads_to part k ts below

-- ---- words of declarations, and others

abbrev some_kind : Kind → Option Kind
some_kind k = Some k

some_is : (a b : Kind) → some_kind a ≡ some_kind b → a ≡ b
some_is a b e = cc

chosen_kind : (b : Bool) (x y z : Option Kind) → cond b x y ≡ z → ((b ≡ true) × (x ≡ z)) ⊎ ((b ≡ false) × (y ≡ z))
chosen_kind true x y z e = inl (refl, e)
chosen_kind false x y z e = inr (refl, e)

worded : (word : List ℕ) (first k : Kind) (next : Option Kind) → (next ≡ some_kind k → word ≡ kind_word k) → cond (bytes_eq word (kind_word first)) (some_kind first) next ≡ some_kind k → word ≡ kind_word k
worded word first k next others e =
    elim (chosen_kind (bytes_eq word (kind_word first)) (some_kind first) next (some_kind k) e) [
      | inl p ↦ (bytes_eq-Decides word (kind_word first)).0 p.0 ∙ ap kind_word (some_is first k p.1)
      | inr p ↦ others p.1
    ]

kind_takes : (word : List ℕ) (k : Kind) → kind_of word ≡ some_kind k → word ≡ kind_word k
kind_takes word k =
    worded word kind.Variable k _ (worded word kind.Table k _ (worded word kind.Condition k _ (worded word kind.Transaction k _ (worded word kind.Run k _ (λ e. absurd cc)))))

nones : (b t c d e : Bool)
    → cond b (some_kind kind.Variable) (cond t (some_kind kind.Table) (cond c (some_kind kind.Condition) (cond d (some_kind kind.Transaction) (cond e (some_kind kind.Run) None)))) ≡ None
    → (b ≡ false) × (t ≡ false) × (c ≡ false) × (d ≡ false) × (e ≡ false)
nones true t c d e h = absurd cc
nones false true c d e h = absurd cc
nones false false true d e h = absurd cc
nones false false false true e h = absurd cc
nones false false false false true h = absurd cc
nones false false false false false h = (refl, refl, refl, refl, refl)

foreign_word : (word : List ℕ) (ts : List Lexeme) → bytes_eq word (codes "stm") ≡ false → kind_of word ≡ None → Foreign (Opens ∷ token.Name word ∷ ts)
foreign_word word ts h e =
    let n = nones (bytes_eq word (codes "var")) (bytes_eq word (codes "table")) (bytes_eq word (codes "always")) (bytes_eq word (codes "tx")) (bytes_eq word (codes "run")) e in
    record {
      stm = other word (codes "stm") ts h;
      var = other word (codes "var") ts n.0;
      table = other word (codes "table") ts n.1;
      always = other word (codes "always") ts n.2;
      tx = other word (codes "tx") ts n.3;
      run = other word (codes "run") ts n.4;
      unended = not_ended Opens (token.Name word ∷ ts);
    }

kind_reads : (part : Section) (word : List ℕ) (ts : List Lexeme) (below : List Wanted) (o : Option Kind) → bytes_eq word (codes "stm") ≡ false → kind_of word ≡ o
    → read_all (want.Word part ∷ below) (token.Name word ∷ ts) ≡ after (behind_kind part o) below ts
kind_reads part word ts below None h e = ap (λ (l : Left). l ▷ read_all below) (part_refuses part (Opens ∷ token.Name word ∷ ts) (foreign_word word ts h e))
kind_reads part word ts below (Some k) h e =
    ap (λ (w : List ℕ). none_left (from_part part (Opens ∷ token.Name w ∷ ts)) ▷ read_all below) (kind_takes word k e)
    ∙ ap (λ (l : Left). l ▷ read_all below) (kind_found part k ts)
    ∙ found_after k ts below (part_behind part k)

stm_reads : (part : Section) (ts : List Lexeme) (below : List Wanted) → read_all (want.Word part ∷ below) (token.Name (codes "stm") ∷ ts) ≡ after (behind_stm part) below ts
stm_reads section.Start ts below = refl
stm_reads (section.Variables form) ts below = ap (λ (l : Left). l ▷ read_all below) (variables_over form (codes "stm") ts refl ∙ behind_late form ts)
stm_reads section.Tables ts below = ap (λ (l : Left). l ▷ read_all below) (tables_late (codes "stm") ts refl refl refl refl)
stm_reads (section.Conditions form) ts below = ap (λ (l : Left). l ▷ read_all below) (conditions_over form (codes "stm") ts refl ∙ txs_late form (codes "stm") ts refl refl)
stm_reads (section.Transactions form) ts below = ap (λ (l : Left). l ▷ read_all below) (txs_late form (codes "stm") ts refl refl)
stm_reads (section.Runs form) ts below = ap (λ (l : Left). l ▷ read_all below) (runs_late form (codes "stm") ts refl)

declared_reads : (part : Section) (word : List ℕ) (ts : List Lexeme) (below : List Wanted) (b : Bool) → bytes_eq word (codes "stm") ≡ b
    → read_all (want.Word part ∷ below) (token.Name word ∷ ts) ≡ after (cond b (behind_stm part) (behind_kind part (kind_of word))) below ts
declared_reads part word ts below true e =
    ap (λ (w : List ℕ). read_all (want.Word part ∷ below) (token.Name w ∷ ts)) ((bytes_eq-Decides word (codes "stm")).0 e) ∙ stm_reads part ts below
declared_reads part word ts below false e = kind_reads part word ts below (kind_of word) e refl

pub word_reads : (part : Section) (word : List ℕ) (ts : List Lexeme) (below : List Wanted) → read_all (want.Word part ∷ below) (token.Name word ∷ ts) ≡ after (behind_declared part word) below ts
word_reads part word ts below = declared_reads part word ts below (bytes_eq word (codes "stm")) refl

-- ---- tokens that no declaration begins with

pub foreign_closes : (ts : List Lexeme) → Foreign (Closes ∷ ts)
unfolding begins form_at word_at open_at end_at
foreign_closes ts = record { stm = refl; var = refl; table = refl; always = refl; tx = refl; run = refl; unended = refl }

pub foreign_name : (word : List ℕ) (ts : List Lexeme) → Foreign (token.Name word ∷ ts)
unfolding begins form_at word_at open_at end_at
foreign_name word ts = record { stm = refl; var = refl; table = refl; always = refl; tx = refl; run = refl; unended = refl }

pub foreign_int : (value : ℤ) (ts : List Lexeme) → Foreign (token.Int value ∷ ts)
unfolding begins form_at word_at open_at end_at
foreign_int value ts = record { stm = refl; var = refl; table = refl; always = refl; tx = refl; run = refl; unended = refl }

pub foreign_other : (ts : List Lexeme) → Foreign (token.Other ∷ ts)
unfolding begins form_at word_at open_at end_at
foreign_other ts = record { stm = refl; var = refl; table = refl; always = refl; tx = refl; run = refl; unended = refl }

pub foreign_inside_open : (ts : List Lexeme) → Foreign (Opens ∷ Opens ∷ ts)
unfolding begins form_at word_at open_at name_at end_at
foreign_inside_open ts = record { stm = refl; var = refl; table = refl; always = refl; tx = refl; run = refl; unended = refl }

pub foreign_inside_close : (ts : List Lexeme) → Foreign (Opens ∷ Closes ∷ ts)
unfolding begins form_at word_at open_at name_at end_at
foreign_inside_close ts = record { stm = refl; var = refl; table = refl; always = refl; tx = refl; run = refl; unended = refl }

pub foreign_inside_int : (value : ℤ) (ts : List Lexeme) → Foreign (Opens ∷ token.Int value ∷ ts)
unfolding begins form_at word_at open_at name_at end_at
foreign_inside_int value ts = record { stm = refl; var = refl; table = refl; always = refl; tx = refl; run = refl; unended = refl }

pub foreign_inside_other : (ts : List Lexeme) → Foreign (Opens ∷ token.Other ∷ ts)
unfolding begins form_at word_at open_at name_at end_at
foreign_inside_other ts = record { stm = refl; var = refl; table = refl; always = refl; tx = refl; run = refl; unended = refl }
