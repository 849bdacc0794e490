-- The canonical text of a tree is its tokens, laid out.
use Rattle.std.proofs.Common.{◌≡◌, ◌∙◌, ℕ, suc, List, [], ◌∷◌, ◌++◌, map, refl, sym, ap, subst, append_assoc}
use Rattle.std.specs.Prelude.{ℤ, pos, codes}
use Rattle.std.specs.Fmt.{signed_decimal}
use Rattle.std.specs.List.{flat_map}
use Rattle.std.proofs.lemmas.List.{append-nil}
use Rattle.text_words.specs.Tokens.{Lexeme, Opens, Closes}
use Rattle.text_words.specs.Tokens as token
use Rattle.text_grammar.specs.Tree.{Expr, Cond, Argument, argument_token, Stmt, Stmts, NoStmts, MoreStmts, Pair, Table, Always, Declaration, Run, File, form, expr_tokens, cond_tokens, stmt_tokens, stmts_tokens, pair_tokens, table_tokens, always_tokens, list_tokens, tx_tokens, run_tokens, heading_tokens, file_tokens, operator_word, fold_word, comparison_word, connective_word, keyword_word}
use Rattle.text_grammar.specs.Tree as f
use Rattle.text_grammar.specs.declared.words.Keyword.TheVariants as keyword
use Rattle.text_grammar.specs.declared.file.FileForm.{FileForm}
use Rattle.text_grammar.specs.declared.file.FileForm.TheVariants.{One, Two, Three}
use Rattle.text_file_printer.specs.Canonical.{form_text, spaced, expr_text, cond_text, spaced_argument, stmt_text, stmts_text, pair_line, numbers_told, table_line, always_line, list_text, tx_line, spaced_integer, run_line, heading_text, text_of}
use Rattle.text_file_printer.specs.Layout.{space_before, laid_out_in, laid_out}
use Rattle.text_file_printer.proofs.Spellings.{two_printed, three_printed}

-- tokens laid out behind a token that is no parenthesis, or behind one that closes
abbrev rest_of : ℕ → List Lexeme → List ℕ
rest_of n ts = space_before ts ++ laid_out_in (suc n) ts

-- wherever they stand in a form, these tokens are laid out as this text
record Laid (ts : List Lexeme) (text : List ℕ) : Type 0 where
  pub within : (n : ℕ) (rest : List Lexeme) → rest_of n (ts ++ rest) ≡ text ++ rest_of n rest

none : Laid [] []
none = record { within = λ n rest. refl }

both : (ts us : List Lexeme) (a b : List ℕ) → Laid ts a → Laid us b → Laid (ts ++ us) (a ++ b)
both ts us a b p q =
    record {
      within = λ n rest. ap (rest_of n) (append_assoc ts us rest) ∙ p.within n (us ++ rest)
          ∙ ap (λ (x : List ℕ). a ++ x) (q.within n rest) ∙ sym (append_assoc a b (rest_of n rest));
    }

name : (text : List ℕ) → Laid (token.Name text ∷ []) (spaced text)
name text = record { within = λ n rest. refl }

int : (value : ℤ) → Laid (token.Int value ∷ []) (spaced (signed_decimal value))
int value = record { within = λ n rest. refl }

-- what stands in a form, to its closing parenthesis
inside : (parts : List Lexeme) (text : List ℕ) → Laid parts text → (n : ℕ) (rest : List Lexeme) → rest_of n ((parts ++ (Closes ∷ [])) ++ rest) ≡ text ++ rest_of n (Closes ∷ rest)
inside parts text p n rest = ap (rest_of n) (append_assoc parts (Closes ∷ []) rest) ∙ p.within n (Closes ∷ rest)

-- a word in parentheses, up to what stands behind it
closed : (word text after : List ℕ) → 40 ∷ (word ++ (text ++ 41 ∷ after)) ≡ form_text word text ++ after
closed word text after =
    ap (λ (x : List ℕ). 40 ∷ x) (sym (append_assoc word (text ++ (41 ∷ [])) after ∙ ap (λ (x : List ℕ). word ++ x) (append_assoc text (41 ∷ []) after)))

form_laid : (word : List ℕ) (parts : List Lexeme) (text : List ℕ) → Laid parts text → Laid (form word parts) (spaced (form_text word text))
form_laid word parts text p =
    record {
      within = λ n rest. ap (λ (x : List ℕ). 32 ∷ 40 ∷ (word ++ x)) (inside parts text p (suc n) rest)
          ∙ ap (λ (x : List ℕ). 32 ∷ x) (closed word text (rest_of n rest));
    }

expr_laid : (e : Expr) → Laid (expr_tokens e) (spaced (expr_text e))
expr_laid (f.Int value) = int value
expr_laid (f.Name text) = name text
expr_laid (f.At table e) = form_laid (codes "at") (token.Name table ∷ expr_tokens e) _ (both (token.Name table ∷ []) (expr_tokens e) _ _ (name table) (expr_laid e))
expr_laid (f.OfAll fold table) = form_laid (fold_word fold) (token.Name table ∷ []) _ (name table)
expr_laid (f.Binary op l r) = form_laid (operator_word op) (expr_tokens l ++ expr_tokens r) _ (both (expr_tokens l) (expr_tokens r) _ _ (expr_laid l) (expr_laid r))

cond_laid : (c : Cond) → Laid (cond_tokens c) (spaced (cond_text c))
cond_laid (f.Compare op l r) = form_laid (comparison_word op) (expr_tokens l ++ expr_tokens r) _ (both (expr_tokens l) (expr_tokens r) _ _ (expr_laid l) (expr_laid r))
cond_laid (f.Not c) = form_laid (codes "not") (cond_tokens c) _ (cond_laid c)
cond_laid (f.Connect op l r) = form_laid (connective_word op) (cond_tokens l ++ cond_tokens r) _ (both (cond_tokens l) (cond_tokens r) _ _ (cond_laid l) (cond_laid r))

argument_laid : (given : Argument) → Laid (argument_token given ∷ []) (spaced_argument given)
argument_laid (f.Number value) = int value
argument_laid (f.Parameter text) = name text

arguments_laid : (given : List Argument) → Laid (map argument_token given) (flat_map spaced_argument given)
arguments_laid [] = none
arguments_laid (one ∷ given) = both (argument_token one ∷ []) (map argument_token given) _ _ (argument_laid one) (arguments_laid given)

mutual
  stmt_laid : (s : Stmt) → Laid (stmt_tokens s) (spaced (stmt_text s))
  stmt_laid f.Skip = form_laid (keyword_word keyword.Skip) [] [] none
  stmt_laid (f.Set text e) = form_laid (keyword_word keyword.Set) (token.Name text ∷ expr_tokens e) _ (both (token.Name text ∷ []) (expr_tokens e) _ _ (name text) (expr_laid e))
  stmt_laid (f.Put table e v) =
      form_laid (keyword_word keyword.Put) (token.Name table ∷ (expr_tokens e ++ expr_tokens v)) _
      (both (token.Name table ∷ []) (expr_tokens e ++ expr_tokens v) _ _ (name table) (both (expr_tokens e) (expr_tokens v) _ _ (expr_laid e) (expr_laid v)))
  stmt_laid (f.Seq parts) = form_laid (keyword_word keyword.Seq) (stmts_tokens parts) _ (stmts_laid parts)
  stmt_laid (f.If c a b) =
      form_laid (keyword_word keyword.If) (cond_tokens c ++ (stmt_tokens a ++ stmt_tokens b)) _
      (both (cond_tokens c) (stmt_tokens a ++ stmt_tokens b) _ _ (cond_laid c) (both (stmt_tokens a) (stmt_tokens b) _ _ (stmt_laid a) (stmt_laid b)))
  stmt_laid (f.Repeat n s) = form_laid (keyword_word keyword.Repeat) (token.Int n ∷ stmt_tokens s) _ (both (token.Int n ∷ []) (stmt_tokens s) _ _ (int n) (stmt_laid s))
  stmt_laid f.Retry = form_laid (keyword_word keyword.Retry) [] [] none
  stmt_laid (f.OrElse a b) = form_laid (keyword_word keyword.OrElse) (stmt_tokens a ++ stmt_tokens b) _ (both (stmt_tokens a) (stmt_tokens b) _ _ (stmt_laid a) (stmt_laid b))
  stmt_laid (f.Throw e) = form_laid (keyword_word keyword.Throw) (expr_tokens e) _ (expr_laid e)
  stmt_laid (f.Call text given) = form_laid (codes "call") (token.Name text ∷ map argument_token given) _ (both (token.Name text ∷ []) (map argument_token given) _ _ (name text) (arguments_laid given))

  stmts_laid : (ss : Stmts) → Laid (stmts_tokens ss) (stmts_text ss)
  stmts_laid NoStmts = none
  stmts_laid (MoreStmts s others) = both (stmt_tokens s) (stmts_tokens others) _ _ (stmt_laid s) (stmts_laid others)

-- ---- lines

-- these tokens are laid out as these lines, whatever follows
record Lines (ts : List Lexeme) (text : List ℕ) : Type 0 where
  pub by : (rest : List Lexeme) → laid_out (ts ++ rest) ≡ text ++ laid_out rest

no_lines : Lines [] []
no_lines = record { by = λ rest. refl }

both_lines : (ts us : List Lexeme) (a b : List ℕ) → Lines ts a → Lines us b → Lines (ts ++ us) (a ++ b)
both_lines ts us a b p q =
    record {
      by = λ rest. ap laid_out (append_assoc ts us rest) ∙ p.by (us ++ rest)
          ∙ ap (λ (x : List ℕ). a ++ x) (q.by rest) ∙ sym (append_assoc a b (laid_out rest));
    }

lines_of : {X : Type 0} (text : X → List ℕ) (ts : X → List Lexeme) → ((x : X) → Lines (ts x) (text x)) → (xs : List X) → Lines (flat_map ts xs) (flat_map text xs)
lines_of text ts one [] = no_lines
lines_of text ts one (x ∷ xs) = both_lines (ts x) (flat_map ts xs) (text x) (flat_map text xs) (one x) (lines_of text ts one xs)

-- a form that stands in none
line_laid : (word : List ℕ) (parts : List Lexeme) (text : List ℕ) → Laid parts text → Lines (form word parts) (form_text word text ++ codes "\n")
line_laid word parts text p =
    record {
      by = λ rest. ap (λ (x : List ℕ). 40 ∷ (word ++ x)) (inside parts text p 0 rest)
          ∙ closed word text (10 ∷ laid_out rest) ∙ sym (append_assoc (form_text word text) (codes "\n") (laid_out rest));
    }

pair_laid : (word : List ℕ) (p : Pair) → Lines (pair_tokens word p) (pair_line word p)
pair_laid word p = line_laid word (token.Name p.name ∷ token.Int p.value ∷ []) _ (both (token.Name p.name ∷ []) (token.Int p.value ∷ []) _ _ (name p.name) (int p.value))

-- names and integers, each behind a space
names_laid : (names : List (List ℕ)) → Laid (map token.Name names) (flat_map spaced names)
names_laid [] = none
names_laid (text ∷ names) = both (token.Name text ∷ []) (map token.Name names) _ _ (name text) (names_laid names)

integers_laid : (values : List ℤ) → Laid (map token.Int values) (flat_map spaced_integer values)
integers_laid [] = none
integers_laid (value ∷ values) = both (token.Int value ∷ []) (map token.Int values) _ _ (int value) (integers_laid values)

table_laid : (t : Table) → Lines (table_tokens t) (table_line t)
table_laid t =
    let numbers = numbers_told t in
    line_laid (codes "table") (token.Name t.name ∷ token.Int t.count ∷ map token.Int numbers) _
    (both (token.Name t.name ∷ []) (token.Int t.count ∷ map token.Int numbers) _ _ (name t.name)
    (both (token.Int t.count ∷ []) (map token.Int numbers) _ _ (int t.count) (integers_laid numbers)))

always_laid : (a : Always) → Lines (always_tokens a) (always_line a)
always_laid a = line_laid (codes "always") (token.Name a.name ∷ cond_tokens a.condition) _ (both (token.Name a.name ∷ []) (cond_tokens a.condition) _ _ (name a.name) (cond_laid a.condition))

list_laid : (announced : FileForm) (names : List (List ℕ)) → Laid (list_tokens announced names) (list_text announced names)
list_laid One names = none
list_laid Two names = none
list_laid Three [] = record { within = λ n rest. refl }
list_laid Three (text ∷ names) = form_laid text (map token.Name names) (flat_map spaced names) (names_laid names)

tx_laid : (announced : FileForm) (t : Declaration) → Lines (tx_tokens announced t) (tx_line announced t)
tx_laid announced t =
    line_laid (codes "tx") (token.Name t.name ∷ (list_tokens announced t.parameters ++ (stmt_tokens t.body ++ expr_tokens t.value))) _
    (both (token.Name t.name ∷ []) (list_tokens announced t.parameters ++ (stmt_tokens t.body ++ expr_tokens t.value)) _ _ (name t.name)
    (both (list_tokens announced t.parameters) (stmt_tokens t.body ++ expr_tokens t.value) _ _ (list_laid announced t.parameters)
    (both (stmt_tokens t.body) (expr_tokens t.value) _ _ (stmt_laid t.body) (expr_laid t.value))))

run_laid : (r : Run) → Lines (run_tokens r) (run_line r)
run_laid r =
    line_laid (codes "run") (token.Name r.name ∷ token.Int r.count ∷ map token.Int r.arguments) _
    (both (token.Name r.name ∷ []) (token.Int r.count ∷ map token.Int r.arguments) _ _ (name r.name)
    (both (token.Int r.count ∷ []) (map token.Int r.arguments) _ _ (int r.count) (integers_laid r.arguments)))

heading_laid : (form : FileForm) → Lines (heading_tokens form) (heading_text form)
heading_laid One = no_lines
heading_laid Two =
    subst (λ (digits : List ℕ). Lines (heading_tokens Two) (form_text (codes "stm") (spaced digits) ++ codes "\n")) two_printed
    (line_laid (codes "stm") (token.Int (pos 2) ∷ []) (spaced (signed_decimal (pos 2))) (int (pos 2)))
heading_laid Three =
    subst (λ (digits : List ℕ). Lines (heading_tokens Three) (form_text (codes "stm") (spaced digits) ++ codes "\n")) three_printed
    (line_laid (codes "stm") (token.Int (pos 3) ∷ []) (spaced (signed_decimal (pos 3))) (int (pos 3)))

file_laid : (file : File) → Lines (file_tokens file) (text_of file)
file_laid file =
    both_lines (heading_tokens file.form) _ (heading_text file.form) _ (heading_laid file.form)
    (both_lines (flat_map (pair_tokens (codes "var")) file.vars) _ (flat_map (pair_line (codes "var")) file.vars) _ (lines_of (pair_line (codes "var")) (pair_tokens (codes "var")) (pair_laid (codes "var")) file.vars)
    (both_lines (flat_map table_tokens file.tables) _ (flat_map table_line file.tables) _ (lines_of table_line table_tokens table_laid file.tables)
    (both_lines (flat_map always_tokens file.always) _ (flat_map always_line file.always) _ (lines_of always_line always_tokens always_laid file.always)
    (both_lines (flat_map (tx_tokens file.form) file.txs) (flat_map run_tokens file.runs) (flat_map (tx_line file.form) file.txs) (flat_map run_line file.runs)
    (lines_of (tx_line file.form) (tx_tokens file.form) (tx_laid file.form) file.txs)
    (lines_of run_line run_tokens run_laid file.runs)))))

pub text_is_laid_out : (file : File) → text_of file ≡ laid_out (file_tokens file)
text_is_laid_out file = sym (ap laid_out (sym (append-nil (file_tokens file))) ∙ (file_laid file).by [] ∙ append-nil (text_of file))
