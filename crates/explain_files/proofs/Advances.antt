-- What is read from any token on is what is wanted there.
use Rattle.std.proofs.Common.{◌≡◌, ℕ, zero, suc, Bool, true, false, List, [], ◌∷◌, Option, Some, None, refl, ap, ◌∙◌}
use Rattle.std.specs.Prelude.{ℤ}
use Rattle.std.specs.Result.{result_ok}
use Rattle.text_words.specs.Tokens.{Lexeme, Opens, Closes}
use Rattle.text_words.specs.Tokens as token
use Rattle.text_words.specs.TokenReading.{close_at, name_at, int_at, is_open, is_name, is_int, open_at, word_at}
use Rattle.text_grammar.specs.Reading.{head_of, test_of, keyword_of, form_numbered, compound_with, expr_at, cond_at, stmt_at, seq_with, list_at}
use Rattle.text_grammar.specs.declared.file.FileForm.{FileForm}
use Rattle.explain_files.specs.declared.wanted.Wanted.{Wanted}
use Rattle.explain_files.specs.declared.wanted.Wanted.TheVariants as want
use Rattle.explain_files.specs.Forms.{behind_form, behind_open, behind_close, behind_word, behind_int, behind}
use Rattle.explain_files.specs.Wanting.{Left, left_of, none_left, kept, ◌▷◌, from_variables, read_test, read_keyword, read_parameters, read_all}
use Rattle.explain_files.proofs.Chains.{then_then}
use Rattle.explain_files.proofs.Forms.{after, deep, head_reads, test_reads, keyword_reads, parts_go_on, parts_end, parameters_go_on, parameters_end, numbers_go_on, numbers_end}
use Rattle.explain_files.proofs.Declared.{part_refuses, numbered, start_item, word_reads, foreign_closes, foreign_name, foreign_int, foreign_other, foreign_inside_open, foreign_inside_close, foreign_inside_int, foreign_inside_other}

abbrev is_opening : Lexeme → Bool
is_opening Opens = true
is_opening Closes = false
is_opening (token.Name word) = false
is_opening (token.Int value) = false
is_opening token.Other = false

opens : (t : Lexeme) (ts : List Lexeme) → is_open (t ∷ ts) ≡ is_opening t
unfolding is_open open_at
opens Opens ts = refl
opens Closes ts = refl
opens (token.Name word) ts = refl
opens (token.Int value) ts = refl
opens token.Other ts = refl

-- no statement stands inside, where no parenthesis may be open there
shallow_parts : (form : FileForm) (ts : List Lexeme) (k : List Lexeme → Left) → (left_of (seq_with (stmt_at form zero) (Opens ∷ ts)) ▷ k) ≡ None
unfolding stmt_at
shallow_parts form ts k = parts_go_on form zero (Opens ∷ ts) k (opens Opens ts)

pub opens_reads : (wanted : Wanted) (below : List Wanted) (ts : List Lexeme) → read_all (wanted ∷ below) (Opens ∷ ts) ≡ after (behind_open wanted) below ts
unfolding close_at name_at int_at open_at word_at compound_with expr_at cond_at stmt_at read_test read_keyword list_at read_parameters is_name is_int
opens_reads (want.Declarations part) below ts = refl
opens_reads (want.Word part) below ts = ap (λ (l : Left). l ▷ read_all below) (part_refuses part (Opens ∷ Opens ∷ ts) (foreign_inside_open ts))
opens_reads want.FormNumber below ts = ap (λ (l : Left). l ▷ read_all below) (start_item (Opens ∷ ts))
opens_reads want.Close below ts = refl
opens_reads (want.Name used) below ts = refl
opens_reads (want.Number used) below ts = refl
opens_reads (want.Expr form zero) below ts = refl
opens_reads (want.Expr form (suc depth)) below ts = deep depth (λ n. want.Head form n ∷ []) below ts
opens_reads (want.Head form depth) below ts = refl
opens_reads (want.Cond form depth) below ts = refl
opens_reads (want.Test form depth) below ts = refl
opens_reads (want.Stmt form depth) below ts = refl
opens_reads (want.Keyword form depth) below ts = refl
opens_reads (want.Parts form zero) below ts = shallow_parts form ts (read_all below)
opens_reads (want.Parts form (suc depth)) below ts = parts_go_on form (suc depth) (Opens ∷ ts) (read_all below) (opens Opens ts) ∙ deep depth (λ n. want.Parts form (suc depth) ∷ want.Keyword form n ∷ []) below ts
opens_reads want.List below ts = refl
opens_reads want.Parameters below ts = parameters_end (Opens ∷ ts) (read_all below) refl
opens_reads (want.Numbers used) below ts = numbers_end (Opens ∷ ts) (read_all below) refl

pub closes_reads : (wanted : Wanted) (below : List Wanted) (ts : List Lexeme) → read_all (wanted ∷ below) (Closes ∷ ts) ≡ after (behind_close wanted) below ts
unfolding close_at name_at int_at open_at word_at compound_with expr_at cond_at stmt_at read_test read_keyword list_at read_parameters is_name is_int
closes_reads (want.Declarations part) below ts = ap (λ (l : Left). l ▷ read_all below) (part_refuses part (Closes ∷ ts) (foreign_closes ts))
closes_reads (want.Word part) below ts = ap (λ (l : Left). l ▷ read_all below) (part_refuses part (Opens ∷ Closes ∷ ts) (foreign_inside_close ts))
closes_reads want.FormNumber below ts = ap (λ (l : Left). l ▷ read_all below) (start_item (Closes ∷ ts))
closes_reads want.Close below ts = refl
closes_reads (want.Name used) below ts = refl
closes_reads (want.Number used) below ts = refl
closes_reads (want.Expr form zero) below ts = refl
closes_reads (want.Expr form (suc depth)) below ts = refl
closes_reads (want.Head form depth) below ts = refl
closes_reads (want.Cond form depth) below ts = refl
closes_reads (want.Test form depth) below ts = refl
closes_reads (want.Stmt form depth) below ts = refl
closes_reads (want.Keyword form depth) below ts = refl
closes_reads (want.Parts form depth) below ts = parts_end form depth (Closes ∷ ts) (read_all below) (opens Closes ts)
closes_reads want.List below ts = refl
closes_reads want.Parameters below ts = parameters_end (Closes ∷ ts) (read_all below) refl
closes_reads (want.Numbers used) below ts = numbers_end (Closes ∷ ts) (read_all below) refl

number_reads : (o : Option FileForm) (below : List Wanted) (ts : List Lexeme) → (numbered o ts ▷ read_all below) ≡ after (behind_form o) below ts
number_reads None below ts = refl
number_reads (Some form) below ts = then_then (kept (close_at ts)) (λ us. none_left (from_variables form us)) (read_all below)

pub int_reads : (wanted : Wanted) (below : List Wanted) (value : ℤ) (ts : List Lexeme) → read_all (wanted ∷ below) (token.Int value ∷ ts) ≡ after (behind_int wanted value) below ts
unfolding close_at name_at int_at open_at word_at compound_with expr_at cond_at stmt_at read_test read_keyword list_at read_parameters is_name is_int
int_reads (want.Declarations part) below value ts = ap (λ (l : Left). l ▷ read_all below) (part_refuses part (token.Int value ∷ ts) (foreign_int value ts))
int_reads (want.Word part) below value ts = ap (λ (l : Left). l ▷ read_all below) (part_refuses part (Opens ∷ token.Int value ∷ ts) (foreign_inside_int value ts))
int_reads want.FormNumber below value ts = ap (λ (l : Left). l ▷ read_all below) (start_item (token.Int value ∷ ts)) ∙ number_reads (result_ok (form_numbered value)) below ts
int_reads want.Close below value ts = refl
int_reads (want.Name used) below value ts = refl
int_reads (want.Number used) below value ts = refl
int_reads (want.Expr form zero) below value ts = refl
int_reads (want.Expr form (suc depth)) below value ts = refl
int_reads (want.Head form depth) below value ts = refl
int_reads (want.Cond form depth) below value ts = refl
int_reads (want.Test form depth) below value ts = refl
int_reads (want.Stmt form depth) below value ts = refl
int_reads (want.Keyword form depth) below value ts = refl
int_reads (want.Parts form depth) below value ts = parts_end form depth (token.Int value ∷ ts) (read_all below) (opens (token.Int value) ts)
int_reads want.List below value ts = refl
int_reads want.Parameters below value ts = parameters_end (token.Int value ∷ ts) (read_all below) refl
int_reads (want.Numbers used) below value ts = numbers_go_on value ts (read_all below)

pub name_reads : (wanted : Wanted) (below : List Wanted) (word : List ℕ) (ts : List Lexeme) → read_all (wanted ∷ below) (token.Name word ∷ ts) ≡ after (behind_word wanted word) below ts
unfolding close_at name_at int_at open_at word_at compound_with expr_at cond_at stmt_at list_at is_name is_int
name_reads (want.Declarations part) below word ts = ap (λ (l : Left). l ▷ read_all below) (part_refuses part (token.Name word ∷ ts) (foreign_name word ts))
name_reads (want.Word part) below word ts = word_reads part word ts below
name_reads want.FormNumber below word ts = ap (λ (l : Left). l ▷ read_all below) (start_item (token.Name word ∷ ts))
name_reads want.Close below word ts = refl
name_reads (want.Name used) below word ts = refl
name_reads (want.Number used) below word ts = refl
name_reads (want.Expr form zero) below word ts = refl
name_reads (want.Expr form (suc depth)) below word ts = refl
name_reads (want.Head form depth) below word ts = head_reads form depth word ts below (head_of form word) refl
name_reads (want.Cond form depth) below word ts = refl
name_reads (want.Test form depth) below word ts = test_reads form depth word ts below (test_of word) refl
name_reads (want.Stmt form depth) below word ts = refl
name_reads (want.Keyword form depth) below word ts = keyword_reads form depth word ts below (keyword_of form word) refl
name_reads (want.Parts form depth) below word ts = parts_end form depth (token.Name word ∷ ts) (read_all below) (opens (token.Name word) ts)
name_reads want.List below word ts = refl
name_reads want.Parameters below word ts = parameters_go_on word ts (read_all below)
name_reads (want.Numbers used) below word ts = numbers_end (token.Name word ∷ ts) (read_all below) refl

pub other_reads : (wanted : Wanted) (below : List Wanted) (ts : List Lexeme) → read_all (wanted ∷ below) (token.Other ∷ ts) ≡ None
unfolding close_at name_at int_at open_at word_at compound_with expr_at cond_at stmt_at read_test read_keyword list_at read_parameters is_name is_int
other_reads (want.Declarations part) below ts = ap (λ (l : Left). l ▷ read_all below) (part_refuses part (token.Other ∷ ts) (foreign_other ts))
other_reads (want.Word part) below ts = ap (λ (l : Left). l ▷ read_all below) (part_refuses part (Opens ∷ token.Other ∷ ts) (foreign_inside_other ts))
other_reads want.FormNumber below ts = ap (λ (l : Left). l ▷ read_all below) (start_item (token.Other ∷ ts))
other_reads want.Close below ts = refl
other_reads (want.Name used) below ts = refl
other_reads (want.Number used) below ts = refl
other_reads (want.Expr form zero) below ts = refl
other_reads (want.Expr form (suc depth)) below ts = refl
other_reads (want.Head form depth) below ts = refl
other_reads (want.Cond form depth) below ts = refl
other_reads (want.Test form depth) below ts = refl
other_reads (want.Stmt form depth) below ts = refl
other_reads (want.Keyword form depth) below ts = refl
other_reads (want.Parts form depth) below ts = parts_end form depth (token.Other ∷ ts) (read_all below) (opens token.Other ts)
other_reads want.List below ts = refl
other_reads want.Parameters below ts = parameters_end (token.Other ∷ ts) (read_all below) refl
other_reads (want.Numbers used) below ts = numbers_end (token.Other ∷ ts) (read_all below) refl

-- what is read from a token on, by what is wanted behind it
pub token_reads : (wanted : Wanted) (below : List Wanted) (t : Lexeme) (ts : List Lexeme) → read_all (wanted ∷ below) (t ∷ ts) ≡ after (behind wanted t) below ts
unfolding behind
token_reads wanted below Opens ts = opens_reads wanted below ts
token_reads wanted below Closes ts = closes_reads wanted below ts
token_reads wanted below (token.Name word) ts = name_reads wanted below word ts
token_reads wanted below (token.Int value) ts = int_reads wanted below value ts
token_reads wanted below token.Other ts = other_reads wanted below ts
