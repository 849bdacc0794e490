-- What is read behind a token is what is wanted there.
use Rattle.std.proofs.Common.{◌≡◌, ℕ, zero, suc, ◌-◌, Bool, true, false, List, [], ◌∷◌, Some, None, Result, Ok, Err, refl, sym, ap, ◌∙◌}
use Rattle.std.specs.Prelude.{ℤ}
use Rattle.std.specs.Result.{result_ok}
use Rattle.text_words.specs.Tokens.{Lexeme, Opens, Closes}
use Rattle.text_words.specs.Tokens as token
use Rattle.text_words.specs.Answers.{◌>>=◌}
use Rattle.text_words.specs.TokenReading.{Read, close_at, name_at, int_at, is_open, is_name, is_int, with_first, all_of}
use Rattle.text_words.specs.declared.fault.ReadFault.{ReadFault}
use Rattle.text_words.proofs.Many.{Shortens, all-stop, all-more}
use Rattle.text_grammar.specs.Tree.{Seq}
use Rattle.text_grammar.specs.Reading.{head_of, test_of, keyword_of, binary_with, at_with, all_with, compound_with, expr_at, cond_at, stmt_at, row, set_with, put_with, seq_with, if_with, repeat_with, orelse_with, throw_with}
use Rattle.text_grammar.specs.declared.file.FileForm.{FileForm}
use Rattle.text_grammar.specs.declared.words.Head.{Head}
use Rattle.text_grammar.specs.declared.words.Head.TheVariants as head
use Rattle.text_grammar.specs.declared.words.Test.{Test}
use Rattle.text_grammar.specs.declared.words.Test.TheVariants as test
use Rattle.text_grammar.specs.declared.words.Keyword.{Keyword}
use Rattle.text_grammar.specs.declared.words.Keyword.TheVariants as keyword
use Rattle.text_grammar.proofs.Stmts.{stmt_shortens}
use Rattle.text_grammar.proofs.Lists.{name_shortens, int_shortens}
use Rattle.explain_files.specs.declared.wanted.NumberUse.TheVariants as number
use Rattle.explain_files.specs.declared.wanted.Wanted.{Wanted}
use Rattle.explain_files.specs.declared.wanted.Wanted.TheVariants as want
use Rattle.explain_files.specs.Forms.{Wants, deeper, behind_head, behind_test, behind_keyword}
use Rattle.explain_files.specs.Wanting.{Left, left_of, kept, ◌▷◌, read_test, read_keyword, read_parameters, read_numbers, read_all, onto}
use Rattle.explain_files.proofs.Chains.{left_to, close_to, none_to, deeper_suc}

-- what is read, where this is wanted now on top of what was wanted before
abbrev pub after : Wants → List Wanted → List Lexeme → Left
after None below ts = None
after (Some more) below ts = read_all (onto more below) ts

-- one parenthesis deeper
pub deep : (depth : ℕ) (more : ℕ → List Wanted) (below : List Wanted) (ts : List Lexeme) → read_all (onto (more depth) below) ts ≡ after (deeper (suc depth) (more (suc depth - 1))) below ts
deep depth more below ts = sym (ap (λ (wants : Wants). after wants below ts) (deeper_suc depth more))

-- ---- expressions

pub head_reads : (form : FileForm) (depth : ℕ) (word : List ℕ) (ts : List Lexeme) (below : List Wanted) (r : Result Head ReadFault) → head_of form word ≡ r
    → read_all (want.Head form depth ∷ below) (token.Name word ∷ ts) ≡ after (behind_head form depth (result_ok r)) below ts
unfolding name_at compound_with binary_with at_with all_with
head_reads form depth word ts below (Ok (head.Operates op)) e =
    rw e (left_to (expr_at form depth ts) _ _ _ (λ l. left_to (expr_at form depth l.1) _ _ _ (λ r. close_to (close_at r.1) _ _)))
head_reads form depth word ts below (Ok head.Picks) e =
    rw e (left_to (name_at ts) _ _ _ (λ n. left_to (expr_at form depth n.1) _ _ _ (λ i. close_to (close_at i.1) _ _)))
head_reads form depth word ts below (Ok (head.Folds fold)) e = rw e (left_to (name_at ts) _ _ _ (λ n. close_to (close_at n.1) _ _))
head_reads form depth word ts below (Err d) e = rw e refl

-- ---- conditions

not_zero : (form : FileForm) (word : List ℕ) (ts : List Lexeme) (below : List Wanted) → test_of word ≡ Ok test.Negates → read_all (want.Test form zero ∷ below) (token.Name word ∷ ts) ≡ None
unfolding name_at read_test cond_at
not_zero form word ts below e = rw e refl

connect_zero : (form : FileForm) (op : _) (word : List ℕ) (ts : List Lexeme) (below : List Wanted) → test_of word ≡ Ok (test.Connects op) → read_all (want.Test form zero ∷ below) (token.Name word ∷ ts) ≡ None
unfolding name_at read_test cond_at
connect_zero form op word ts below e = rw e refl

pub test_reads : (form : FileForm) (depth : ℕ) (word : List ℕ) (ts : List Lexeme) (below : List Wanted) (r : Result Test ReadFault) → test_of word ≡ r
    → read_all (want.Test form depth ∷ below) (token.Name word ∷ ts) ≡ after (behind_test form depth (result_ok r)) below ts
unfolding name_at read_test
test_reads form depth word ts below (Ok (test.Compares op)) e =
    rw e (left_to (expr_at form depth ts) _ _ _ (λ l. left_to (expr_at form depth l.1) _ _ _ (λ r. close_to (close_at r.1) _ _)))
test_reads form zero word ts below (Ok test.Negates) e = not_zero form word ts below e
test_reads form (suc depth) word ts below (Ok test.Negates) e =
    rw e (left_to (cond_at form (suc depth) ts) _ _ _ (λ c. close_to (close_at c.1) _ _))
    ∙ deep depth (λ n. want.Close ∷ want.Cond form n ∷ []) below ts
test_reads form zero word ts below (Ok (test.Connects op)) e = connect_zero form op word ts below e
test_reads form (suc depth) word ts below (Ok (test.Connects op)) e =
    rw e (left_to (cond_at form (suc depth) ts) _ _ _ (λ l. left_to (cond_at form (suc depth) l.1) _ _ _ (λ r. close_to (close_at r.1) _ _)))
    ∙ deep depth (λ n. want.Close ∷ want.Cond form n ∷ want.Cond form n ∷ []) below ts
test_reads form depth word ts below (Err d) e = rw e refl

-- ---- statements

if_zero : (form : FileForm) (word : List ℕ) (ts : List Lexeme) (below : List Wanted) → keyword_of form word ≡ Ok keyword.If → read_all (want.Keyword form zero ∷ below) (token.Name word ∷ ts) ≡ None
unfolding name_at read_keyword if_with cond_at
if_zero form word ts below e = rw e refl

orelse_zero : (form : FileForm) (word : List ℕ) (ts : List Lexeme) (below : List Wanted) → keyword_of form word ≡ Ok keyword.OrElse → read_all (want.Keyword form zero ∷ below) (token.Name word ∷ ts) ≡ None
unfolding name_at read_keyword orelse_with stmt_at
orelse_zero form word ts below e = rw e refl

repeat_zero : (form : FileForm) (word : List ℕ) (ts : List Lexeme) (below : List Wanted) → keyword_of form word ≡ Ok keyword.Repeat → read_all (want.Keyword form zero ∷ below) (token.Name word ∷ ts) ≡ None
unfolding name_at read_keyword repeat_with stmt_at
repeat_zero form word ts below e = rw e (none_to (int_at ts) _ _ (λ n. refl))

pub keyword_reads : (form : FileForm) (depth : ℕ) (word : List ℕ) (ts : List Lexeme) (below : List Wanted) (r : Result Keyword ReadFault) → keyword_of form word ≡ r
    → read_all (want.Keyword form depth ∷ below) (token.Name word ∷ ts) ≡ after (behind_keyword form depth (result_ok r)) below ts
unfolding name_at read_keyword set_with put_with if_with repeat_with orelse_with throw_with
keyword_reads form depth word ts below (Ok keyword.Skip) e = rw e (close_to (close_at ts) _ _)
keyword_reads form depth word ts below (Ok keyword.Set) e =
    rw e (left_to (name_at ts) _ _ _ (λ n. left_to (expr_at form depth n.1) _ _ _ (λ v. close_to (close_at v.1) _ _)))
keyword_reads form depth word ts below (Ok keyword.Put) e =
    rw e (left_to (name_at ts) _ _ _ (λ n. left_to (expr_at form depth n.1) _ _ _ (λ i. left_to (expr_at form depth i.1) _ _ _ (λ v. close_to (close_at v.1) _ _))))
keyword_reads form depth word ts below (Ok keyword.Seq) e = rw e refl
keyword_reads form zero word ts below (Ok keyword.If) e = if_zero form word ts below e
keyword_reads form (suc depth) word ts below (Ok keyword.If) e =
    rw e (left_to (cond_at form (suc depth) ts) _ _ _ (λ c. left_to (stmt_at form (suc depth) c.1) _ _ _ (λ p. left_to (stmt_at form (suc depth) p.1) _ _ _ (λ q. close_to (close_at q.1) _ _))))
    ∙ deep depth (λ n. want.Close ∷ want.Stmt form n ∷ want.Stmt form n ∷ want.Cond form n ∷ []) below ts
keyword_reads form zero word ts below (Ok keyword.Repeat) e = repeat_zero form word ts below e
keyword_reads form (suc depth) word ts below (Ok keyword.Repeat) e =
    rw e (left_to (int_at ts) _ _ _ (λ c. left_to (stmt_at form (suc depth) c.1) _ _ _ (λ p. close_to (close_at p.1) _ _)))
    ∙ deep depth (λ n. want.Close ∷ want.Stmt form n ∷ want.Number number.Turns ∷ []) below ts
keyword_reads form depth word ts below (Ok keyword.Retry) e = rw e (close_to (close_at ts) _ _)
keyword_reads form zero word ts below (Ok keyword.OrElse) e = orelse_zero form word ts below e
keyword_reads form (suc depth) word ts below (Ok keyword.OrElse) e =
    rw e (left_to (stmt_at form (suc depth) ts) _ _ _ (λ p. left_to (stmt_at form (suc depth) p.1) _ _ _ (λ q. close_to (close_at q.1) _ _)))
    ∙ deep depth (λ n. want.Close ∷ want.Stmt form n ∷ want.Stmt form n ∷ []) below ts
keyword_reads form depth word ts below (Ok keyword.Throw) e = rw e (left_to (expr_at form depth ts) _ _ _ (λ v. close_to (close_at v.1) _ _))
keyword_reads form depth word ts below (Err d) e = rw e refl

-- ---- items one behind the other, and a closing parenthesis

-- what is made of them is not looked at
pub ends_alike : {A B C : Type 0} (r : Read A) (f : A → B) (g : A → C) (k : List Lexeme → Left)
    → (left_of (r >>= λ x. close_at x.1 >>= λ rest. Ok (f x.0, rest)) ▷ k) ≡ (left_of (r >>= λ x. close_at x.1 >>= λ rest. Ok (g x.0, rest)) ▷ k)
ends_alike (Ok x) f g k = close_to (close_at x.1) _ k ∙ sym (close_to (close_at x.1) _ k)
ends_alike (Err d) f g k = refl

first_item : {A B : Type 0} (f : List A → B) (x : A) (r : Read (List A)) (k : List Lexeme → Left)
    → (left_of (with_first x r >>= λ items. close_at items.1 >>= λ rest. Ok (f items.0, rest)) ▷ k) ≡ (left_of (r >>= λ items. close_at items.1 >>= λ rest. Ok (f items.0, rest)) ▷ k)
first_item f x (Ok others) k = close_to (close_at others.1) _ k ∙ sym (close_to (close_at others.1) _ k)
first_item f x (Err d) k = refl

all_items : {A B : Type 0} (f : List A → B) (r : Read A) (others : List Lexeme → Read (List A)) (k : List Lexeme → Left)
    → (left_of ((r >>= λ first. with_first first.0 (others first.1)) >>= λ items. close_at items.1 >>= λ rest. Ok (f items.0, rest)) ▷ k)
    ≡ (left_of r ▷ λ us. left_of (others us >>= λ items. close_at items.1 >>= λ rest. Ok (f items.0, rest)) ▷ k)
all_items f (Ok first) others k = first_item f first.0 (others first.1) k
all_items f (Err d) others k = refl

items_go_on : {A B : Type 0} (f : List A → B) (goes : List Lexeme → Bool) (one : List Lexeme → Read A) → Shortens one → (ts : List Lexeme) (k : List Lexeme → Left) → goes ts ≡ true
    → (left_of (all_of goes one ts >>= λ items. close_at items.1 >>= λ rest. Ok (f items.0, rest)) ▷ k)
    ≡ (left_of (one ts) ▷ λ us. left_of (all_of goes one us >>= λ items. close_at items.1 >>= λ rest. Ok (f items.0, rest)) ▷ k)
items_go_on f goes one short ts k h = rw (all-more goes one short ts h) (all_items f (one ts) (all_of goes one) k)

items_end : {A B : Type 0} (f : List A → B) (goes : List Lexeme → Bool) (one : List Lexeme → Read A) (ts : List Lexeme) (k : List Lexeme → Left) → goes ts ≡ false
    → (left_of (all_of goes one ts >>= λ items. close_at items.1 >>= λ rest. Ok (f items.0, rest)) ▷ k) ≡ (kept (close_at ts) ▷ k)
items_end f goes one ts k h = rw (all-stop goes one ts h) (close_to (close_at ts) _ k)

-- the statements of a sequence
pub parts_go_on : (form : FileForm) (depth : ℕ) (ts : List Lexeme) (k : List Lexeme → Left) → is_open ts ≡ true → (left_of (seq_with (stmt_at form depth) ts) ▷ k) ≡ (left_of (stmt_at form depth ts) ▷ λ us. left_of (seq_with (stmt_at form depth) us) ▷ k)
unfolding seq_with
parts_go_on form depth ts k h = items_go_on (λ parts. Seq (row parts)) is_open (stmt_at form depth) (stmt_shortens form depth) ts k h

pub parts_end : (form : FileForm) (depth : ℕ) (ts : List Lexeme) (k : List Lexeme → Left) → is_open ts ≡ false → (left_of (seq_with (stmt_at form depth) ts) ▷ k) ≡ (kept (close_at ts) ▷ k)
unfolding seq_with
parts_end form depth ts k h = items_end (λ parts. Seq (row parts)) is_open (stmt_at form depth) ts k h

-- the names of a list
pub parameters_go_on : (word : List ℕ) (ts : List Lexeme) (k : List Lexeme → Left) → (left_of (read_parameters (token.Name word ∷ ts)) ▷ k) ≡ (left_of (read_parameters ts) ▷ k)
unfolding read_parameters is_name name_at
parameters_go_on word ts k = items_go_on (λ (names : List (List ℕ)). names) is_name name_at name_shortens (token.Name word ∷ ts) k refl

pub parameters_end : (ts : List Lexeme) (k : List Lexeme → Left) → is_name ts ≡ false → (left_of (read_parameters ts) ▷ k) ≡ (kept (close_at ts) ▷ k)
unfolding read_parameters
parameters_end ts k h = items_end (λ (names : List (List ℕ)). names) is_name name_at ts k h

-- numbers in a row
pub numbers_go_on : (value : ℤ) (ts : List Lexeme) (k : List Lexeme → Left) → (left_of (read_numbers (token.Int value ∷ ts)) ▷ k) ≡ (left_of (read_numbers ts) ▷ k)
unfolding read_numbers is_int int_at
numbers_go_on value ts k = items_go_on (λ (numbers : List ℤ). numbers) is_int int_at int_shortens (token.Int value ∷ ts) k refl

pub numbers_end : (ts : List Lexeme) (k : List Lexeme → Left) → is_int ts ≡ false → (left_of (read_numbers ts) ▷ k) ≡ (kept (close_at ts) ▷ k)
unfolding read_numbers
numbers_end ts k h = items_end (λ (numbers : List ℤ). numbers) is_int int_at ts k h
