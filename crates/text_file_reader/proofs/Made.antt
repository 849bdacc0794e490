-- What is made of each form, as it is read.
use Rattle.std.proofs.Common.{◌≡◌, ℕ, ℤ, zero, suc, ◌-◌, ◌<◌, List, Ok, Err, refl, sym, subst, ◌∙◌, inl, inr, arith}
use Rattle.std.specs.Prelude.{codes}
use Rattle.txn_programs.specs.Names.{are_new}
use Rattle.txn_programs.specs.declared.ast.Fold.{Fold}
use Rattle.txn_programs.specs.declared.ast.Span.{Span}
use Rattle.txn_programs.specs.declared.ast.VarId.{VarId}
use Rattle.txn_programs.specs.Tree.{Expression, Condition, Statement}
use Rattle.txn_programs.specs.Tree as t
use Rattle.text_words.specs.Tokens.{Lexeme, Opens}
use Rattle.text_words.specs.Tokens as token
use Rattle.text_words.specs.TokenReading.{Read, next_at, name_at, int_at, close_at, word_at, form_at, is_open, all_of}
use Rattle.text_words.specs.declared.fault.ReadFault.TheVariants.{Name}
use Rattle.text_words.proofs.Steps.{ok_is, done, chosen}
use Rattle.text_words.specs.Numbers.{number_of, count_of}
use Rattle.text_grammar.specs.Tree.{Expr, Cond, Stmt, Always, Declaration}
use Rattle.text_grammar.specs.Tree as tree
use Rattle.text_grammar.specs.Reading.{head_of, test_of, keyword_of, row, expr_at, binary_with, at_with, all_with, head_with, compound_with, cond_at, cond_with, stmt_at, stmt_with, set_with, put_with, seq_with, if_with, repeat_with, orelse_with, throw_with, always_at, parameters_at, tx_at}
use Rattle.text_grammar.specs.Scope.{Scope, inside}
use Rattle.text_grammar.specs.Resolving.{table_in, variable_in, named_in, expression_in, condition_in, statement_in, binary, compare, connect, each, always_in, condition_name, tx_name}
use Rattle.text_grammar.specs.declared.file.FileForm.{FileForm}
use Rattle.text_grammar.specs.declared.words.Operator.{Operator}
use Rattle.text_grammar.specs.declared.words.Head.{Head}
use Rattle.text_grammar.specs.declared.words.Comparison.{Comparison}
use Rattle.text_grammar.specs.declared.words.Connective.{Connective}
use Rattle.text_grammar.specs.declared.words.Test.{Test}
use Rattle.text_grammar.specs.declared.words.Test.TheVariants.{Compares, Negates, Connects}
use Rattle.text_grammar.specs.declared.words.Keyword.{Keyword}
use Rattle.text_grammar.specs.declared.words.Keyword.TheVariants as keyword
use Rattle.text_grammar.proofs.Stmts.{stmt_step}
use Rattle.text_resolver.specs.Scopes.{parameters_behind}
use Rattle.text_resolver.proofs.Parts.{chain, seq_is}
use Rattle.text_file_reader.specs.Resolved.{Makes, MakesLast, MakesTwo, MakesBody, MakesNamed, own_transaction_in}

-- ---- expressions

abbrev pub MakesExpression : (scope : Scope) → Read Expr → Expression → List Lexeme → Type 0
MakesExpression scope read made rest = Makes read (expression_in scope) made rest

pub number_makes : (form : FileForm) (scope : Scope) (depth : ℕ) (ts rest : List Lexeme) (value n : ℤ) → next_at ts ≡ Ok (token.Int value, rest) → number_of value ≡ Ok n → MakesExpression scope (expr_at form depth ts) (t.Int n) rest
unfolding expr_at
number_makes form scope zero ts rest value n a b = record { item = tree.Int value; is_read = rw a refl; is_made = rw b refl }
number_makes form scope (suc depth) ts rest value n a b = record { item = tree.Int value; is_read = rw a refl; is_made = rw b refl }

pub name_makes : (form : FileForm) (scope : Scope) (depth : ℕ) (ts rest : List Lexeme) (name : List ℕ) (e : Expression) → next_at ts ≡ Ok (token.Name name, rest) → named_in scope name ≡ Ok e → MakesExpression scope (expr_at form depth ts) e rest
unfolding expr_at
name_makes form scope zero ts rest name e a b = record { item = tree.Name name; is_read = rw a refl; is_made = b }
name_makes form scope (suc depth) ts rest name e a b = record { item = tree.Name name; is_read = rw a refl; is_made = b }

pub inside_makes : (form : FileForm) (scope : Scope) (depth : ℕ) (ts inside rest : List Lexeme) (e : Expression) → 0 < depth → next_at ts ≡ Ok (Opens, inside) → MakesExpression scope (compound_with form (expr_at form (depth - 1)) inside) e rest
    → MakesExpression scope (expr_at form depth ts) e rest
unfolding expr_at
inside_makes form scope zero ts inside rest e lt a made = absurd (omega arith)
inside_makes form scope (suc depth) ts inside rest e lt a made = let d : suc depth - 1 ≡ depth = omega arith in record { item = made.item; is_read = rw a (subst (λ n. compound_with form (expr_at form n) inside ≡ Ok (made.item, rest)) d made.is_read); is_made = made.is_made }

pub behind_head : (form : FileForm) (scope : Scope) (operand : List Lexeme → Read Expr) (ts behind rest : List Lexeme) (word : List ℕ) (kind : Head) (e : Expression) → name_at ts ≡ Ok (word, behind) → head_of form word ≡ Ok kind
    → MakesExpression scope (head_with operand kind behind) e rest → MakesExpression scope (compound_with form operand ts) e rest
unfolding compound_with
behind_head form scope operand ts behind rest word kind e w k made = record { item = made.item; is_read = rw (w, k) made.is_read; is_made = made.is_made }

pub binary_makes : (scope : Scope) (operand : List Lexeme → Read Expr) (ts behind_left behind_right rest : List Lexeme) (op : Operator) (a b : Expression)
    → MakesExpression scope (operand ts) a behind_left → MakesExpression scope (operand behind_left) b behind_right → close_at behind_right ≡ Ok rest → MakesExpression scope (binary_with operand op ts) (binary op a b) rest
unfolding binary_with
binary_makes scope operand ts behind_left behind_right rest op a b left right c =
    record { item = tree.Binary op left.item right.item; is_read = rw (left.is_read, right.is_read, c) refl; is_made = rw (left.is_made, right.is_made) refl }

pub cell_makes : (scope : Scope) (operand : List Lexeme → Read Expr) (ts behind_name behind_index rest : List Lexeme) (name : List ℕ) (u : Span) (a : Expression)
    → name_at ts ≡ Ok (name, behind_name) → table_in scope name ≡ Ok u → MakesExpression scope (operand behind_name) a behind_index → close_at behind_index ≡ Ok rest → MakesExpression scope (at_with operand ts) (t.Cell u a) rest
unfolding at_with
cell_makes scope operand ts behind_name behind_index rest name u a n there index c =
    record { item = tree.At name index.item; is_read = rw (n, index.is_read, c) refl; is_made = rw (there, index.is_made) refl }

pub fold_makes : (scope : Scope) (fold : Fold) (ts behind_name rest : List Lexeme) (name : List ℕ) (u : Span)
    → name_at ts ≡ Ok (name, behind_name) → table_in scope name ≡ Ok u → close_at behind_name ≡ Ok rest → MakesExpression scope (all_with fold ts) (t.OfAll fold u) rest
unfolding all_with
fold_makes scope fold ts behind_name rest name u n there c = record { item = tree.OfAll fold name; is_read = rw (n, c) refl; is_made = rw there refl }

-- ---- conditions

abbrev pub MakesCondition : (scope : Scope) → Read Cond → Condition → List Lexeme → Type 0
MakesCondition scope read made rest = Makes read (condition_in scope) made rest

pub comparison_makes : (scope : Scope) (expr : List Lexeme → Read Expr) (part : List Lexeme → Read Cond) (ts behind_left rest : List Lexeme) (op : Comparison) (a b : Expression)
    → MakesExpression scope (expr ts) a behind_left → MakesLast (expr behind_left) (expression_in scope) b rest → MakesCondition scope (cond_with expr part (Compares op) ts) (compare op a b) rest
comparison_makes scope expr part ts behind_left rest op a b left last =
    let right = last.makes in
    record { item = tree.Compare op left.item right.item; is_read = rw (left.is_read, right.is_read, last.closes) refl; is_made = rw (left.is_made, right.is_made) refl }

pub negation_makes : (scope : Scope) (expr : List Lexeme → Read Expr) (part : List Lexeme → Read Cond) (ts behind rest : List Lexeme) (c : Condition)
    → MakesCondition scope (part ts) c behind → close_at behind ≡ Ok rest → MakesCondition scope (cond_with expr part Negates ts) (t.Not c) rest
negation_makes scope expr part ts behind rest c inner e = record { item = tree.Not inner.item; is_read = rw (inner.is_read, e) refl; is_made = rw inner.is_made refl }

pub connection_makes : (scope : Scope) (expr : List Lexeme → Read Expr) (part : List Lexeme → Read Cond) (ts behind_left behind_right rest : List Lexeme) (op : Connective) (c d : Condition)
    → MakesCondition scope (part ts) c behind_left → MakesCondition scope (part behind_left) d behind_right → close_at behind_right ≡ Ok rest → MakesCondition scope (cond_with expr part (Connects op) ts) (connect op c d) rest
connection_makes scope expr part ts behind_left behind_right rest op c d left right e =
    record { item = tree.Connect op left.item right.item; is_read = rw (left.is_read, right.is_read, e) refl; is_made = rw (left.is_made, right.is_made) refl }

pub behind_test : (form : FileForm) (scope : Scope) (depth : ℕ) (ts behind rest : List Lexeme) (word : List ℕ) (kind : Test) (c : Condition) → 0 < depth → word_at ts ≡ Ok (word, behind) → test_of word ≡ Ok kind
    → MakesCondition scope (cond_with (expr_at form (depth - 1)) (cond_at form (depth - 1)) kind behind) c rest → MakesCondition scope (cond_at form depth ts) c rest
unfolding cond_at
behind_test form scope zero ts behind rest word kind c lt w k made = absurd (omega arith)
behind_test form scope (suc depth) ts behind rest word kind c lt w k made =
    let d : suc depth - 1 ≡ depth = omega arith in
    record { item = made.item; is_read = rw (w, k) (subst (λ n. cond_with (expr_at form n) (cond_at form n) kind behind ≡ Ok (made.item, rest)) d made.is_read); is_made = made.is_made }

-- ---- statements

abbrev pub MakesStatement : (scope : Scope) → Read Stmt → Statement → List Lexeme → Type 0
MakesStatement scope read made rest = Makes read (statement_in scope) made rest

pub behind_keyword : (form : FileForm) (scope : Scope) (depth : ℕ) (ts behind rest : List Lexeme) (word : List ℕ) (kind : Keyword) (s : Statement) → 0 < depth → word_at ts ≡ Ok (word, behind) → keyword_of form word ≡ Ok kind
    → MakesStatement scope (stmt_with (expr_at form (depth - 1)) (cond_at form (depth - 1)) (stmt_at form (depth - 1)) kind behind) s rest → MakesStatement scope (stmt_at form depth ts) s rest
behind_keyword form scope depth ts behind rest word kind s lt w k made =
    record { item = made.item; is_read = stmt_step form depth ts (word, behind) kind lt w k ∙ made.is_read; is_made = made.is_made }

pub skip_makes : (scope : Scope) (expr : List Lexeme → Read Expr) (cond : List Lexeme → Read Cond) (part : List Lexeme → Read Stmt) (ts rest : List Lexeme) → close_at ts ≡ Ok rest → MakesStatement scope (stmt_with expr cond part keyword.Skip ts) t.Skip rest
skip_makes scope expr cond part ts rest c = record { item = tree.Skip; is_read = rw c refl; is_made = refl }

pub retry_makes : (scope : Scope) (expr : List Lexeme → Read Expr) (cond : List Lexeme → Read Cond) (part : List Lexeme → Read Stmt) (ts rest : List Lexeme) → close_at ts ≡ Ok rest → MakesStatement scope (stmt_with expr cond part keyword.Retry ts) t.Retry rest
retry_makes scope expr cond part ts rest c = record { item = tree.Retry; is_read = rw c refl; is_made = refl }

pub set_makes : (scope : Scope) (expr : List Lexeme → Read Expr) (ts behind_name rest : List Lexeme) (name : List ℕ) (x : VarId) (e : Expression)
    → name_at ts ≡ Ok (name, behind_name) → variable_in scope.variables name ≡ Ok x → MakesLast (expr behind_name) (expression_in scope) e rest → MakesStatement scope (set_with expr ts) (t.Set x e) rest
unfolding set_with
set_makes scope expr ts behind_name rest name x e n v last =
    let value = last.makes in
    record { item = tree.Set name value.item; is_read = rw (n, value.is_read, last.closes) refl; is_made = rw (v, value.is_made) refl }

pub put_makes : (scope : Scope) (expr : List Lexeme → Read Expr) (ts behind_name behind_index rest : List Lexeme) (name : List ℕ) (u : Span) (a b : Expression)
    → name_at ts ≡ Ok (name, behind_name) → table_in scope name ≡ Ok u → MakesExpression scope (expr behind_name) a behind_index → MakesLast (expr behind_index) (expression_in scope) b rest → MakesStatement scope (put_with expr ts) (t.Put u a b) rest
unfolding put_with
put_makes scope expr ts behind_name behind_index rest name u a b n there index last =
    let value = last.makes in
    record { item = tree.Put name index.item value.item; is_read = rw (n, index.is_read, value.is_read, last.closes) refl; is_made = rw (there, index.is_made, value.is_made) refl }

pub if_makes : (scope : Scope) (cond : List Lexeme → Read Cond) (part : List Lexeme → Read Stmt) (ts behind_test rest : List Lexeme) (c : Condition) (p q : Statement)
    → MakesCondition scope (cond ts) c behind_test → MakesTwo part (statement_in scope) behind_test p q rest → MakesStatement scope (if_with cond part ts) (t.If c p q) rest
unfolding if_with
if_makes scope cond part ts behind_test rest c p q tested both =
    let first = both.makes_first in
    let second = both.makes_second.makes in
    record { item = tree.If tested.item first.item second.item; is_read = rw (tested.is_read, first.is_read, second.is_read, both.makes_second.closes) refl; is_made = rw (tested.is_made, first.is_made, second.is_made) refl }

pub repeat_makes : (scope : Scope) (part : List Lexeme → Read Stmt) (ts behind_count behind_body rest : List Lexeme) (count : ℤ) (n : ℕ) (p : Statement)
    → int_at ts ≡ Ok (count, behind_count) → count_of count ≡ Ok n → MakesStatement scope (part behind_count) p behind_body → close_at behind_body ≡ Ok rest → MakesStatement scope (repeat_with part ts) (t.Repeat n p) rest
unfolding repeat_with
repeat_makes scope part ts behind_count behind_body rest count n p i k body c = record { item = tree.Repeat count body.item; is_read = rw (i, body.is_read, c) refl; is_made = rw (k, body.is_made) refl }

pub orelse_makes : (scope : Scope) (part : List Lexeme → Read Stmt) (ts rest : List Lexeme) (p q : Statement)
    → MakesTwo part (statement_in scope) ts p q rest → MakesStatement scope (orelse_with part ts) (t.OrElse p q) rest
unfolding orelse_with
orelse_makes scope part ts rest p q both =
    let first = both.makes_first in
    let second = both.makes_second.makes in
    record { item = tree.OrElse first.item second.item; is_read = rw (first.is_read, second.is_read, both.makes_second.closes) refl; is_made = rw (first.is_made, second.is_made) refl }

pub throw_makes : (scope : Scope) (expr : List Lexeme → Read Expr) (ts rest : List Lexeme) (e : Expression)
    → MakesLast (expr ts) (expression_in scope) e rest → MakesStatement scope (throw_with expr ts) (t.Throw e) rest
unfolding throw_with
throw_makes scope expr ts rest e last =
    let value = last.makes in
    record { item = tree.Throw value.item; is_read = rw (value.is_read, last.closes) refl; is_made = rw value.is_made refl }

pub seq_makes : (scope : Scope) (part : List Lexeme → Read Stmt) (ts behind rest : List Lexeme) (parts : List Stmt) (made : List Statement)
    → all_of is_open part ts ≡ Ok (parts, behind) → each (statement_in scope) parts ≡ Ok made → close_at behind ≡ Ok rest → MakesStatement scope (seq_with part ts) (t.Seq (chain made)) rest
unfolding seq_with
seq_makes scope part ts behind rest parts made all are c = record { item = tree.Seq (row parts); is_read = rw (all, c) refl; is_made = seq_is scope parts ∙ rw are refl }

-- ---- conditions and transactions of a file

pub always_makes : (form : FileForm) (scope : Scope) (ts inside behind_name behind_condition rest : List Lexeme) (name : List ℕ) (c : Condition)
    → form_at (codes "always") ts ≡ Ok inside → name_at inside ≡ Ok (name, behind_name) → MakesCondition scope (cond_at form 31 behind_name) c behind_condition → close_at behind_condition ≡ Ok rest
    → MakesNamed (always_at form ts) (always_in scope) condition_name (name, c) name rest
unfolding always_at
always_makes form scope ts inside behind_name behind_condition rest name c f n condition e =
    record { item = record { name = name; condition = condition.item }; is_read = rw (f, n, condition.is_read, e) refl; is_made = rw condition.is_made refl; is_named = refl }

pub tx_makes : (outer : Scope) (own : List (List ℕ)) (announced : FileForm) (ts opened behind_name behind_parameters rest : List Lexeme) (name : List ℕ) (parameters : List (List ℕ)) (s : Statement) (e : Expression)
    → form_at (codes "tx") ts ≡ Ok opened → name_at opened ≡ Ok (name, behind_name) → parameters_at announced behind_name ≡ Ok (parameters, behind_parameters) → parameters_behind outer.variables parameters ≡ Ok own
    → MakesBody announced (inside outer own) behind_parameters s e rest → MakesNamed (tx_at announced ts) (own_transaction_in outer) tx_name (record { name = name; parameters = parameters; body = s; result = e }) name rest
unfolding tx_at
tx_makes outer own announced ts opened behind_name behind_parameters rest name parameters s e f n p o both =
    elim (chosen (are_new outer.variables parameters) (done parameters) (Err Name) (Ok own) o) [
      | inl q ↦
          let makes : MakesBody announced (inside outer parameters) behind_parameters s e rest = subst (λ (ps : List (List ℕ)). MakesBody announced (inside outer ps) behind_parameters s e rest) (sym (ok_is parameters own q.1)) both in
          let body = makes.makes_body in
          let value = makes.makes_result.makes in
          record {
            item = record { name = name; parameters = parameters; body = body.item; value = value.item };
            is_read = rw (f, n, p, body.is_read, value.is_read, makes.makes_result.closes) refl;
            is_made = rw (q.0, body.is_made, value.is_made) refl;
            is_named = refl;
          }
      | inr q ↦ absurd (let g = q.1 in cc)
    ]
