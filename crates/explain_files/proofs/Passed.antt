-- The tokens of a file from left to right: what is known at each of them, and what each part of the grammar leaves as it was.
use Rattle.std.proofs.Common.{◌≡◌, ℕ, List, [], ◌∷◌, ◌++◌, map, reverse, refl, sym, ap, subst, ◌∙◌, append_assoc}
use Rattle.std.specs.Prelude.{ℤ, codes}
use Rattle.std.specs.List.{flat_map}
use Rattle.std.proofs.lemmas.List.{append-nil, reverse-reverse}
use Rattle.text_words.specs.Tokens.{Lexeme, Opens, Closes, tokens}
use Rattle.text_words.specs.Tokens as token
use Rattle.text_grammar.specs.Tree.{Expr, Cond, Argument, Stmt, Stmts, NoStmts, MoreStmts, Pair, Table, Always, Declaration, Run, File, operator_word, fold_word, comparison_word, connective_word, form, expr_tokens, cond_tokens, argument_token, stmt_tokens, stmts_tokens, pair_tokens, table_tokens, always_tokens, list_tokens, tx_tokens, run_tokens, heading_tokens, file_tokens}
use Rattle.text_grammar.specs.Tree as f
use Rattle.txn_programs.specs.declared.ast.Fold.{Fold}
use Rattle.txn_programs.specs.declared.ast.Fold.TheVariants as fold
use Rattle.text_grammar.specs.declared.words.Operator.{Operator}
use Rattle.text_grammar.specs.declared.words.Operator.TheVariants as operator
use Rattle.text_grammar.specs.declared.words.Comparison.{Comparison}
use Rattle.text_grammar.specs.declared.words.Comparison.TheVariants as comparison
use Rattle.text_grammar.specs.declared.words.Connective.{Connective}
use Rattle.text_grammar.specs.declared.words.Connective.TheVariants as connective
use Rattle.text_grammar.specs.declared.file.FileForm.{FileForm}
use Rattle.text_grammar.specs.declared.file.FileForm.TheVariants.{One, Two, Three}
use Rattle.explain_files.specs.declared.wanted.NameUse.TheVariants as name
use Rattle.explain_files.specs.declared.wanted.NumberUse.{NumberUse}
use Rattle.explain_files.specs.declared.wanted.NumberUse.TheVariants as number
use Rattle.explain_files.specs.declared.wanted.Role.{Role}
use Rattle.explain_files.specs.declared.wanted.Role.TheVariants as role
use Rattle.explain_files.specs.Roles.{role_of_word, role_of_list, role_behind, role_at}
use Rattle.explain_files.specs.Judging.{Names, with_token, names_in, OfToken, EachToken, AllTokens}
use Rattle.explain_files.specs.Limiting.{Many, many_with, many_in}
use Rattle.explain_files.proofs.Judged.{onto}

-- the names that are declared, and how many of each kind, and tasks
pub record Seen : Type 0 where
  pub names : Names
  pub many : Many

abbrev pub seen_with : Seen → Role → Lexeme → Seen
seen_with s used t = record { names = with_token s.names used t; many = many_with s.many used t }

abbrev pub seen_in : FileForm → List Lexeme → Seen
seen_in announced before = record { names = names_in announced before; many = many_in announced before }

-- what is so of a token, by what is known there, by what the token is for, and by the tokens behind it
abbrev pub Fact : Type 1
Fact = Seen → Role → Lexeme → List Lexeme → Type 0

-- it is so of each of these tokens, from here on, in a file of this form
abbrev pub Along : Fact → FileForm → Seen → Role → List Lexeme → Type 0
Along Q announced s used [] = Unit {0}
Along Q announced s used (t ∷ ts) = Q s used t ts × Along Q announced (seen_with s used t) (role_behind announced used t) ts

-- the same, by the tokens before and behind
abbrev pub At : Fact → FileForm → OfToken
At Q announced before t behind = Q (seen_in announced before) (role_at announced before) t behind

abbrev after : List Lexeme → List Lexeme → List Lexeme
after before [] = before
after before (t ∷ ts) = after (t ∷ before) ts

after_is : (ts before : List Lexeme) → after before ts ≡ reverse ts ++ before
after_is [] before = refl
after_is (t ∷ ts) before = after_is ts (t ∷ before) ∙ sym (onto ts t before)

each_along : (Q : Fact) (announced : FileForm) (ts before : List Lexeme) → EachToken (At Q announced) (after before ts) []
    → EachToken (At Q announced) before ts × Along Q announced (seen_in announced before) (role_at announced before) ts
each_along Q announced [] before h = (h, tt)
each_along Q announced (t ∷ ts) before h = let r = each_along Q announced ts (t ∷ before) h in (r.0.1, (r.0.0, r.1))

-- from the left end of a text
pub all_along : (Q : Fact) (announced : FileForm) (bytes : List ℕ) (ts : List Lexeme) → tokens bytes ≡ ts → AllTokens (At Q announced) bytes → Along Q announced (seen_in announced []) role.Value ts
all_along Q announced bytes ts e all =
    let same : after [] ts ≡ all.before = after_is ts [] ∙ append-nil (reverse ts) ∙ ap reverse (sym e ∙ all.parts) ∙ reverse-reverse all.before in
    (each_along Q announced ts [] (subst (λ (before : List Lexeme). EachToken (At Q announced) before []) (sym same) all.each)).1

-- ---- a form, behind its word

-- ( WORD parts )
pub within : (Q : Fact) (announced : FileForm) (s : Seen) (word : List ℕ) (used : Role) (parts ts : List Lexeme) → role_of_word word ≡ used → Along Q announced s role.Value (form word parts ++ ts) → Along Q announced s used (parts ++ (Closes ∷ ts))
within Q announced s word used parts ts e h =
    subst (λ (r : Role). Along Q announced s r (parts ++ (Closes ∷ ts))) e (subst (λ (us : List Lexeme). Along Q announced s (role_of_word word) us) (append_assoc parts (Closes ∷ []) ts) h.1.1)

-- ( WORD first second )
pub within_two : (Q : Fact) (announced : FileForm) (s : Seen) (word : List ℕ) (a b ts : List Lexeme) → role_of_word word ≡ role.Value → Along Q announced s role.Value (form word (a ++ b) ++ ts) → Along Q announced s role.Value (a ++ (b ++ (Closes ∷ ts)))
within_two Q announced s word a b ts e h = subst (λ (us : List Lexeme). Along Q announced s role.Value us) (append_assoc a b (Closes ∷ ts)) (within Q announced s word role.Value (a ++ b) ts e h)

-- ( WORD first second third )
pub within_three : (Q : Fact) (announced : FileForm) (s : Seen) (word : List ℕ) (a b d ts : List Lexeme) → role_of_word word ≡ role.Value → Along Q announced s role.Value (form word (a ++ (b ++ d)) ++ ts) → Along Q announced s role.Value (a ++ (b ++ (d ++ (Closes ∷ ts))))
within_three Q announced s word a b d ts e h =
    subst (λ (us : List Lexeme). Along Q announced s role.Value us) (append_assoc a (b ++ d) (Closes ∷ ts) ∙ ap (λ (us : List Lexeme). a ++ us) (append_assoc b d (Closes ∷ ts))) (within Q announced s word role.Value (a ++ (b ++ d)) ts e h)

pub closed : (Q : Fact) (announced : FileForm) (s : Seen) (ts : List Lexeme) → Along Q announced s role.Value (Closes ∷ ts) → Along Q announced s role.Value ts
closed Q announced s ts h = h.1

pub operator_role : (op : Operator) → role_of_word (operator_word op) ≡ role.Value
operator_role operator.Add = refl
operator_role operator.Sub = refl
operator_role operator.Mul = refl
operator_role operator.Div = refl
operator_role operator.Rem = refl

fold_role : (op : Fold) → role_of_word (fold_word op) ≡ role.Name name.Cells
fold_role fold.Sum = refl
fold_role fold.Min = refl
fold_role fold.Max = refl

pub comparison_role : (op : Comparison) → role_of_word (comparison_word op) ≡ role.Value
comparison_role comparison.Eq = refl
comparison_role comparison.Lt = refl
comparison_role comparison.Le = refl

pub connective_role : (op : Connective) → role_of_word (connective_word op) ≡ role.Value
connective_role connective.And = refl
connective_role connective.Or = refl

-- the parts of what names a table
pub in_at : (Q : Fact) (announced : FileForm) (s : Seen) (table : List ℕ) (index : Expr) (ts : List Lexeme) → Along Q announced s role.Value (expr_tokens (f.At table index) ++ ts)
    → Q s (role.Name name.Cells) (token.Name table) (expr_tokens index ++ (Closes ∷ ts)) × Along Q announced s role.Value (expr_tokens index ++ (Closes ∷ ts))
in_at Q announced s table index ts h = within Q announced s (codes "at") (role.Name name.Cells) (token.Name table ∷ expr_tokens index) ts refl h

pub in_all : (Q : Fact) (announced : FileForm) (s : Seen) (op : Fold) (table : List ℕ) (ts : List Lexeme) → Along Q announced s role.Value (expr_tokens (f.OfAll op table) ++ ts)
    → Q s (role.Name name.Cells) (token.Name table) (Closes ∷ ts) × Along Q announced s role.Value (Closes ∷ ts)
in_all Q announced s op table ts h = within Q announced s (fold_word op) (role.Name name.Cells) (token.Name table ∷ []) ts (fold_role op) h

-- ---- what is known stays as it was behind an expression, a condition and a statement

pub pass_expr : (Q : Fact) (announced : FileForm) (s : Seen) (e : Expr) (ts : List Lexeme) → Along Q announced s role.Value (expr_tokens e ++ ts) → Along Q announced s role.Value ts
pass_expr Q announced s (f.Int value) ts h = h.1
pass_expr Q announced s (f.Name text) ts h = h.1
pass_expr Q announced s (f.At table index) ts h = closed Q announced s ts (pass_expr Q announced s index (Closes ∷ ts) (in_at Q announced s table index ts h).1)
pass_expr Q announced s (f.OfAll op table) ts h = closed Q announced s ts (in_all Q announced s op table ts h).1
pass_expr Q announced s (f.Binary op left right) ts h =
    closed Q announced s ts (pass_expr Q announced s right (Closes ∷ ts) (pass_expr Q announced s left (expr_tokens right ++ (Closes ∷ ts)) (within_two Q announced s (operator_word op) (expr_tokens left) (expr_tokens right) ts (operator_role op) h)))

pub pass_cond : (Q : Fact) (announced : FileForm) (s : Seen) (e : Cond) (ts : List Lexeme) → Along Q announced s role.Value (cond_tokens e ++ ts) → Along Q announced s role.Value ts
pass_cond Q announced s (f.Compare op left right) ts h =
    closed Q announced s ts (pass_expr Q announced s right (Closes ∷ ts) (pass_expr Q announced s left (expr_tokens right ++ (Closes ∷ ts)) (within_two Q announced s (comparison_word op) (expr_tokens left) (expr_tokens right) ts (comparison_role op) h)))
pass_cond Q announced s (f.Not inner) ts h = closed Q announced s ts (pass_cond Q announced s inner (Closes ∷ ts) (within Q announced s (codes "not") role.Value (cond_tokens inner) ts refl h))
pass_cond Q announced s (f.Connect op left right) ts h =
    closed Q announced s ts (pass_cond Q announced s right (Closes ∷ ts) (pass_cond Q announced s left (cond_tokens right ++ (Closes ∷ ts)) (within_two Q announced s (connective_word op) (cond_tokens left) (cond_tokens right) ts (connective_role op) h)))

-- the parts of the statements with a word of their own
pub in_set : (Q : Fact) (announced : FileForm) (s : Seen) (text : List ℕ) (value : Expr) (ts : List Lexeme) → Along Q announced s role.Value (stmt_tokens (f.Set text value) ++ ts)
    → Q s (role.Name name.Target) (token.Name text) (expr_tokens value ++ (Closes ∷ ts)) × Along Q announced s role.Value (expr_tokens value ++ (Closes ∷ ts))
in_set Q announced s text value ts h = within Q announced s (codes "set") (role.Name name.Target) (token.Name text ∷ expr_tokens value) ts refl h

pub in_put : (Q : Fact) (announced : FileForm) (s : Seen) (table : List ℕ) (index value : Expr) (ts : List Lexeme) → Along Q announced s role.Value (stmt_tokens (f.Put table index value) ++ ts)
    → Q s (role.Name name.Cells) (token.Name table) ((expr_tokens index ++ expr_tokens value) ++ (Closes ∷ ts)) × Along Q announced s role.Value (expr_tokens index ++ (expr_tokens value ++ (Closes ∷ ts)))
in_put Q announced s table index value ts h =
    let i = within Q announced s (codes "put") (role.Name name.Cells) (token.Name table ∷ (expr_tokens index ++ expr_tokens value)) ts refl h in
    (i.0, subst (λ (us : List Lexeme). Along Q announced s role.Value us) (append_assoc (expr_tokens index) (expr_tokens value) (Closes ∷ ts)) i.1)

pub in_repeat : (Q : Fact) (announced : FileForm) (s : Seen) (body : Stmt) (ts : List Lexeme) → (count : _) → Along Q announced s role.Value (stmt_tokens (f.Repeat count body) ++ ts)
    → Q s (role.Number number.Turns) (token.Int count) (stmt_tokens body ++ (Closes ∷ ts)) × Along Q announced s role.Value (stmt_tokens body ++ (Closes ∷ ts))
in_repeat Q announced s body ts count h = within Q announced s (codes "repeat") (role.Number number.Turns) (token.Int count ∷ stmt_tokens body) ts refl h

pub in_more : (Q : Fact) (announced : FileForm) (s : Seen) (first : Stmt) (others : Stmts) (ts : List Lexeme) → Along Q announced s role.Value (stmts_tokens (MoreStmts first others) ++ ts) → Along Q announced s role.Value (stmt_tokens first ++ (stmts_tokens others ++ ts))
in_more Q announced s first others ts h = subst (λ (us : List Lexeme). Along Q announced s role.Value us) (append_assoc (stmt_tokens first) (stmts_tokens others) ts) h

pass_arguments : (Q : Fact) (announced : FileForm) (s : Seen) (given : List Argument) (ts : List Lexeme) → Along Q announced s role.Value (map argument_token given ++ (Closes ∷ ts)) → Along Q announced s role.Value (Closes ∷ ts)
pass_arguments Q announced s [] ts h = h
pass_arguments Q announced s (f.Number value ∷ given) ts h = pass_arguments Q announced s given ts h.1
pass_arguments Q announced s (f.Parameter text ∷ given) ts h = pass_arguments Q announced s given ts h.1

mutual
  pub pass_stmt : (Q : Fact) (announced : FileForm) (s : Seen) (e : Stmt) (ts : List Lexeme) → Along Q announced s role.Value (stmt_tokens e ++ ts) → Along Q announced s role.Value ts
  pass_stmt Q announced s f.Skip ts h = closed Q announced s ts (within Q announced s (codes "skip") role.Value [] ts refl h)
  pass_stmt Q announced s (f.Set text value) ts h = closed Q announced s ts (pass_expr Q announced s value (Closes ∷ ts) (in_set Q announced s text value ts h).1)
  pass_stmt Q announced s (f.Put table index value) ts h =
      closed Q announced s ts (pass_expr Q announced s value (Closes ∷ ts) (pass_expr Q announced s index (expr_tokens value ++ (Closes ∷ ts)) (in_put Q announced s table index value ts h).1))
  pass_stmt Q announced s (f.Seq parts) ts h = closed Q announced s ts (pass_stmts Q announced s parts (Closes ∷ ts) (within Q announced s (codes "seq") role.Value (stmts_tokens parts) ts refl h))
  pass_stmt Q announced s (f.If test first second) ts h =
      closed Q announced s ts (pass_stmt Q announced s second (Closes ∷ ts) (pass_stmt Q announced s first (stmt_tokens second ++ (Closes ∷ ts))
      (pass_cond Q announced s test (stmt_tokens first ++ (stmt_tokens second ++ (Closes ∷ ts))) (within_three Q announced s (codes "if") (cond_tokens test) (stmt_tokens first) (stmt_tokens second) ts refl h))))
  pass_stmt Q announced s (f.Repeat count body) ts h = closed Q announced s ts (pass_stmt Q announced s body (Closes ∷ ts) (in_repeat Q announced s body ts count h).1)
  pass_stmt Q announced s f.Retry ts h = closed Q announced s ts (within Q announced s (codes "retry") role.Value [] ts refl h)
  pass_stmt Q announced s (f.OrElse first second) ts h =
      closed Q announced s ts (pass_stmt Q announced s second (Closes ∷ ts) (pass_stmt Q announced s first (stmt_tokens second ++ (Closes ∷ ts)) (within_two Q announced s (codes "orelse") (stmt_tokens first) (stmt_tokens second) ts refl h)))
  pass_stmt Q announced s (f.Throw value) ts h = closed Q announced s ts (pass_expr Q announced s value (Closes ∷ ts) (within Q announced s (codes "throw") role.Value (expr_tokens value) ts refl h))
  pass_stmt Q announced s (f.Call text given) ts h = closed Q announced s ts (pass_arguments Q announced s given ts (within Q announced s (codes "call") role.Value (token.Name text ∷ map argument_token given) ts refl h).1)

  pub pass_stmts : (Q : Fact) (announced : FileForm) (s : Seen) (e : Stmts) (ts : List Lexeme) → Along Q announced s role.Value (stmts_tokens e ++ ts) → Along Q announced s role.Value ts
  pass_stmts Q announced s NoStmts ts h = h
  pass_stmts Q announced s (MoreStmts first others) ts h = pass_stmts Q announced s others ts (pass_stmt Q announced s first (stmts_tokens others ++ ts) (in_more Q announced s first others ts h))

-- ---- declarations

abbrev pub with_variable : Seen → List ℕ → Seen
with_variable s text = seen_with s (role.Name name.Variable) (token.Name text)

abbrev pub with_table_name : Seen → List ℕ → Seen
with_table_name s text = seen_with s (role.Name name.Table) (token.Name text)

-- its name, and how many cells it has
abbrev pub with_table : Seen → Table → Seen
with_table s t = seen_with (with_table_name s t.name) (role.Number number.Length) (token.Int t.count)

abbrev pub with_condition : Seen → List ℕ → Seen
with_condition s text = seen_with s (role.Name name.Condition) (token.Name text)

abbrev pub with_name : Seen → List ℕ → Seen
with_name s text = seen_with s (role.Name name.Transaction) (token.Name text)

abbrev pub with_parameter : Seen → List ℕ → Seen
with_parameter s text = seen_with s (role.Name name.Parameter) (token.Name text)

abbrev pub with_parameters : Seen → List (List ℕ) → Seen
with_parameters s [] = s
with_parameters s (p ∷ ps) = with_parameters (with_parameter s p) ps

-- the names of a list, where the form has one
abbrev pub listed : FileForm → List (List ℕ) → List (List ℕ)
listed One names = []
listed Two names = []
listed Three names = names

abbrev pub with_transaction : FileForm → Seen → Declaration → Seen
with_transaction announced s t = with_parameters (with_name s t.name) (listed announced t.parameters)

abbrev pub with_tasks : Seen → Run → Seen
with_tasks s r = seen_with s (role.Number number.Tasks) (token.Int r.count)

-- the first of a row of declarations, and the others
pub onward : {X : Type 0} (Q : Fact) (announced : FileForm) (s : Seen) (write : X → List Lexeme) (x : X) (xs : List X) (ts : List Lexeme)
    → Along Q announced s role.Value (flat_map write (x ∷ xs) ++ ts) → Along Q announced s role.Value (write x ++ (flat_map write xs ++ ts))
onward Q announced s write x xs ts h = subst (λ (us : List Lexeme). Along Q announced s role.Value us) (append_assoc (write x) (flat_map write xs) ts) h

pub in_var : (Q : Fact) (announced : FileForm) (s : Seen) (p : Pair) (ts : List Lexeme) → Along Q announced s role.Value (pair_tokens (codes "var") p ++ ts)
    → Q s (role.Name name.Variable) (token.Name p.name) (token.Int p.value ∷ Closes ∷ ts) × Q (with_variable s p.name) (role.Number number.Initial) (token.Int p.value) (Closes ∷ ts)
    × Along Q announced (with_variable s p.name) role.Value ts
in_var Q announced s p ts h =
    let i = within Q announced s (codes "var") (role.Name name.Variable) (token.Name p.name ∷ token.Int p.value ∷ []) ts refl h in
    (i.0, i.1.0, closed Q announced (with_variable s p.name) ts i.1.1)

pub in_always : (Q : Fact) (announced : FileForm) (s : Seen) (a : Always) (ts : List Lexeme) → Along Q announced s role.Value (always_tokens a ++ ts)
    → Q s (role.Name name.Condition) (token.Name a.name) (cond_tokens a.condition ++ (Closes ∷ ts)) × Along Q announced (with_condition s a.name) role.Value (cond_tokens a.condition ++ (Closes ∷ ts))
in_always Q announced s a ts h = within Q announced s (codes "always") (role.Name name.Condition) (token.Name a.name ∷ cond_tokens a.condition) ts refl h

-- ---- the parameters of a transaction

-- it is so of each parameter, before these tokens
abbrev pub OfParameters : Fact → Seen → List (List ℕ) → List Lexeme → Type 0
OfParameters Q s [] ts = Unit {0}
OfParameters Q s (p ∷ ps) ts = Q s (role.Name name.Parameter) (token.Name p) (map token.Name ps ++ ts) × OfParameters Q (with_parameter s p) ps ts

in_names : (Q : Fact) (announced : FileForm) (ps : List (List ℕ)) (s : Seen) (ts : List Lexeme) → Along Q announced s (role.Name name.Parameter) (map token.Name ps ++ ts)
    → OfParameters Q s ps ts × Along Q announced (with_parameters s ps) (role.Name name.Parameter) ts
in_names Q announced [] s ts h = (tt, h)
in_names Q announced (p ∷ ps) s ts h = let r = in_names Q announced ps (with_parameter s p) ts h.1 in ((h.0, r.0), r.1)

in_list : (Q : Fact) (announced : FileForm) (s : Seen) (ps : List (List ℕ)) (ts : List Lexeme) → Along Q announced s (role_of_list announced) (list_tokens announced ps ++ ts)
    → OfParameters Q s (listed announced ps) (Closes ∷ ts) × Along Q announced (with_parameters s (listed announced ps)) role.Value ts
in_list Q One s ps ts h = (tt, h)
in_list Q Two s ps ts h = (tt, h)
in_list Q Three s ps ts h =
    let inside = subst (λ (us : List Lexeme). Along Q Three s (role.Name name.Parameter) us) (append_assoc (map token.Name ps) (Closes ∷ []) ts) h.1 in
    let r = in_names Q Three ps s (Closes ∷ ts) inside in
    (r.0, r.1.1)

-- of a transaction: its name, its parameters, and its body with its value
pub record InTx (Q : Fact) (announced : FileForm) (s : Seen) (t : Declaration) (ts : List Lexeme) : Type 0 where
  pub behind : List Lexeme
  pub named : Q s (role.Name name.Transaction) (token.Name t.name) behind
  pub parameters : OfParameters Q (with_name s t.name) (listed announced t.parameters) (Closes ∷ (stmt_tokens t.body ++ (expr_tokens t.value ++ (Closes ∷ ts))))
  pub body : Along Q announced (with_transaction announced s t) role.Value (stmt_tokens t.body ++ (expr_tokens t.value ++ (Closes ∷ ts)))

pub in_tx : (Q : Fact) (announced : FileForm) (s : Seen) (t : Declaration) (ts : List Lexeme) → Along Q announced s role.Value (tx_tokens announced t ++ ts) → InTx Q announced s t ts
in_tx Q announced s t ts h =
    let list = list_tokens announced t.parameters in
    let inside = stmt_tokens t.body ++ expr_tokens t.value in
    let i = within Q announced s (codes "tx") (role.Name name.Transaction) (token.Name t.name ∷ (list ++ inside)) ts refl h in
    let apart : (list ++ inside) ++ (Closes ∷ ts) ≡ list ++ (stmt_tokens t.body ++ (expr_tokens t.value ++ (Closes ∷ ts))) =
    append_assoc list inside (Closes ∷ ts) ∙ ap (λ (us : List Lexeme). list ++ us) (append_assoc (stmt_tokens t.body) (expr_tokens t.value) (Closes ∷ ts)) in
    let l = in_list Q announced (with_name s t.name) t.parameters _ (subst (λ (us : List Lexeme). Along Q announced (with_name s t.name) (role_of_list announced) us) apart i.1) in
    record { behind = (list ++ inside) ++ (Closes ∷ ts); named = i.0; parameters = l.0; body = l.1 }

-- ---- numbers in a row

-- it is so of each number, before these tokens
abbrev pub OfNumbers : Fact → Seen → NumberUse → List ℤ → List Lexeme → Type 0
OfNumbers Q s used [] ts = Unit {0}
OfNumbers Q s used (a ∷ more) ts = Q s (role.Number used) (token.Int a) (map token.Int more ++ ts) × OfNumbers Q s used more ts

in_values : (Q : Fact) (announced : FileForm) (given : List ℤ) (s : Seen) (ts : List Lexeme) → Along Q announced s (role.Number number.Cell) (map token.Int given ++ ts)
    → OfNumbers Q s number.Cell given ts × Along Q announced s (role.Number number.Cell) ts
in_values Q announced [] s ts h = (tt, h)
in_values Q announced (a ∷ given) s ts h = let r = in_values Q announced given s ts h.1 in ((h.0, r.0), r.1)

in_arguments : (Q : Fact) (announced : FileForm) (given : List ℤ) (s : Seen) (ts : List Lexeme) → Along Q announced s (role.Number number.Argument) (map token.Int given ++ ts)
    → OfNumbers Q s number.Argument given ts × Along Q announced s (role.Number number.Argument) ts
in_arguments Q announced [] s ts h = (tt, h)
in_arguments Q announced (a ∷ given) s ts h = let r = in_arguments Q announced given s ts h.1 in ((h.0, r.0), r.1)

-- of a table: its name, its length, its values, and what stands behind it
pub record InTable (Q : Fact) (announced : FileForm) (s : Seen) (t : Table) (ts : List Lexeme) : Type 0 where
  pub named : Q s (role.Name name.Table) (token.Name t.name) (token.Int t.count ∷ token.Int t.first ∷ (map token.Int t.others ++ (Closes ∷ ts)))
  pub counted : Q (with_table_name s t.name) (role.Number number.Length) (token.Int t.count) (token.Int t.first ∷ (map token.Int t.others ++ (Closes ∷ ts)))
  pub values : OfNumbers Q (with_table s t) number.Cell (t.first ∷ t.others) (Closes ∷ ts)
  pub rest : Along Q announced (with_table s t) role.Value ts

pub in_table : (Q : Fact) (announced : FileForm) (s : Seen) (t : Table) (ts : List Lexeme) → Along Q announced s role.Value (table_tokens t ++ ts) → InTable Q announced s t ts
in_table Q announced s t ts h =
    let i = within Q announced s (codes "table") (role.Name name.Table) (token.Name t.name ∷ token.Int t.count ∷ token.Int t.first ∷ map token.Int t.others) ts refl h in
    let v = in_values Q announced (t.first ∷ t.others) (with_table s t) (Closes ∷ ts) i.1.1 in
    record { named = i.0; counted = i.1.0; values = v.0; rest = v.1.1 }

-- of a run: its name, its count, its arguments, and what stands behind it
pub record InRun (Q : Fact) (announced : FileForm) (s : Seen) (r : Run) (ts : List Lexeme) : Type 0 where
  pub named : Q s (role.Name name.Called) (token.Name r.name) (token.Int r.count ∷ (map token.Int r.arguments ++ (Closes ∷ ts)))
  pub counted : Q s (role.Number number.Tasks) (token.Int r.count) (map token.Int r.arguments ++ (Closes ∷ ts))
  pub given : OfNumbers Q (with_tasks s r) number.Argument r.arguments (Closes ∷ ts)
  pub rest : Along Q announced (with_tasks s r) role.Value ts

pub in_run : (Q : Fact) (announced : FileForm) (s : Seen) (r : Run) (ts : List Lexeme) → Along Q announced s role.Value (run_tokens r ++ ts) → InRun Q announced s r ts
in_run Q announced s r ts h =
    let i = within Q announced s (codes "run") (role.Name name.Called) (token.Name r.name ∷ token.Int r.count ∷ map token.Int r.arguments) ts refl h in
    let a = in_arguments Q announced r.arguments (with_tasks s r) (Closes ∷ ts) i.1.1 in
    record { named = i.0; counted = i.1.0; given = a.0; rest = a.1.1 }

-- ---- rows of them

abbrev pub with_variables : Seen → List Pair → Seen
with_variables s [] = s
with_variables s (p ∷ ps) = with_variables (with_variable s p.name) ps

abbrev pub with_tables : Seen → List Table → Seen
with_tables s [] = s
with_tables s (t ∷ more) = with_tables (with_table s t) more

abbrev pub with_conditions : Seen → List Always → Seen
with_conditions s [] = s
with_conditions s (a ∷ more) = with_conditions (with_condition s a.name) more

abbrev pub with_transactions : FileForm → Seen → List Declaration → Seen
with_transactions announced s [] = s
with_transactions announced s (t ∷ more) = with_transactions announced (with_transaction announced s t) more

pub behind_always : (Q : Fact) (announced : FileForm) (s : Seen) (a : Always) (ts : List Lexeme) → Along Q announced s role.Value (always_tokens a ++ ts) → Along Q announced (with_condition s a.name) role.Value ts
behind_always Q announced s a ts h =
    closed Q announced (with_condition s a.name) ts (pass_cond Q announced (with_condition s a.name) a.condition (Closes ∷ ts) (in_always Q announced s a ts h).1)

pub behind_tx : (Q : Fact) (announced : FileForm) (s : Seen) (t : Declaration) (ts : List Lexeme) → Along Q announced s role.Value (tx_tokens announced t ++ ts) → Along Q announced (with_transaction announced s t) role.Value ts
behind_tx Q announced s t ts h =
    let u = with_transaction announced s t in
    closed Q announced u ts (pass_expr Q announced u t.value (Closes ∷ ts) (pass_stmt Q announced u t.body (expr_tokens t.value ++ (Closes ∷ ts)) (in_tx Q announced s t ts h).body))

pub pass_vars : (Q : Fact) (announced : FileForm) (ps : List Pair) (s : Seen) (ts : List Lexeme) → Along Q announced s role.Value (flat_map (pair_tokens (codes "var")) ps ++ ts) → Along Q announced (with_variables s ps) role.Value ts
pass_vars Q announced [] s ts h = h
pass_vars Q announced (p ∷ ps) s ts h =
    pass_vars Q announced ps (with_variable s p.name) ts (in_var Q announced s p (flat_map (pair_tokens (codes "var")) ps ++ ts) (onward Q announced s (pair_tokens (codes "var")) p ps ts h)).2

pub pass_tables : (Q : Fact) (announced : FileForm) (all : List Table) (s : Seen) (ts : List Lexeme) → Along Q announced s role.Value (flat_map table_tokens all ++ ts) → Along Q announced (with_tables s all) role.Value ts
pass_tables Q announced [] s ts h = h
pass_tables Q announced (t ∷ more) s ts h =
    pass_tables Q announced more (with_table s t) ts (in_table Q announced s t (flat_map table_tokens more ++ ts) (onward Q announced s table_tokens t more ts h)).rest

pub pass_always : (Q : Fact) (announced : FileForm) (all : List Always) (s : Seen) (ts : List Lexeme) → Along Q announced s role.Value (flat_map always_tokens all ++ ts) → Along Q announced (with_conditions s all) role.Value ts
pass_always Q announced [] s ts h = h
pass_always Q announced (a ∷ more) s ts h =
    pass_always Q announced more (with_condition s a.name) ts (behind_always Q announced s a (flat_map always_tokens more ++ ts) (onward Q announced s always_tokens a more ts h))

pub pass_txs : (Q : Fact) (announced : FileForm) (all : List Declaration) (s : Seen) (ts : List Lexeme) → Along Q announced s role.Value (flat_map (tx_tokens announced) all ++ ts)
    → Along Q announced (with_transactions announced s all) role.Value ts
pass_txs Q announced [] s ts h = h
pass_txs Q announced (t ∷ more) s ts h =
    pass_txs Q announced more (with_transaction announced s t) ts (behind_tx Q announced s t (flat_map (tx_tokens announced) more ++ ts) (onward Q announced s (tx_tokens announced) t more ts h))

pub pass_heading : (Q : Fact) (announced form : FileForm) (s : Seen) (ts : List Lexeme) → Along Q announced s role.Value (heading_tokens form ++ ts) → Along Q announced s role.Value ts
pass_heading Q announced One s ts h = h
pass_heading Q announced Two s ts h = h.1.1.1.1
pass_heading Q announced Three s ts h = h.1.1.1.1

-- from each part of a file on, its tokens
abbrev from_runs : File → List Lexeme
from_runs file = flat_map run_tokens file.runs

abbrev from_txs : File → List Lexeme
from_txs file = flat_map (tx_tokens file.form) file.txs ++ from_runs file

abbrev from_always : File → List Lexeme
from_always file = flat_map always_tokens file.always ++ from_txs file

abbrev from_tables : File → List Lexeme
from_tables file = flat_map table_tokens file.tables ++ from_always file

-- what is known at each
abbrev pub at_tables : File → Seen
at_tables file = with_variables (seen_in file.form []) file.vars

abbrev pub at_always : File → Seen
at_always file = with_tables (at_tables file) file.tables

abbrev pub at_txs : File → Seen
at_txs file = with_conditions (at_always file) file.always

abbrev pub at_runs : File → Seen
at_runs file = with_transactions file.form (at_txs file) file.txs

pub record InFile (Q : Fact) (file : File) : Type 0 where
  pub vars : Along Q file.form (seen_in file.form []) role.Value (flat_map (pair_tokens (codes "var")) file.vars ++ from_tables file)
  pub tables : Along Q file.form (at_tables file) role.Value (from_tables file)
  pub always : Along Q file.form (at_always file) role.Value (from_always file)
  pub txs : Along Q file.form (at_txs file) role.Value (from_txs file)
  pub runs : Along Q file.form (at_runs file) role.Value (from_runs file ++ [])

pub in_file : (Q : Fact) (file : File) → Along Q file.form (seen_in file.form []) role.Value (file_tokens file) → InFile Q file
in_file Q file h =
    let vars = pass_heading Q file.form file.form (seen_in file.form []) _ h in
    let tables = pass_vars Q file.form file.vars (seen_in file.form []) _ vars in
    let always = pass_tables Q file.form file.tables (at_tables file) _ tables in
    let txs = pass_always Q file.form file.always (at_always file) _ always in
    let runs = pass_txs Q file.form file.txs (at_txs file) (from_runs file) txs in
    record {
      vars = vars;
      tables = tables;
      always = always;
      txs = txs;
      runs = subst (λ (us : List Lexeme). Along Q file.form (at_runs file) role.Value us) (sym (append-nil (from_runs file))) runs;
    }
