-- Where no name of a file is wrong by the tokens before it, the names of the file are known.
use Rattle.std.proofs.Common.{◌≡◌, ℕ, zero, suc, ◌+◌, ◌-◌, ◌<◌, ◌||◌, Bool, true, false, not, cond, eqb, List, [], ◌∷◌, ◌++◌, length, map, take, Option, Some, None, refl, sym, ap, subst, ◌∙◌, append_assoc, length-append, arith, ◌⊎◌, inl, inr}
use Rattle.std.specs.Prelude.{ℤ, codes, nat_lt, bytes_eq, position, slice_index_or}
use Rattle.std.specs.List.{flat_map, list_any, list_all, position_or_len, AllByRecursion}
use Rattle.std.specs.Option.{option_map}
use Rattle.std.proofs.lemmas.Bool.{lt-ltb, eqb-true, eq-eqb}
use Rattle.std.proofs.lemmas.List.{append-nil}
use Rattle.std.proofs.lemmas.List.Folds.{list_any-append}
use Rattle.txn_programs.specs.Names.{are_new}
use Rattle.text_words.specs.Tokens.{Lexeme, Closes, tokens}
use Rattle.text_words.specs.Tokens as token
use Rattle.text_grammar.specs.Tree.{Expr, Cond, Stmt, Stmts, NoStmts, MoreStmts, Pair, Table, Always, Declaration, Run, File, SpellsTree, IsOfForm, operator_word, comparison_word, connective_word, expr_tokens, cond_tokens, stmt_tokens, stmts_tokens, pair_tokens, table_tokens, always_tokens, tx_tokens, run_tokens, file_tokens}
use Rattle.text_grammar.specs.Tree as f
use Rattle.text_grammar.specs.Scope.{Scope, inside, standing}
use Rattle.text_grammar.specs.Resolving.{is_known, expr_known, cond_known, stmt_known, stmts_known, always_known, tx_known, has_parameters, run_known, uses_known, pair_name, table_name, condition_name, tx_name}
use Rattle.text_grammar.specs.declared.file.FileForm.{FileForm}
use Rattle.text_grammar.specs.declared.file.FileForm.TheVariants.{One, Two, Three}
use Rattle.text_words.specs.declared.fault.ReadFault.TheVariants.{Name}
use Rattle.text_file_reader.specs.Faults.{names_known, IsFirst}
use Rattle.text_file_reader.proofs.Back.{both_true}
use Rattle.explain_files.specs.declared.names.NameFault.{NameFault}
use Rattle.explain_files.specs.declared.wanted.Role.TheVariants as role
use Rattle.explain_files.specs.Roles.{form_of}
use Rattle.explain_files.specs.Judging.{AllTokens, IsRight, with_last, target_fault, cells_fault, value_fault, integers_in, given_in, run_fault, name_fault_for, name_fault_at}
use Rattle.explain_files.proofs.Announced.{form_spelled}
use Rattle.explain_files.proofs.Passed.{Seen, seen_in, Fact, Along, all_along, within, within_two, within_three, operator_role, comparison_role, connective_role, in_at, in_all, pass_expr, pass_cond, pass_stmt, in_set, in_put, in_repeat, in_more, with_variable, with_table, with_condition, with_name, with_parameter, with_parameters, listed, with_transaction, OfParameters, onward, in_var, in_table, in_always, in_tx, with_tasks, in_run, with_variables, with_tables, with_conditions, with_transactions, behind_always, behind_tx, InFile, at_tables, at_always, at_txs, at_runs, in_file}

-- no name is wrong
abbrev NameRight : Fact
NameRight s used t behind = name_fault_for s.names used t behind ≡ None

pub bool_cases : (b : Bool) → (b ≡ true) ⊎ (b ≡ false)
bool_cases true = inl refl
bool_cases false = inr refl

pub said_unless : {F : Type 0} (b : Bool) (said : F) → cond b None (Some said) ≡ None → b ≡ true
said_unless true said h = refl
said_unless false said h = absurd cc

said_if : {F : Type 0} (b : Bool) (said : F) → cond b (Some said) None ≡ None → not b ≡ true
said_if true said h = absurd cc
said_if false said h = refl

place_below : (p : List ℕ → Bool) (xs : List (List ℕ)) → list_any p xs ≡ true → position_or_len p xs < length xs
place_below p [] h = absurd cc
place_below p (x ∷ xs) h =
    elim (bool_cases (p x)) [
      | inl e ↦ rw e (omega arith)
      | inr e ↦ let g = rw e at h in let below : position_or_len p xs < length xs = place_below p xs g in rw e (omega arith)
    ]

among_known : (names : List (List ℕ)) (text : List ℕ) → list_any (bytes_eq text) names ≡ true → is_known names text ≡ true
among_known names text h =
    let p = bytes_eq text in
    let below : nat_lt (position_or_len p names) (length names) ≡ true = lt-ltb (position_or_len p names) (length names) (place_below p names h) in
    rw below refl

pub either_true : (a b : Bool) → (a || b) ≡ true → (a ≡ true) ⊎ (b ≡ true)
either_true true b h = inl refl
either_true false b h = inr h

pub either_is : (a b : Bool) → (a ≡ true) ⊎ (b ≡ true) → (a || b) ≡ true
either_is true b h = refl
either_is false b (inl e) = absurd cc
either_is false b (inr e) = e

-- the names that are known in a standing condition, and in an expression
abbrev outer : Seen → Scope
outer s = standing s.names.variables s.names.tables []

abbrev scope : Seen → Scope
scope s = inside (outer s) s.names.parameters

-- a name in an expression, one that is set, and one of a table
value_known : (s : Seen) (text : List ℕ) → value_fault s.names text ≡ None → expr_known (scope s) (f.Name text) ≡ true
value_known s text h =
    let there = said_unless (list_any (bytes_eq text) s.names.parameters || list_any (bytes_eq text) s.names.variables) _ h in
    elim (either_true (list_any (bytes_eq text) s.names.parameters) (list_any (bytes_eq text) s.names.variables) there) [
      | inl e ↦ either_is (is_known s.names.parameters text) (is_known s.names.variables text) (inl (among_known s.names.parameters text e))
      | inr e ↦ either_is (is_known s.names.parameters text) (is_known s.names.variables text) (inr (among_known s.names.variables text e))
    ]

unset : (a b : Bool) (x y : NameFault) → cond a None (cond b (Some x) (Some y)) ≡ None → a ≡ true
unset true b x y h = refl
unset false true x y h = absurd cc
unset false false x y h = absurd cc

target_known : (s : Seen) (text : List ℕ) → target_fault s.names text ≡ None → is_known s.names.variables text ≡ true
target_known s text h = among_known s.names.variables text (unset (list_any (bytes_eq text) s.names.variables) (list_any (bytes_eq text) s.names.parameters) _ _ h)

cells_known : (s : Seen) (text : List ℕ) → cells_fault s.names text ≡ None → is_known s.names.tables text ≡ true
cells_known s text h = among_known s.names.tables text (said_unless (list_any (bytes_eq text) s.names.tables) _ h)

-- ---- expressions, conditions and statements

expr_named : (announced : FileForm) (s : Seen) (e : Expr) (ts : List Lexeme) → Along NameRight announced s role.Value (expr_tokens e ++ ts) → expr_known (scope s) e ≡ true
expr_named announced s (f.Int value) ts h = refl
expr_named announced s (f.Name text) ts h = value_known s text h.0
expr_named announced s (f.At table index) ts h =
    let w = in_at NameRight announced s table index ts h in
    both_true _ _ (cells_known s table w.0) (expr_named announced s index (Closes ∷ ts) w.1)
expr_named announced s (f.OfAll op table) ts h = cells_known s table (in_all NameRight announced s op table ts h).0
expr_named announced s (f.Binary op left right) ts h =
    let w = within_two NameRight announced s (operator_word op) (expr_tokens left) (expr_tokens right) ts (operator_role op) h in
    both_true _ _ (expr_named announced s left (expr_tokens right ++ (Closes ∷ ts)) w) (expr_named announced s right (Closes ∷ ts) (pass_expr NameRight announced s left (expr_tokens right ++ (Closes ∷ ts)) w))

cond_named : (announced : FileForm) (s : Seen) (e : Cond) (ts : List Lexeme) → Along NameRight announced s role.Value (cond_tokens e ++ ts) → cond_known (scope s) e ≡ true
cond_named announced s (f.Compare op left right) ts h =
    let w = within_two NameRight announced s (comparison_word op) (expr_tokens left) (expr_tokens right) ts (comparison_role op) h in
    both_true _ _ (expr_named announced s left (expr_tokens right ++ (Closes ∷ ts)) w) (expr_named announced s right (Closes ∷ ts) (pass_expr NameRight announced s left (expr_tokens right ++ (Closes ∷ ts)) w))
cond_named announced s (f.Not inner) ts h = cond_named announced s inner (Closes ∷ ts) (within NameRight announced s (codes "not") role.Value (cond_tokens inner) ts refl h)
cond_named announced s (f.Connect op left right) ts h =
    let w = within_two NameRight announced s (connective_word op) (cond_tokens left) (cond_tokens right) ts (connective_role op) h in
    both_true _ _ (cond_named announced s left (cond_tokens right ++ (Closes ∷ ts)) w) (cond_named announced s right (Closes ∷ ts) (pass_cond NameRight announced s left (cond_tokens right ++ (Closes ∷ ts)) w))

mutual
  stmt_named : (announced : FileForm) (s : Seen) (e : Stmt) (ts : List Lexeme) → Along NameRight announced s role.Value (stmt_tokens e ++ ts) → stmt_known (scope s) e ≡ true
  stmt_named announced s f.Skip ts h = refl
  stmt_named announced s (f.Set text value) ts h =
      let w = in_set NameRight announced s text value ts h in
      both_true _ _ (target_known s text w.0) (expr_named announced s value (Closes ∷ ts) w.1)
  stmt_named announced s (f.Put table index value) ts h =
      let w = in_put NameRight announced s table index value ts h in
      let v = pass_expr NameRight announced s index (expr_tokens value ++ (Closes ∷ ts)) w.1 in
      both_true _ _ (cells_known s table w.0) (both_true _ _ (expr_named announced s index (expr_tokens value ++ (Closes ∷ ts)) w.1) (expr_named announced s value (Closes ∷ ts) v))
  stmt_named announced s (f.Seq parts) ts h = stmts_named announced s parts (Closes ∷ ts) (within NameRight announced s (codes "seq") role.Value (stmts_tokens parts) ts refl h)
  stmt_named announced s (f.If test first second) ts h =
      let w = within_three NameRight announced s (codes "if") (cond_tokens test) (stmt_tokens first) (stmt_tokens second) ts refl h in
      let a = pass_cond NameRight announced s test (stmt_tokens first ++ (stmt_tokens second ++ (Closes ∷ ts))) w in
      let b = pass_stmt NameRight announced s first (stmt_tokens second ++ (Closes ∷ ts)) a in
      both_true _ _ (cond_named announced s test (stmt_tokens first ++ (stmt_tokens second ++ (Closes ∷ ts))) w) (both_true _ _ (stmt_named announced s first (stmt_tokens second ++ (Closes ∷ ts)) a) (stmt_named announced s second (Closes ∷ ts) b))
  stmt_named announced s (f.Repeat count body) ts h = stmt_named announced s body (Closes ∷ ts) (in_repeat NameRight announced s body ts count h).1
  stmt_named announced s f.Retry ts h = refl
  stmt_named announced s (f.OrElse first second) ts h =
      let w = within_two NameRight announced s (codes "orelse") (stmt_tokens first) (stmt_tokens second) ts refl h in
      both_true _ _ (stmt_named announced s first (stmt_tokens second ++ (Closes ∷ ts)) w) (stmt_named announced s second (Closes ∷ ts) (pass_stmt NameRight announced s first (stmt_tokens second ++ (Closes ∷ ts)) w))
  stmt_named announced s (f.Throw value) ts h = expr_named announced s value (Closes ∷ ts) (within NameRight announced s (codes "throw") role.Value (expr_tokens value) ts refl h)
  stmt_named announced s (f.Call text given) ts h = refl

  stmts_named : (announced : FileForm) (s : Seen) (e : Stmts) (ts : List Lexeme) → Along NameRight announced s role.Value (stmts_tokens e ++ ts) → stmts_known (scope s) e ≡ true
  stmts_named announced s NoStmts ts h = refl
  stmts_named announced s (MoreStmts first others) ts h =
      let w = in_more NameRight announced s first others ts h in
      both_true _ _ (stmt_named announced s first (stmts_tokens others ++ ts) w) (stmts_named announced s others ts (pass_stmt NameRight announced s first (stmts_tokens others ++ ts) w))

-- ---- rows of declarations

vars_named : (announced : FileForm) (ps : List Pair) (s : Seen) (ts : List Lexeme) → Along NameRight announced s role.Value (flat_map (pair_tokens (codes "var")) ps ++ ts) → are_new s.names.variables (map pair_name ps) ≡ true
vars_named announced [] s ts h = refl
vars_named announced (p ∷ ps) s ts h =
    let w = in_var NameRight announced s p (flat_map (pair_tokens (codes "var")) ps ++ ts) (onward NameRight announced s (pair_tokens (codes "var")) p ps ts h) in
    both_true _ _ (said_if (list_any (bytes_eq p.name) s.names.variables) _ w.0) (vars_named announced ps (with_variable s p.name) ts w.2)

tables_named : (announced : FileForm) (all : List Table) (s : Seen) (ts : List Lexeme) → Along NameRight announced s role.Value (flat_map table_tokens all ++ ts) → are_new s.names.tables (map table_name all) ≡ true
tables_named announced [] s ts h = refl
tables_named announced (t ∷ all) s ts h =
    let w = in_table NameRight announced s t (flat_map table_tokens all ++ ts) (onward NameRight announced s table_tokens t all ts h) in
    both_true _ _ (said_if (list_any (bytes_eq t.name) s.names.tables) _ w.named) (tables_named announced all (with_table s t) ts w.rest)

-- there are no parameters yet
always_named : (announced : FileForm) (all : List Always) (s : Seen) (ts : List Lexeme) → s.names.parameters ≡ [] → Along NameRight announced s role.Value (flat_map always_tokens all ++ ts)
    → (are_new s.names.conditions (map condition_name all) ≡ true) × (list_all (always_known (outer s)) all ≡ true)
always_named announced [] s ts none h = (refl, refl)
always_named announced (a ∷ all) s ts none h =
    let rest = flat_map always_tokens all ++ ts in
    let o = onward NameRight announced s always_tokens a all ts h in
    let w = in_always NameRight announced s a rest o in
    let more = always_named announced all (with_condition s a.name) ts none (behind_always NameRight announced s a rest o) in
    let condition : cond_known (scope s) a.condition ≡ true = cond_named announced (with_condition s a.name) a.condition (Closes ∷ rest) w.1 in
    let known : cond_known (outer s) a.condition ≡ true = sym (ap (λ (ps : List (List ℕ)). cond_known (inside (outer s) ps) a.condition) none) ∙ condition in
    (both_true _ _ (said_if (list_any (bytes_eq a.name) s.names.conditions) _ w.0) more.0, both_true _ _ known more.1)

-- ---- the parameters of a transaction

neither : (a b : Bool) (x y : NameFault) → cond a (Some x) (cond b (Some y) None) ≡ None → (a ≡ false) × (b ≡ false)
neither true b x y h = absurd cc
neither false true x y h = absurd cc
neither false false x y h = (refl, refl)

parameters_new : (ps : List (List ℕ)) (s : Seen) (ts : List Lexeme) → OfParameters NameRight s ps ts → are_new (s.names.variables ++ s.names.parameters) ps ≡ true
parameters_new [] s ts h = refl
parameters_new (p ∷ ps) s ts h =
    let apart = neither (list_any (bytes_eq p) s.names.variables) (list_any (bytes_eq p) s.names.parameters) _ _ h.0 in
    let fresh : list_any (bytes_eq p) (s.names.variables ++ s.names.parameters) ≡ false = rw (list_any-append (bytes_eq p) s.names.variables s.names.parameters, apart.0, apart.1) refl in
    let more : are_new (s.names.variables ++ (s.names.parameters ++ p ∷ [])) ps ≡ true = parameters_new ps (with_parameter s p) ts h.1 in
    both_true _ _ (ap not fresh) (ap (λ (ns : List (List ℕ)). are_new ns ps) (append_assoc s.names.variables s.names.parameters (p ∷ [])) ∙ more)

-- they are those that are seen
parameters_seen : (ps : List (List ℕ)) (s : Seen) → (with_parameters s ps).names.parameters ≡ s.names.parameters ++ ps
parameters_seen [] s = sym (append-nil s.names.parameters)
parameters_seen (p ∷ ps) s = parameters_seen ps (with_parameter s p) ∙ append_assoc s.names.parameters (p ∷ []) ps

pub kept_by_parameters : {X : Type 0} (look : Seen → X) → ((s : Seen) (text : List ℕ) → look (with_parameter s text) ≡ look s) → (ps : List (List ℕ)) (s : Seen) → look (with_parameters s ps) ≡ look s
kept_by_parameters look h [] s = refl
kept_by_parameters look h (p ∷ ps) s = kept_by_parameters look h ps (with_parameter s p) ∙ h s p

front_is : (earlier more : List ℕ) → take (length earlier) (earlier ++ more) ≡ earlier
front_is [] [] = refl
front_is [] (m ∷ more) = refl
front_is (n ∷ earlier) more = ap (λ (ns : List ℕ). n ∷ ns) (front_is earlier more)

last_is : (earlier : List ℕ) (n m : ℕ) → with_last (earlier ++ n ∷ []) m ≡ earlier ++ m ∷ []
last_is earlier n m =
    let before : length (earlier ++ n ∷ []) - 1 ≡ length earlier = omega (arith, length-append earlier (n ∷ [])) in
    let front : take (length earlier) (earlier ++ n ∷ []) ≡ earlier = front_is earlier (n ∷ []) in
    ap (λ (k : ℕ). take k (earlier ++ n ∷ []) ++ m ∷ []) before ∙ ap (λ (ns : List ℕ). ns ++ m ∷ []) front

-- and so many
parameters_counted : (ps : List (List ℕ)) (s : Seen) (earlier : List ℕ) → s.names.arities ≡ earlier ++ length s.names.parameters ∷ []
    → (with_parameters s ps).names.arities ≡ earlier ++ length (s.names.parameters ++ ps) ∷ []
parameters_counted [] s earlier e = e ∙ ap (λ (ns : List (List ℕ)). earlier ++ length ns ∷ []) (sym (append-nil s.names.parameters))
parameters_counted (p ∷ ps) s earlier e =
    let n = length s.names.parameters in
    let one_more : n + 1 ≡ length (s.names.parameters ++ p ∷ []) = omega (arith, length-append s.names.parameters (p ∷ [])) in
    let last : with_last s.names.arities (n + 1) ≡ earlier ++ length (s.names.parameters ++ p ∷ []) ∷ [] =
    ap (λ (ns : List ℕ). with_last ns (n + 1)) e ∙ last_is earlier n (n + 1) ∙ ap (λ (k : ℕ). earlier ++ k ∷ []) one_more in
    parameters_counted ps (with_parameter s p) earlier last ∙ ap (λ (ns : List (List ℕ)). earlier ++ length ns ∷ []) (append_assoc s.names.parameters (p ∷ []) ps)

-- ---- transactions

-- each has the parameters that its form lets it have
abbrev pub IsListed : FileForm → Declaration → Type 0
IsListed announced t = listed announced t.parameters ≡ t.parameters

pub tx_outer : (announced : FileForm) (s : Seen) (t : Declaration) → outer (with_transaction announced s t) ≡ outer s
tx_outer announced s t = kept_by_parameters outer (λ u text. refl) (listed announced t.parameters) (with_name s t.name)

tx_transactions : (announced : FileForm) (s : Seen) (t : Declaration) → (with_transaction announced s t).names.transactions ≡ s.names.transactions ++ t.name ∷ []
tx_transactions announced s t = kept_by_parameters (λ (u : Seen). u.names.transactions) (λ u text. refl) (listed announced t.parameters) (with_name s t.name)

tx_scope : (announced : FileForm) (s : Seen) (t : Declaration) → IsListed announced t → scope (with_transaction announced s t) ≡ inside (outer s) t.parameters
tx_scope announced s t e =
    ap (λ (sc : Scope). inside sc (with_transaction announced s t).names.parameters) (tx_outer announced s t)
    ∙ ap (λ (ps : List (List ℕ)). inside (outer s) ps) (parameters_seen (listed announced t.parameters) (with_name s t.name) ∙ e)

txs_named : (announced : FileForm) (all : List Declaration) (s : Seen) (ts : List Lexeme) → AllByRecursion (IsListed announced) all → Along NameRight announced s role.Value (flat_map (tx_tokens announced) all ++ ts)
    → (are_new s.names.transactions (map tx_name all) ≡ true) × (list_all (tx_known (outer s)) all ≡ true)
txs_named announced [] s ts lists h = (refl, refl)
txs_named announced (t ∷ all) s ts lists h =
    let rest = flat_map (tx_tokens announced) all ++ ts in
    let o = onward NameRight announced s (tx_tokens announced) t all ts h in
    let w = in_tx NameRight announced s t rest o in
    let u = with_transaction announced s t in
    let more = txs_named announced all u ts lists.1 (behind_tx NameRight announced s t rest o) in
    let body : stmt_known (scope u) t.body ≡ true = stmt_named announced u t.body (expr_tokens t.value ++ (Closes ∷ rest)) w.body in
    let value : expr_known (scope u) t.value ≡ true = expr_named announced u t.value (Closes ∷ rest) (pass_stmt NameRight announced u t.body (expr_tokens t.value ++ (Closes ∷ rest)) w.body) in
    let in_scope = tx_scope announced s t lists.0 in
    let new : are_new (s.names.variables ++ []) (listed announced t.parameters) ≡ true = parameters_new (listed announced t.parameters) (with_name s t.name) _ w.parameters in
    let own : are_new s.names.variables t.parameters ≡ true = sym (ap (λ (vs : List (List ℕ)). are_new vs t.parameters) (append-nil s.names.variables)) ∙ sym (ap (are_new (s.names.variables ++ [])) lists.0) ∙ new in
    let known = both_true _ _ own (both_true _ _ (sym (ap (λ (sc : Scope). stmt_known sc t.body) in_scope) ∙ body) (sym (ap (λ (sc : Scope). expr_known sc t.value) in_scope) ∙ value)) in (
      both_true _ _ (said_if (list_any (bytes_eq t.name) s.names.transactions) _ w.named) (sym (ap (λ (ns : List (List ℕ)). are_new ns (map tx_name all)) (tx_transactions announced s t)) ∙ more.0),
      both_true _ _ known (sym (ap (λ (sc : Scope). list_all (tx_known sc) all) (tx_outer announced s t)) ∙ more.1),
    )

-- ---- runs

pub integers_are : (given : List ℤ) (ts : List Lexeme) → integers_in (map token.Int given ++ (Closes ∷ ts)) ≡ length given
integers_are [] ts = refl
integers_are (a ∷ given) ts = let e : integers_in (map token.Int given ++ (Closes ∷ ts)) ≡ length given = integers_are given ts in omega arith

given_are : (count : ℤ) (given : List ℤ) (ts : List Lexeme) → given_in (token.Int count ∷ (map token.Int given ++ (Closes ∷ ts))) ≡ length given
given_are count given ts = let e : integers_in (map token.Int given ++ (Closes ∷ ts)) ≡ length given = integers_are given ts in omega arith

abbrev pub tx_arity : Declaration → ℕ
tx_arity t = length t.parameters

arity_there : (txs : List Declaration) (place : ℕ) → slice_index_or (map tx_arity txs) place 0 ≡ length (slice_index_or (map (λ (t : Declaration). t.parameters) txs) place [])
arity_there [] place = refl
arity_there (t ∷ txs) zero = refl
arity_there (t ∷ txs) (suc place) = arity_there txs place

run_is : (txs : List Declaration) (n : ℕ) (o : Option ℕ) → run_fault (option_map (λ place. slice_index_or (map tx_arity txs) place 0) o) n ≡ None → has_parameters txs n o ≡ true
run_is txs n None h = absurd cc
run_is txs n (Some place) h =
    let same : n ≡ slice_index_or (map tx_arity txs) place 0 = eqb-true n (slice_index_or (map tx_arity txs) place 0) (said_unless (eqb n (slice_index_or (map tx_arity txs) place 0)) _ h) in
    eq-eqb (length (slice_index_or (map (λ (t : Declaration). t.parameters) txs) place [])) n (sym (arity_there txs place) ∙ sym same)

runs_named : (announced : FileForm) (txs : List Declaration) (rs : List Run) (s : Seen) (ts : List Lexeme) → s.names.transactions ≡ map tx_name txs → s.names.arities ≡ map tx_arity txs
    → Along NameRight announced s role.Value (flat_map run_tokens rs ++ ts) → list_all (run_known txs) rs ≡ true
runs_named announced txs [] s ts names arities h = refl
runs_named announced txs (r ∷ rs) s ts names arities h =
    let rest = flat_map run_tokens rs ++ ts in
    let w = in_run NameRight announced s r rest (onward NameRight announced s run_tokens r rs ts h) in
    let right : run_fault (option_map (λ place. slice_index_or (map tx_arity txs) place 0) (position (bytes_eq r.name) (map tx_name txs))) (length r.arguments) ≡ None =
    sym (
    ap (λ (ns : List ℕ). run_fault (option_map (λ place. slice_index_or ns place 0) (position (bytes_eq r.name) s.names.transactions)) (given_in (token.Int r.count ∷ (map token.Int r.arguments ++ (Closes ∷ rest))))) arities
    ∙ ap (λ (ns : List (List ℕ)). run_fault (option_map (λ place. slice_index_or (map tx_arity txs) place 0) (position (bytes_eq r.name) ns)) (given_in (token.Int r.count ∷ (map token.Int r.arguments ++ (Closes ∷ rest))))) names
    ∙ ap (run_fault (option_map (λ place. slice_index_or (map tx_arity txs) place 0) (position (bytes_eq r.name) (map tx_name txs)))) (given_are r.count r.arguments rest)
    ) ∙ w.named in
    both_true _ _ (run_is txs (length r.arguments) (position (bytes_eq r.name) (map tx_name txs)) right) (runs_named announced txs rs (with_tasks s r) ts names arities w.rest)

-- ---- the names that are declared before each part

pub variables_of : (ps : List Pair) (s : Seen) → (with_variables s ps).names.variables ≡ s.names.variables ++ map pair_name ps
variables_of [] s = sym (append-nil s.names.variables)
variables_of (p ∷ ps) s = variables_of ps (with_variable s p.name) ∙ append_assoc s.names.variables (p.name ∷ []) (map pair_name ps)

pub kept_by_variables : {X : Type 0} (look : Seen → X) → ((s : Seen) (text : List ℕ) → look (with_variable s text) ≡ look s) → (ps : List Pair) (s : Seen) → look (with_variables s ps) ≡ look s
kept_by_variables look h [] s = refl
kept_by_variables look h (p ∷ ps) s = kept_by_variables look h ps (with_variable s p.name) ∙ h s p.name

tables_of : (all : List Table) (s : Seen) → (with_tables s all).names.tables ≡ s.names.tables ++ map table_name all
tables_of [] s = sym (append-nil s.names.tables)
tables_of (t ∷ all) s = tables_of all (with_table s t) ∙ append_assoc s.names.tables (t.name ∷ []) (map table_name all)

pub kept_by_tables : {X : Type 0} (look : Seen → X) → ((s : Seen) (t : Table) → look (with_table s t) ≡ look s) → (all : List Table) (s : Seen) → look (with_tables s all) ≡ look s
kept_by_tables look h [] s = refl
kept_by_tables look h (t ∷ all) s = kept_by_tables look h all (with_table s t) ∙ h s t

pub kept_by_conditions : {X : Type 0} (look : Seen → X) → ((s : Seen) (text : List ℕ) → look (with_condition s text) ≡ look s) → (all : List Always) (s : Seen) → look (with_conditions s all) ≡ look s
kept_by_conditions look h [] s = refl
kept_by_conditions look h (a ∷ all) s = kept_by_conditions look h all (with_condition s a.name) ∙ h s a.name

pub kept_by_transactions : {X : Type 0} (look : Seen → X) → ((s : Seen) (text : List ℕ) → look (with_name s text) ≡ look s) → ((s : Seen) (text : List ℕ) → look (with_parameter s text) ≡ look s)
    → (announced : FileForm) (all : List Declaration) (s : Seen) → look (with_transactions announced s all) ≡ look s
kept_by_transactions look h k announced [] s = refl
kept_by_transactions look h k announced (t ∷ all) s =
    kept_by_transactions look h k announced all (with_transaction announced s t) ∙ kept_by_parameters look k (listed announced t.parameters) (with_name s t.name) ∙ h s t.name

transactions_of : (announced : FileForm) (all : List Declaration) (s : Seen) → (with_transactions announced s all).names.transactions ≡ s.names.transactions ++ map tx_name all
transactions_of announced [] s = sym (append-nil s.names.transactions)
transactions_of announced (t ∷ all) s =
    transactions_of announced all (with_transaction announced s t) ∙ ap (λ (ns : List (List ℕ)). ns ++ map tx_name all) (tx_transactions announced s t) ∙ append_assoc s.names.transactions (t.name ∷ []) (map tx_name all)

tx_arities : (announced : FileForm) (s : Seen) (t : Declaration) → IsListed announced t → (with_transaction announced s t).names.arities ≡ s.names.arities ++ tx_arity t ∷ []
tx_arities announced s t e = parameters_counted (listed announced t.parameters) (with_name s t.name) s.names.arities refl ∙ ap (λ (ns : List (List ℕ)). s.names.arities ++ length ns ∷ []) e

arities_of : (announced : FileForm) (all : List Declaration) (s : Seen) → AllByRecursion (IsListed announced) all → (with_transactions announced s all).names.arities ≡ s.names.arities ++ map tx_arity all
arities_of announced [] s lists = sym (append-nil s.names.arities)
arities_of announced (t ∷ all) s lists =
    arities_of announced all (with_transaction announced s t) lists.1 ∙ ap (λ (ns : List ℕ). ns ++ map tx_arity all) (tx_arities announced s t lists.0) ∙ append_assoc s.names.arities (tx_arity t ∷ []) (map tx_arity all)

-- ---- the file

pub all_listed : (file : File) → IsOfForm file.form file → AllByRecursion (IsListed file.form) file.txs
all_listed file h = by_form file.form file.txs h
  where
    none_listed : (txs : List Declaration) → AllByRecursion (λ (t : Declaration). t.parameters ≡ []) txs → (announced : FileForm) → ((names : List (List ℕ)) → names ≡ [] → listed announced names ≡ names) → AllByRecursion (IsListed announced) txs
    none_listed [] e announced same = tt
    none_listed (t ∷ txs) e announced same = (same t.parameters e.0, none_listed txs e.1 announced same)

    every : (txs : List Declaration) → AllByRecursion (IsListed Three) txs
    every [] = tt
    every (t ∷ txs) = (refl, every txs)

    by_form : (announced : FileForm) (txs : List Declaration) → IsOfForm announced file → AllByRecursion (IsListed announced) file.txs
    by_form One txs h = none_listed file.txs h.1.1 One (λ names e. sym e)
    by_form Two txs h = none_listed file.txs h.1 Two (λ names e. sym e)
    by_form Three txs h = every file.txs

-- what is seen before the conditions is nothing of theirs, and no transaction
record NoneYet (s : Seen) : Type 0 where
  parameters : s.names.parameters ≡ []
  conditions : s.names.conditions ≡ []
  transactions : s.names.transactions ≡ []
  arities : s.names.arities ≡ []

none_before : (file : File) → NoneYet (at_always file)
none_before file =
    let s0 = seen_in file.form [] in
    record {
      parameters = kept_by_tables (λ (s : Seen). s.names.parameters) (λ s t. refl) file.tables (at_tables file) ∙ kept_by_variables (λ (s : Seen). s.names.parameters) (λ s text. refl) file.vars s0;
      conditions = kept_by_tables (λ (s : Seen). s.names.conditions) (λ s t. refl) file.tables (at_tables file) ∙ kept_by_variables (λ (s : Seen). s.names.conditions) (λ s text. refl) file.vars s0;
      transactions = kept_by_tables (λ (s : Seen). s.names.transactions) (λ s t. refl) file.tables (at_tables file) ∙ kept_by_variables (λ (s : Seen). s.names.transactions) (λ s text. refl) file.vars s0;
      arities = kept_by_tables (λ (s : Seen). s.names.arities) (λ s t. refl) file.tables (at_tables file) ∙ kept_by_variables (λ (s : Seen). s.names.arities) (λ s text. refl) file.vars s0;
    }

-- the variables and the tables of the file are known there
outer_is : (file : File) → outer (at_always file) ≡ standing (map pair_name file.vars) (map table_name file.tables) []
outer_is file =
    let s0 = seen_in file.form [] in
    let none : (at_tables file).names.tables ≡ [] = kept_by_variables (λ (s : Seen). s.names.tables) (λ s text. refl) file.vars s0 in
    let variables : (at_always file).names.variables ≡ map pair_name file.vars = kept_by_tables (λ (s : Seen). s.names.variables) (λ s t. refl) file.tables (at_tables file) ∙ variables_of file.vars s0 in
    let tables : (at_always file).names.tables ≡ map table_name file.tables = tables_of file.tables (at_tables file) ∙ ap (λ (ns : List (List ℕ)). ns ++ map table_name file.tables) none in
    ap (λ (ns : List (List ℕ)). standing ns (at_always file).names.tables []) variables ∙ ap (λ (ns : List (List ℕ)). standing (map pair_name file.vars) ns []) tables

file_named : (file : File) → IsOfForm file.form file → InFile NameRight file → names_known file ≡ true
unfolding uses_known
file_named file formed h =
    let announced = file.form in
    let lists = all_listed file formed in
    let s0 = seen_in announced [] in
    let s1 = at_tables file in
    let s2 = at_always file in
    let s3 = at_txs file in
    let s4 = at_runs file in
    let sc : Scope = standing (map pair_name file.vars) (map table_name file.tables) [] in
    let none = none_before file in
    let vars = vars_named announced file.vars s0 _ h.vars in
    let tables = tables_named announced file.tables s1 _ h.tables in
    let always = always_named announced file.always s2 _ none.parameters h.always in
    let txs = txs_named announced file.txs s3 _ lists h.txs in
    let no_table : s1.names.tables ≡ [] = kept_by_variables (λ (s : Seen). s.names.tables) (λ s text. refl) file.vars s0 in
    let known2 : outer s2 ≡ sc = outer_is file in
    let known3 : outer s3 ≡ sc = kept_by_conditions outer (λ s text. refl) file.always s2 ∙ known2 in
    let none3 : s3.names.transactions ≡ [] = kept_by_conditions (λ (s : Seen). s.names.transactions) (λ s text. refl) file.always s2 ∙ none.transactions in
    let uncounted : s3.names.arities ≡ [] = kept_by_conditions (λ (s : Seen). s.names.arities) (λ s text. refl) file.always s2 ∙ none.arities in
    let named4 : s4.names.transactions ≡ map tx_name file.txs = transactions_of announced file.txs s3 ∙ ap (λ (ns : List (List ℕ)). ns ++ map tx_name file.txs) none3 in
    let counted4 : s4.names.arities ≡ map tx_arity file.txs = arities_of announced file.txs s3 lists ∙ ap (λ (ns : List ℕ). ns ++ map tx_arity file.txs) uncounted in
    let tables_new : are_new [] (map table_name file.tables) ≡ true = sym (ap (λ (ns : List (List ℕ)). are_new ns (map table_name file.tables)) no_table) ∙ tables in
    let conditions_new : are_new [] (map condition_name file.always) ≡ true = sym (ap (λ (ns : List (List ℕ)). are_new ns (map condition_name file.always)) none.conditions) ∙ always.0 in
    let txs_new : are_new [] (map tx_name file.txs) ≡ true = sym (ap (λ (ns : List (List ℕ)). are_new ns (map tx_name file.txs)) none3) ∙ txs.0 in
    let conditions_use : list_all (always_known sc) file.always ≡ true = sym (ap (λ (o : Scope). list_all (always_known o) file.always) known2) ∙ always.1 in
    let txs_use : list_all (tx_known sc) file.txs ≡ true = sym (ap (λ (o : Scope). list_all (tx_known o) file.txs) known3) ∙ txs.1 in
    let runs_use : list_all (run_known file.txs) file.runs ≡ true = runs_named announced file.txs file.runs s4 [] named4 counted4 h.runs in
    both_true _ _ vars (both_true _ _ tables_new (both_true _ _ conditions_new (both_true _ _ txs_new (both_true _ _ conditions_use (both_true _ _ txs_use runs_use)))))

pub some_name_is_wrong : (bytes : List ℕ) → IsFirst bytes Name → AllTokens (IsRight (name_fault_at (form_of (tokens bytes)))) bytes → ⊥
some_name_is_wrong bytes first all =
    let file = first.0 in
    let spelled : SpellsTree bytes file = first.1.0 in
    let right : AllTokens (IsRight (name_fault_at file.form)) bytes = subst (λ (announced : FileForm). AllTokens (IsRight (name_fault_at announced)) bytes) (form_spelled bytes file spelled) all in
    let known = file_named file spelled.formed (in_file NameRight file (all_along NameRight file.form bytes (file_tokens file) spelled.spelled right)) in
    let unknown = first.1.1 in
    absurd (let h : true ≡ false = sym known ∙ unknown in cc)
