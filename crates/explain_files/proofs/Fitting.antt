-- Where no name and no number of a file goes over a limit, and its names are known, it declares something that is within them, but for costs.
use Rattle.std.proofs.Common.{◌≡◌, ℕ, zero, suc, ◌+◌, ◌^◌, ◌<◌, ◌≤◌, replicate, eqb, Bool, true, false, cond, ◌&&◌, ◌||◌, List, [], ◌∷◌, ◌++◌, length, map, Option, Some, None, Result, Ok, Err, refl, sym, ap, subst, ◌∙◌, arith, inl, inr}
use Rattle.std.specs.Prelude.{ℤ, codes, nat_lt, nat_le, is_some, position, slice_index_or, bytes_eq}
use Rattle.std.specs.List.{flat_map, list_all, sum_by, AllByRecursion}
use Rattle.std.proofs.lemmas.Bool.{lt-ltb, le-leb, leb-true, leb-false, eqb-true, ne_eqb}
use Rattle.std.proofs.lemmas.List.{length-map}
use Rattle.std.proofs.lemmas.List.Sums.{sum_by-cons}
use Rattle.std.proofs.lemmas.List.Quantifiers.{position-Some}
use Rattle.txn_programs.specs.declared.arguments.Call.{Call}
use Rattle.txn_programs.specs.declared.ast.Span.{Span}
use Rattle.txn_programs.specs.Tree.{Expression, Condition, Statement, Statements, Transaction}
use Rattle.txn_programs.specs.Tree as t
use Rattle.txn_programs.specs.Listing.{Listing, cells, conditions, always_names, spans_from}
use Rattle.txn_programs.specs.Names.{are_new, are_distinct}
use Rattle.txn_programs.specs.Limits.{most_variables, most_conditions, most_transactions, most_parameters, most_tasks, most_tables, most_cells, longest_name, is_short, names_fit, table_fits, tables_fit, limits_hold}
use Rattle.text_words.specs.Tokens.{Lexeme, Closes}
use Rattle.text_words.specs.Tokens as token
use Rattle.text_words.specs.Answers.{◌>>=◌}
use Rattle.text_words.specs.Numbers.{number_of, count_of}
use Rattle.text_words.specs.declared.fault.ReadFault.{ReadFault}
use Rattle.text_grammar.specs.Tree.{Expr, Cond, Stmt, Stmts, NoStmts, MoreStmts, Pair, Table, Always, Declaration, Run, File, operator_word, comparison_word, connective_word, expr_tokens, cond_tokens, stmt_tokens, stmts_tokens, pair_tokens, table_tokens, always_tokens, tx_tokens, run_tokens, cond_formed, stmt_formed, stmts_formed, IsOfForm, IsTx, HasParts}
use Rattle.text_grammar.specs.Tree as f
use Rattle.text_grammar.specs.Scope.{Scope, standing, inside}
use Rattle.text_grammar.specs.declared.file.FileForm.{FileForm}
use Rattle.text_grammar.specs.Resolving.{is_known, expr_known, cond_known, stmt_known, stmts_known, always_known, tx_known, has_parameters, run_known, uses_known, placed, place_in, variable_in, parameter_in, span_at, table_in, named_in, binary, compare, connect, expression_in, condition_in, statement_in, statements_in, each, variable_of, numbers_in, table_of, spans_in, always_in, transaction_in, arguments_in, call_at, run_in, listing, converted, resolved, pair_name, table_name, condition_name, tx_name}
use Rattle.text_file_reader.specs.Faults.{names_known}
use Rattle.text_file_reader.proofs.Declared.{both, declared_again, resolved_is}
use Rattle.text_file_reader.proofs.Back.{both_true, Head, by_heads, IsKept, kept, converted_parts}
use Rattle.text_file_reader.proofs.Spans.{spans_again}
use Rattle.text_words.proofs.Steps.{bind_ok, ok_is, chosen}
use Rattle.explain_files.specs.declared.limits.LimitFault.{LimitFault}
use Rattle.explain_files.specs.declared.limits.LimitFault.TheVariants as over
use Rattle.explain_files.specs.declared.wanted.NumberUse.TheVariants as number
use Rattle.explain_files.specs.declared.wanted.Role.TheVariants as role
use Rattle.explain_files.specs.Limiting.{too_long, too_many, value_fault, turns_fault, is_given, length_fault, tasks_fault, counted, limit_fault}
use Rattle.explain_files.specs.Judging.{integers_in}
use Rattle.explain_files.specs.Declarations.{CostsHold}
use Rattle.explain_files.proofs.Passed.{Seen, seen_in, Fact, Along, within, within_two, within_three, operator_role, comparison_role, connective_role, in_at, pass_expr, pass_cond, pass_stmt, in_set, in_put, in_repeat, in_more, with_variable, with_table, with_condition, with_name, with_parameter, listed, with_transaction, OfParameters, onward, in_var, in_table, in_always, in_tx, with_tasks, OfNumbers, in_run, behind_always, behind_tx, InFile, at_tables, at_always, at_txs, at_runs}
use Rattle.explain_files.proofs.Named.{said_unless, integers_are, IsListed, all_listed, kept_by_parameters, kept_by_variables, kept_by_tables, kept_by_conditions, kept_by_transactions}

-- nothing goes over a limit
abbrev pub LimitRight : Fact
LimitRight s used t behind = limit_fault s.many used t behind ≡ None

-- a step that does not fail
abbrev Good : {A : Type 0} → Result A ReadFault → Type 0
Good r = (x : _) × (r ≡ Ok x)

good_bind : {A B : Type 0} (r : Result A ReadFault) (g : A → Result B ReadFault) → Good r → ((x : A) → Good (g x)) → Good (r >>= g)
good_bind (Ok x) g p q = q x
good_bind (Err e) g p q = absurd (let h = p.1 in cc)

value_good : (r : Result ℤ ReadFault) → value_fault r ≡ None → Good r
value_good (Ok n) h = (n, refl)
value_good (Err e) h = absurd cc

turns_good : (r : Result ℕ ReadFault) → turns_fault r ≡ None → Good r
turns_good (Ok n) h = (n, refl)
turns_good (Err e) h = absurd cc

-- a run that is within the limits, behind so many tasks
record RunFits (many : ℕ) (r : Result ℕ ReadFault) : Type 0 where
  tasks : ℕ
  is : r ≡ Ok tasks
  one : nat_le tasks most_tasks ≡ true
  all : many + tasks ≤ most_tasks

run_fits : (many : ℕ) (r : Result ℕ ReadFault) → tasks_fault many r ≡ None → RunFits many r
run_fits many (Err e) h = absurd cc
run_fits many (Ok n) h =
    elim (chosen (nat_le n most_tasks) _ (Some over.Tasks) None h) [
      | inl p ↦ record { tasks = n; is = refl; one = p.0; all = leb-true (many + n) most_tasks (said_unless (nat_le (many + n) most_tasks) over.AllTasks p.1) }
      | inr p ↦ absurd (let q = p.1 in cc)
    ]

-- a name that may be declared
record NameFits (many most : ℕ) (text : List ℕ) : Type 0 where
  few : many < most
  short : nat_le (length text) longest_name ≡ true

name_fits : (many most : ℕ) (fault : LimitFault) (text : List ℕ) → too_many many most fault text ≡ None → NameFits many most text
name_fits many most fault text h =
    elim (chosen (nat_le most many) (Some fault) (too_long text) None h) [
      | inl p ↦ absurd (let q = p.1 in cc)
      | inr p ↦ record { few = leb-false most many p.0; short = said_unless (nat_le (length text) longest_name) over.Name p.1 }
    ]

placed_good : (o : Option ℕ) → is_some o ≡ true → ((i : ℕ) → o ≡ Some i → i < 2 ^ 32) → Good (placed o)
placed_good None h k = absurd cc
placed_good (Some i) h k = let small : nat_lt i (2 ^ 32) ≡ true = lt-ltb i (2 ^ 32) (k i refl) in (i, rw small refl)

place_good : (names : List (List ℕ)) (text : List ℕ) → length names ≤ 256 → is_known names text ≡ true → Good (place_in names text)
unfolding place_in
place_good names text few h =
    placed_good (position (bytes_eq text) names) h (λ i e. let below : i < length names = (position-Some (bytes_eq text) names i [] e).0 in omega arith)

variable_good : (names : List (List ℕ)) (text : List ℕ) → length names ≤ 256 → is_known names text ≡ true → Good (variable_in names text)
unfolding variable_in
variable_good names text few h = good_bind (place_in names text) _ (place_good names text few h) (λ place. (record { 0 = place }, refl))

-- the names have places that an id has room for
record HasPlaces (sc : Scope) : Type 0 where
  variables : length sc.variables ≤ 256
  parameters : length sc.parameters ≤ 256

-- the cells of a table of the file
span_good : (spans : List Span) (o : Option ℕ) → is_some o ≡ true → Good (span_at spans o)
span_good spans None h = absurd cc
span_good spans (Some place) h = (slice_index_or spans place (record { first = 0; length = 0 }), refl)

table_good : (sc : Scope) (text : List ℕ) → is_known sc.tables text ≡ true → Good (table_in sc text)
unfolding table_in
table_good sc text h = span_good sc.spans (position (bytes_eq text) sc.tables) h

parameter_good : (names : List (List ℕ)) (text : List ℕ) → length names ≤ 256 → is_known names text ≡ true → Good (parameter_in names text)
unfolding parameter_in
parameter_good names text few h = good_bind (place_in names text) _ (place_good names text few h) (λ place. (record { 0 = place }, refl))

named_by : (sc : Scope) (text : List ℕ) (b : Bool) → HasPlaces sc → is_known sc.parameters text ≡ b → (b || is_known sc.variables text) ≡ true
    → Good (cond b (parameter_in sc.parameters text >>= λ p. Ok (t.Param p)) (variable_in sc.variables text >>= λ x. Ok (t.Var x)))
named_by sc text true few e k = good_bind (parameter_in sc.parameters text) _ (parameter_good sc.parameters text few.parameters e) (λ p. (t.Param p, refl))
named_by sc text false few e k = good_bind (variable_in sc.variables text) _ (variable_good sc.variables text few.variables k) (λ x. (t.Var x, refl))

-- the same names, with these cells of the tables
abbrev with_spans : Scope → List Span → Scope
with_spans sc spans = record { variables = sc.variables; tables = sc.tables; spans = spans; parameters = sc.parameters }

named_good : (sc : Scope) (spans : List Span) (text : List ℕ) → HasPlaces sc → (is_known sc.parameters text || is_known sc.variables text) ≡ true → Good (named_in (with_spans sc spans) text)
named_good sc spans text few k = named_by sc text (is_known sc.parameters text) few refl k

-- ---- expressions, conditions and statements

expr_good : (sc : Scope) (spans : List Span) → HasPlaces sc → (announced : FileForm) (s : Seen) (e : Expr) (ts : List Lexeme) → expr_known sc e ≡ true → Along LimitRight announced s role.Value (expr_tokens e ++ ts) → Good (expression_in (with_spans sc spans) e)
expr_good sc spans few announced s (f.Int value) ts k h = good_bind (number_of value) _ (value_good (number_of value) h.0) (λ n. (t.Int n, refl))
expr_good sc spans few announced s (f.Name text) ts k h = named_good sc spans text few k
expr_good sc spans few announced s (f.At table index) ts k h =
    let b = both (is_known sc.tables table) (expr_known sc index) k in
    good_bind (table_in (with_spans sc spans) table) _ (table_good (with_spans sc spans) table b.0)
    (λ span. good_bind (expression_in (with_spans sc spans) index) _ (expr_good sc spans few announced s index (Closes ∷ ts) b.1 (in_at LimitRight announced s table index ts h).1) (λ x. (t.Cell span x, refl)))
expr_good sc spans few announced s (f.OfAll op table) ts k h = good_bind (table_in (with_spans sc spans) table) _ (table_good (with_spans sc spans) table k) (λ span. (t.OfAll op span, refl))
expr_good sc spans few announced s (f.Binary op left right) ts k h =
    let w = within_two LimitRight announced s (operator_word op) (expr_tokens left) (expr_tokens right) ts (operator_role op) h in
    let b = both (expr_known sc left) (expr_known sc right) k in
    good_bind (expression_in (with_spans sc spans) left) _ (expr_good sc spans few announced s left (expr_tokens right ++ (Closes ∷ ts)) b.0 w)
    (λ x. good_bind (expression_in (with_spans sc spans) right) _ (expr_good sc spans few announced s right (Closes ∷ ts) b.1 (pass_expr LimitRight announced s left (expr_tokens right ++ (Closes ∷ ts)) w)) (λ y. (binary op x y, refl)))

cond_good : (sc : Scope) (spans : List Span) → HasPlaces sc → (announced : FileForm) (s : Seen) (e : Cond) (ts : List Lexeme) → cond_known sc e ≡ true → Along LimitRight announced s role.Value (cond_tokens e ++ ts) → Good (condition_in (with_spans sc spans) e)
cond_good sc spans few announced s (f.Compare op left right) ts k h =
    let w = within_two LimitRight announced s (comparison_word op) (expr_tokens left) (expr_tokens right) ts (comparison_role op) h in
    let b = both (expr_known sc left) (expr_known sc right) k in
    good_bind (expression_in (with_spans sc spans) left) _ (expr_good sc spans few announced s left (expr_tokens right ++ (Closes ∷ ts)) b.0 w)
    (λ x. good_bind (expression_in (with_spans sc spans) right) _ (expr_good sc spans few announced s right (Closes ∷ ts) b.1 (pass_expr LimitRight announced s left (expr_tokens right ++ (Closes ∷ ts)) w)) (λ y. (compare op x y, refl)))
cond_good sc spans few announced s (f.Not inner) ts k h =
    good_bind (condition_in (with_spans sc spans) inner) _ (cond_good sc spans few announced s inner (Closes ∷ ts) k (within LimitRight announced s (codes "not") role.Value (cond_tokens inner) ts refl h)) (λ c. (t.Not c, refl))
cond_good sc spans few announced s (f.Connect op left right) ts k h =
    let w = within_two LimitRight announced s (connective_word op) (cond_tokens left) (cond_tokens right) ts (connective_role op) h in
    let b = both (cond_known sc left) (cond_known sc right) k in
    good_bind (condition_in (with_spans sc spans) left) _ (cond_good sc spans few announced s left (cond_tokens right ++ (Closes ∷ ts)) b.0 w)
    (λ x. good_bind (condition_in (with_spans sc spans) right) _ (cond_good sc spans few announced s right (Closes ∷ ts) b.1 (pass_cond LimitRight announced s left (cond_tokens right ++ (Closes ∷ ts)) w)) (λ y. (connect op x y, refl)))

mutual
  stmt_good : (sc : Scope) (spans : List Span) → HasPlaces sc → (announced : FileForm) (s : Seen) (e : Stmt) (ts : List Lexeme) → stmt_formed announced e ≡ true → stmt_known sc e ≡ true → Along LimitRight announced s role.Value (stmt_tokens e ++ ts) → Good (statement_in (with_spans sc spans) e)
  stmt_good sc spans few announced s f.Skip ts g k h = (t.Skip, refl)
  stmt_good sc spans few announced s (f.Set text value) ts g k h =
      let w = in_set LimitRight announced s text value ts h in
      let b = both (is_known sc.variables text) (expr_known sc value) k in
      good_bind (variable_in sc.variables text) _ (variable_good sc.variables text few.variables b.0) (λ x. good_bind (expression_in (with_spans sc spans) value) _ (expr_good sc spans few announced s value (Closes ∷ ts) b.1 w.1) (λ y. (t.Set x y, refl)))
  stmt_good sc spans few announced s (f.Put table index value) ts g k h =
      let w = (in_put LimitRight announced s table index value ts h).1 in
      let b = both (is_known sc.tables table) (expr_known sc index && expr_known sc value) k in
      let b1 = both (expr_known sc index) (expr_known sc value) b.1 in
      good_bind (table_in (with_spans sc spans) table) _ (table_good (with_spans sc spans) table b.0)
      (λ span. good_bind (expression_in (with_spans sc spans) index) _ (expr_good sc spans few announced s index (expr_tokens value ++ (Closes ∷ ts)) b1.0 w)
      (λ x. good_bind (expression_in (with_spans sc spans) value) _ (expr_good sc spans few announced s value (Closes ∷ ts) b1.1 (pass_expr LimitRight announced s index (expr_tokens value ++ (Closes ∷ ts)) w)) (λ y. (t.Put span x y, refl))))
  stmt_good sc spans few announced s (f.Seq parts) ts g k h =
      good_bind (statements_in (with_spans sc spans) parts) _ (stmts_good sc spans few announced s parts (Closes ∷ ts) g k (within LimitRight announced s (codes "seq") role.Value (stmts_tokens parts) ts refl h)) (λ ps. (t.Seq ps, refl))
  stmt_good sc spans few announced s (f.If test first second) ts g k h =
      let g1 = both (stmt_formed announced first) (stmt_formed announced second) (both (cond_formed announced test) _ g).1 in
      let w = within_three LimitRight announced s (codes "if") (cond_tokens test) (stmt_tokens first) (stmt_tokens second) ts refl h in
      let a = pass_cond LimitRight announced s test (stmt_tokens first ++ (stmt_tokens second ++ (Closes ∷ ts))) w in
      let d = pass_stmt LimitRight announced s first (stmt_tokens second ++ (Closes ∷ ts)) a in
      let b = both (cond_known sc test) _ k in
      let b1 = both (stmt_known sc first) (stmt_known sc second) b.1 in
      good_bind (condition_in (with_spans sc spans) test) _ (cond_good sc spans few announced s test (stmt_tokens first ++ (stmt_tokens second ++ (Closes ∷ ts))) b.0 w)
      (λ c. good_bind (statement_in (with_spans sc spans) first) _ (stmt_good sc spans few announced s first (stmt_tokens second ++ (Closes ∷ ts)) g1.0 b1.0 a)
      (λ x. good_bind (statement_in (with_spans sc spans) second) _ (stmt_good sc spans few announced s second (Closes ∷ ts) g1.1 b1.1 d) (λ y. (t.If c x y, refl))))
  stmt_good sc spans few announced s (f.Repeat count body) ts g k h =
      let w = in_repeat LimitRight announced s body ts count h in
      good_bind (count_of count) _ (turns_good (count_of count) w.0) (λ n. good_bind (statement_in (with_spans sc spans) body) _ (stmt_good sc spans few announced s body (Closes ∷ ts) g k w.1) (λ x. (t.Repeat n x, refl)))
  stmt_good sc spans few announced s f.Retry ts g k h = (t.Retry, refl)
  stmt_good sc spans few announced s (f.OrElse first second) ts g k h =
      let g1 = both (stmt_formed announced first) (stmt_formed announced second) g in
      let w = within_two LimitRight announced s (codes "orelse") (stmt_tokens first) (stmt_tokens second) ts refl h in
      let b = both (stmt_known sc first) (stmt_known sc second) k in
      good_bind (statement_in (with_spans sc spans) first) _ (stmt_good sc spans few announced s first (stmt_tokens second ++ (Closes ∷ ts)) g1.0 b.0 w)
      (λ x. good_bind (statement_in (with_spans sc spans) second) _ (stmt_good sc spans few announced s second (Closes ∷ ts) g1.1 b.1 (pass_stmt LimitRight announced s first (stmt_tokens second ++ (Closes ∷ ts)) w)) (λ y. (t.OrElse x y, refl)))
  stmt_good sc spans few announced s (f.Call text given) ts g k h = absurd (let none : false ≡ true = g in cc)
  stmt_good sc spans few announced s (f.Throw value) ts g k h =
      good_bind (expression_in (with_spans sc spans) value) _ (expr_good sc spans few announced s value (Closes ∷ ts) k (within LimitRight announced s (codes "throw") role.Value (expr_tokens value) ts refl h)) (λ x. (t.Throw x, refl))

  stmts_good : (sc : Scope) (spans : List Span) → HasPlaces sc → (announced : FileForm) (s : Seen) (e : Stmts) (ts : List Lexeme) → stmts_formed announced e ≡ true → stmts_known sc e ≡ true → Along LimitRight announced s role.Value (stmts_tokens e ++ ts) → Good (statements_in (with_spans sc spans) e)
  stmts_good sc spans few announced s NoStmts ts g k h = (t.End, refl)
  stmts_good sc spans few announced s (MoreStmts first others) ts g k h =
      let g1 = both (stmt_formed announced first) (stmts_formed announced others) g in
      let w = in_more LimitRight announced s first others ts h in
      let b = both (stmt_known sc first) (stmts_known sc others) k in
      good_bind (statement_in (with_spans sc spans) first) _ (stmt_good sc spans few announced s first (stmts_tokens others ++ ts) g1.0 b.0 w)
      (λ x. good_bind (statements_in (with_spans sc spans) others) _ (stmts_good sc spans few announced s others ts g1.1 b.1 (pass_stmt LimitRight announced s first (stmts_tokens others ++ ts) w)) (λ y. (t.More x y, refl)))

-- ---- rows of declarations

each_good : {A B : Type 0} (one : A → Result B ReadFault) (x : A) (xs : List A) → Good (one x) → Good (each one xs) → Good (each one (x ∷ xs))
each_good one x xs p q = good_bind (one x) _ p (λ y. good_bind (each one xs) _ q (λ ys. (y ∷ ys, refl)))

record VarsFit (many : ℕ) (ps : List Pair) : Type 0 where
  few : many + length ps ≤ most_variables
  short : list_all is_short (map pair_name ps) ≡ true
  good : Good (each variable_of ps)

vars_fit : (announced : FileForm) (ps : List Pair) (s : Seen) (ts : List Lexeme) → s.many.variables ≤ most_variables → Along LimitRight announced s role.Value (flat_map (pair_tokens (codes "var")) ps ++ ts) → VarsFit s.many.variables ps
vars_fit announced [] s ts m h = record { few = omega arith; short = refl; good = ([], refl) }
vars_fit announced (p ∷ ps) s ts m h =
    let w = in_var LimitRight announced s p (flat_map (pair_tokens (codes "var")) ps ++ ts) (onward LimitRight announced s (pair_tokens (codes "var")) p ps ts h) in
    let one = name_fits s.many.variables most_variables over.Variables p.name w.0 in
    let more = vars_fit announced ps (with_variable s p.name) ts (let few : s.many.variables < most_variables = one.few in omega arith) w.2 in
    record {
      few = let few : s.many.variables + 1 + length ps ≤ most_variables = more.few in omega arith;
      short = both_true _ _ one.short more.short;
      good = each_good variable_of p ps (good_bind (number_of p.value) _ (value_good (number_of p.value) w.1) (λ n. ((p.name, n), refl))) more.good;
    }

-- numbers in a row
values_good : (given : List ℤ) (s : Seen) (ts : List Lexeme) → OfNumbers LimitRight s number.Cell given ts → Good (each number_of given)
values_good [] s ts h = ([], refl)
values_good (a ∷ given) s ts h = each_good number_of a given (value_good (number_of a) h.0) (values_good given s ts h.1)

given_good : (given : List ℤ) (s : Seen) (ts : List Lexeme) → OfNumbers LimitRight s number.Argument given ts → Good (each number_of given)
given_good [] s ts h = ([], refl)
given_good (a ∷ given) s ts h = each_good number_of a given (value_good (number_of a) h.0) (given_good given s ts h.1)

-- a table that is within the limits, behind so many cells
record LengthFits (many : ℕ) (r : Result ℕ ReadFault) (values : ℕ) : Type 0 where
  length : ℕ
  is : r ≡ Ok length
  some : nat_lt 0 length ≡ true
  given : is_given length values ≡ true
  all : many + length ≤ most_cells

length_fits : (many : ℕ) (r : Result ℕ ReadFault) (values : ℕ) → length_fault many r values ≡ None → LengthFits many r values
length_fits many (Err e) values h = absurd cc
length_fits many (Ok n) values h =
    elim (chosen (nat_lt 0 n && nat_le n most_cells) _ (Some over.Length) None h) [
      | inl p ↦ elim (chosen (is_given n values) _ (Some over.Values) None p.1) [
        | inl q ↦ record { length = n; is = refl; some = (both (nat_lt 0 n) (nat_le n most_cells) p.0).0; given = q.0; all = leb-true (many + n) most_cells (said_unless (nat_le (many + n) most_cells) over.AllCells q.1) }
        | inr q ↦ absurd (let g = q.1 in cc)
      ]
      | inr p ↦ absurd (let g = p.1 in cc)
    ]

each_many : {A B : Type 0} (one : A → Result B ReadFault) (xs : List A) (ys : List B) → each one xs ≡ Ok ys → length ys ≡ length xs
each_many one [] ys h = sym (ap length (ok_is [] ys h))
each_many one (x ∷ xs) ys h =
    let a = bind_ok (one x) _ ys h in
    let b = bind_ok (each one xs) _ ys a.2 in
    sym (ap length (ok_is (a.0 ∷ b.0) ys b.2)) ∙ ap (λ (n : ℕ). suc n) (each_many one xs b.0 b.1)

good_then : {A B : Type 0} (r : Result A ReadFault) (g : A → Result B ReadFault) (x : A) → r ≡ Ok x → Good (g x) → Good (r >>= g)
good_then (Ok y) g x e q = subst (λ z. Good (g z)) (sym (ok_is y x e)) q
good_then (Err d) g x e q = absurd cc

-- one value for all cells, or one for each
numbers_good : (n : ℕ) (first : ℤ) (others : List ℤ) → is_given n (length (first ∷ others)) ≡ true → Good (number_of first) → Good (each number_of (first ∷ others)) → Good (numbers_in n first others)
numbers_good n first [] g one all = good_bind (number_of first) _ one (λ v. (replicate n v, refl))
numbers_good n first (second ∷ others) g one all =
    let some : eqb (length (first ∷ second ∷ others)) 1 ≡ false = ne_eqb (length (first ∷ second ∷ others)) 1 (λ e. absurd (omega (arith, e))) in
    let right : eqb (length (first ∷ second ∷ others)) n ≡ true = rw some at g in
    let as_many : eqb (length all.0) n ≡ true = ap (λ (m : ℕ). eqb m n) (each_many number_of (first ∷ second ∷ others) all.0 all.1) ∙ right in
    good_then (each number_of (first ∷ second ∷ others)) _ all.0 all.1 (all.0, rw as_many refl)

table_is : (t : Table) (n : ℕ) (vs : List ℤ) → count_of t.count ≡ Ok n → numbers_in n t.first t.others ≡ Ok vs → table_of t ≡ Ok ((t.name, n), vs)
table_is t n vs a b = rw (a, b) refl

each_is : {A B : Type 0} (one : A → Result B ReadFault) (x : A) (xs : List A) (y : B) (ys : List B) → one x ≡ Ok y → each one xs ≡ Ok ys → each one (x ∷ xs) ≡ Ok (y ∷ ys)
each_is one x xs y ys a b = rw (a, b) refl

abbrev Made : Type 0
Made = (List ℕ × ℕ) × List ℤ

abbrev cells_in_all : List (List ℕ × ℕ) → ℕ
cells_in_all ts = sum_by (λ t. t.1) ts

record TablesFit (many cells : ℕ) (all : List Table) : Type 0 where
  few : many + length all ≤ most_tables
  tables : List Made
  are : each table_of all ≡ Ok tables
  fit : list_all table_fits (map (λ (t : Made). t.0) tables) ≡ true
  within_all : cells + cells_in_all (map (λ (t : Made). t.0) tables) ≤ most_cells

rows_fit : (announced : FileForm) (all : List Table) (s : Seen) (ts : List Lexeme) → s.many.tables ≤ most_tables → s.many.cells ≤ most_cells
    → Along LimitRight announced s role.Value (flat_map table_tokens all ++ ts) → TablesFit s.many.tables s.many.cells all
rows_fit announced [] s ts m n h = record { few = omega arith; tables = []; are = refl; fit = refl; within_all = omega arith }
rows_fit announced (t ∷ all) s ts m n h =
    let rest = flat_map table_tokens all ++ ts in
    let w = in_table LimitRight announced s t rest (onward LimitRight announced s table_tokens t all ts h) in
    let one = name_fits s.many.tables most_tables over.Tables t.name w.named in
    let behind : integers_in (token.Int t.first ∷ (map token.Int t.others ++ (Closes ∷ rest))) ≡ length (t.first ∷ t.others) = integers_are (t.first ∷ t.others) rest in
    let fits = length_fits s.many.cells (count_of t.count) (length (t.first ∷ t.others)) (sym (ap (length_fault s.many.cells (count_of t.count)) behind) ∙ w.counted) in
    let values = numbers_good fits.length t.first t.others fits.given (value_good (number_of t.first) w.values.0) (values_good (t.first ∷ t.others) (with_table s t) _ w.values) in
    let counts : counted (count_of t.count) ≡ fits.length = ap counted fits.is in
    let le : s.many.cells + fits.length ≤ most_cells = fits.all in
    let more = rows_fit announced all (with_table s t) ts (let few : s.many.tables < most_tables = one.few in omega arith) (omega arith) w.rest in
    let those : s.many.cells + counted (count_of t.count) + cells_in_all (map (λ (u : Made). u.0) more.tables) ≤ most_cells = more.within_all in
    let made : Made = ((t.name, fits.length), values.0) in
    let total : cells_in_all (map (λ (u : Made). u.0) (made ∷ more.tables)) ≡ fits.length + cells_in_all (map (λ (u : Made). u.0) more.tables) =
    sum_by-cons (λ (u : List ℕ × ℕ). u.1) made.0 (map (λ (u : Made). u.0) more.tables) in
    record {
      few = let le : s.many.tables + 1 + length all ≤ most_tables = more.few in omega arith;
      tables = made ∷ more.tables;
      are = each_is table_of t all made more.tables (table_is t fits.length values.0 fits.is values.1) more.are;
      fit = both_true _ _ (both_true _ _ one.short fits.some) more.fit;
      within_all = omega arith;
    }

record AlwaysFit (sc : Scope) (many : ℕ) (all : List Always) : Type 0 where
  few : many + length all ≤ most_conditions
  short : list_all is_short (map condition_name all) ≡ true
  good : Good (each (always_in sc) all)

always_fit : (announced : FileForm) (sc : Scope) (spans : List Span) → HasPlaces sc → (all : List Always) (s : Seen) (ts : List Lexeme) → s.many.conditions ≤ most_conditions → list_all (always_known sc) all ≡ true
    → Along LimitRight announced s role.Value (flat_map always_tokens all ++ ts) → AlwaysFit (with_spans sc spans) s.many.conditions all
always_fit announced sc spans few [] s ts m k h = record { few = omega arith; short = refl; good = ([], refl) }
always_fit announced sc spans few (a ∷ all) s ts m k h =
    let rest = flat_map always_tokens all ++ ts in
    let o = onward LimitRight announced s always_tokens a all ts h in
    let w = in_always LimitRight announced s a rest o in
    let b = both (always_known sc a) (list_all (always_known sc) all) k in
    let one = name_fits s.many.conditions most_conditions over.Conditions a.name w.0 in
    let more = always_fit announced sc spans few all (with_condition s a.name) ts (let lt : s.many.conditions < most_conditions = one.few in omega arith) b.1 (behind_always LimitRight announced s a rest o) in
    record {
      few = let le : s.many.conditions + 1 + length all ≤ most_conditions = more.few in omega arith;
      short = both_true _ _ one.short more.short;
      good = each_good (always_in (with_spans sc spans)) a all (good_bind (condition_in (with_spans sc spans) a.condition) _ (cond_good sc spans few announced (with_condition s a.name) a.condition (Closes ∷ rest) b.0 w.1) (λ c. ((a.name, c), refl))) more.good;
    }

-- the parameters of a transaction
record ParametersFit (many : ℕ) (ps : List (List ℕ)) : Type 0 where
  few : many + length ps ≤ most_parameters
  short : list_all is_short ps ≡ true

parameters_fit : (ps : List (List ℕ)) (s : Seen) (ts : List Lexeme) → s.many.parameters ≤ most_parameters → OfParameters LimitRight s ps ts → ParametersFit s.many.parameters ps
parameters_fit [] s ts m h = record { few = omega arith; short = refl }
parameters_fit (p ∷ ps) s ts m h =
    let one = name_fits s.many.parameters most_parameters over.Parameters p h.0 in
    let more = parameters_fit ps (with_parameter s p) ts (let lt : s.many.parameters < most_parameters = one.few in omega arith) h.1 in
    record {
      few = let le : s.many.parameters + 1 + length ps ≤ most_parameters = more.few in omega arith;
      short = both_true _ _ one.short more.short;
    }

-- a transaction has few parameters
abbrev few_of : Declaration → Bool
few_of d = nat_le (length d.parameters) most_parameters

record TxsFit (sc : Scope) (many : ℕ) (all : List Declaration) : Type 0 where
  few : many + length all ≤ most_transactions
  transactions : List Transaction
  are : each (transaction_in sc) all ≡ Ok transactions
  fit : list_all names_fit transactions ≡ true
  parameters : list_all few_of all ≡ true

tx_is : (sc : Scope) (d : Declaration) (x : Statement) (y : Expression) → statement_in (inside sc d.parameters) d.body ≡ Ok x → expression_in (inside sc d.parameters) d.value ≡ Ok y
    → transaction_in sc d ≡ Ok (record { name = d.name; parameters = d.parameters; body = x; result = y })
tx_is sc d x y a b = rw (a, b) refl

txs_fit : (announced : FileForm) (outer : Scope) (spans : List Span) → length outer.variables ≤ 256 → (all : List Declaration) (s : Seen) (ts : List Lexeme) → s.many.transactions ≤ most_transactions
    → AllByRecursion (IsListed announced) all → AllByRecursion (IsTx announced) all → list_all (tx_known outer) all ≡ true → Along LimitRight announced s role.Value (flat_map (tx_tokens announced) all ++ ts) → TxsFit (with_spans outer spans) s.many.transactions all
txs_fit announced outer spans few [] s ts m lists formed k h = record { few = omega arith; transactions = []; are = refl; fit = refl; parameters = refl }
txs_fit announced outer spans few (d ∷ all) s ts m lists formed k h =
    let rest = flat_map (tx_tokens announced) all ++ ts in
    let o = onward LimitRight announced s (tx_tokens announced) d all ts h in
    let w = in_tx LimitRight announced s d rest o in
    let u = with_transaction announced s d in
    let sc = inside outer d.parameters in
    let b = both (tx_known outer d) (list_all (tx_known outer) all) k in
    let b0 = both (are_new outer.variables d.parameters) (stmt_known sc d.body && expr_known sc d.value) b.0 in
    let b1 = both (stmt_known sc d.body) (expr_known sc d.value) b0.1 in
    let one = name_fits s.many.transactions most_transactions over.Transactions d.name w.named in
    let own : ParametersFit 0 (listed announced d.parameters) = parameters_fit (listed announced d.parameters) (with_name s d.name) _ (omega arith) w.parameters in
    let these : ParametersFit 0 d.parameters = subst (ParametersFit 0) lists.0 own in
    let at_most : length d.parameters ≤ most_parameters = let le : 0 + length d.parameters ≤ most_parameters = these.few in omega arith in
    let few_here : nat_le (length d.parameters) most_parameters ≡ true = le-leb (length d.parameters) most_parameters at_most in
    let places : HasPlaces sc = record { variables = few; parameters = omega arith } in
    let counted : u.many.transactions ≡ s.many.transactions + 1 = kept_by_parameters (λ (v : Seen). v.many.transactions) (λ v text. refl) (listed announced d.parameters) (with_name s d.name) in
    let more = txs_fit announced outer spans few all u ts (let lt : s.many.transactions < most_transactions = one.few in omega arith) lists.1 formed.1 b.1 (behind_tx LimitRight announced s d rest o) in
    let body = stmt_good sc spans places announced u d.body (expr_tokens d.value ++ (Closes ∷ rest)) formed.0.0.1 b1.0 w.body in
    let value = expr_good sc spans places announced u d.value (Closes ∷ rest) b1.1 (pass_stmt LimitRight announced u d.body (expr_tokens d.value ++ (Closes ∷ rest)) w.body) in
    let made : Transaction = record { name = d.name; parameters = d.parameters; body = body.0; result = value.0 } in
    record {
      few = let le : u.many.transactions + length all ≤ most_transactions = more.few in omega arith;
      transactions = made ∷ more.transactions;
      are = each_is (transaction_in (with_spans outer spans)) d all made more.transactions (tx_is (with_spans outer spans) d body.0 value.0 body.1 value.1) more.are;
      fit = both_true _ _ (both_true _ _ one.short (both_true _ _ few_here these.short)) more.fit;
      parameters = both_true _ _ few_here more.parameters;
    }

abbrev tasks_in_all : List (Call × ℕ) → ℕ
tasks_in_all runs = sum_by (λ run. run.1) runs

record RunsFit (names : List (List ℕ)) (many : ℕ) (rs : List Run) : Type 0 where
  runs : List (Call × ℕ)
  are : each (run_in names) rs ≡ Ok runs
  one : list_all (λ run. nat_le run.1 most_tasks) runs ≡ true
  all : many + tasks_in_all runs ≤ most_tasks

-- a run gives as many arguments as some transaction has parameters
has_place : (txs : List Declaration) (n : ℕ) (o : Option ℕ) → has_parameters txs n o ≡ true → is_some o ≡ true
has_place txs n None h = absurd cc
has_place txs n (Some place) h = refl

few_there : (txs : List Declaration) (place : ℕ) → list_all few_of txs ≡ true → length (slice_index_or (map (λ (t : Declaration). t.parameters) txs) place []) ≤ most_parameters
few_there [] place h = omega arith
few_there (d ∷ txs) zero h = leb-true (length d.parameters) most_parameters (both (few_of d) (list_all few_of txs) h).0
few_there (d ∷ txs) (suc place) h = few_there txs place (both (few_of d) (list_all few_of txs) h).1

few_given : (txs : List Declaration) (n : ℕ) (o : Option ℕ) → list_all few_of txs ≡ true → has_parameters txs n o ≡ true → nat_le n most_parameters ≡ true
few_given txs n None few h = absurd cc
few_given txs n (Some place) few h =
    let same : length (slice_index_or (map (λ (t : Declaration). t.parameters) txs) place []) ≡ n = eqb-true (length (slice_index_or (map (λ (t : Declaration). t.parameters) txs) place [])) n h in
    let le : length (slice_index_or (map (λ (t : Declaration). t.parameters) txs) place []) ≤ most_parameters = few_there txs place few in
    le-leb n most_parameters (omega arith)

arguments_good : (given : List ℤ) → nat_le (length given) most_parameters ≡ true → Good (each number_of given) → Good (arguments_in given)
arguments_good given few g = (g.0, rw few g.1)

run_is : (names : List (List ℕ)) (r : Run) (place n : ℕ) (given : List ℤ) → place_in names r.name ≡ Ok place → count_of r.count ≡ Ok n → arguments_in r.arguments ≡ Ok given → run_in names r ≡ Ok (call_at place given, n)
run_is names r place n given a b c = rw (a, b, c) refl

runs_fit : (announced : FileForm) (txs : List Declaration) → length (map tx_name txs) ≤ 256 → list_all few_of txs ≡ true → (rs : List Run) (s : Seen) (ts : List Lexeme) → s.many.tasks ≤ most_tasks → list_all (run_known txs) rs ≡ true
    → Along LimitRight announced s role.Value (flat_map run_tokens rs ++ ts) → RunsFit (map tx_name txs) s.many.tasks rs
runs_fit announced txs few parameters [] s ts m k h = record { runs = []; are = refl; one = refl; all = omega arith }
runs_fit announced txs few parameters (r ∷ rs) s ts m k h =
    let names = map tx_name txs in
    let w = in_run LimitRight announced s r (flat_map run_tokens rs ++ ts) (onward LimitRight announced s run_tokens r rs ts h) in
    let b = both (run_known txs r) (list_all (run_known txs) rs) k in
    let fits = run_fits s.many.tasks (count_of r.count) w.counted in
    let counts : counted (count_of r.count) ≡ fits.tasks = ap counted fits.is in
    let place = place_good names r.name few (has_place txs (length r.arguments) (position (bytes_eq r.name) names) b.0) in
    let given = arguments_good r.arguments (few_given txs (length r.arguments) (position (bytes_eq r.name) names) parameters b.0) (given_good r.arguments (with_tasks s r) _ w.given) in
    let le : s.many.tasks + fits.tasks ≤ most_tasks = fits.all in
    let more = runs_fit announced txs few parameters rs (with_tasks s r) ts (omega arith) b.1 w.rest in
    let all : s.many.tasks + counted (count_of r.count) + tasks_in_all more.runs ≤ most_tasks = more.all in
    let run : Call × ℕ = (call_at place.0 given.0, fits.tasks) in
    let total : tasks_in_all (run ∷ more.runs) ≡ fits.tasks + tasks_in_all more.runs = sum_by-cons (λ (q : Call × ℕ). q.1) run more.runs in
    record {
      runs = run ∷ more.runs;
      are = each_is (run_in names) r rs run more.runs (run_is names r place.0 fits.tasks given.0 place.1 fits.is given.1) more.are;
      one = both_true _ _ fits.one more.one;
      all = omega arith;
    }

-- ---- the file

-- a listing has the names of its file
pub names_of : (file : File) (l : Listing) → resolved file ≡ Ok l → IsKept file l
names_of file l is = kept file l (converted_parts file l (resolved_is file l is).is_converted)

pub names_of_txs : (file : File) (l : Listing) → IsKept file l → map (λ (x : Transaction). x.name) l.transactions ≡ map tx_name file.txs
names_of_txs file l of = by_heads (λ (h : Head). h.0) l.transactions file.txs of.heads

-- a listing of a file, within the limits but for its costs
pub record Fits (file : File) : Type 0 where
  pub listing : Listing
  pub is : resolved file ≡ Ok listing
  pub holds : CostsHold listing → limits_hold listing ≡ true

abbrev known_in : File → List Span → Scope
known_in file spans = standing (map pair_name file.vars) (map table_name file.tables) spans

resolved_to : (file : File) (vars : List (List ℕ × ℤ)) (tables : List Made) (spans : List Span) (always : List (List ℕ × Condition)) (txs : List Transaction) (runs : List (Call × ℕ)) → names_known file ≡ true
    → each variable_of file.vars ≡ Ok vars → each table_of file.tables ≡ Ok tables → spans_in (length (map pair_name file.vars)) (map (λ (t : Made). t.0) tables) ≡ Ok spans
    → each (always_in (known_in file spans)) file.always ≡ Ok always → each (transaction_in (known_in file spans)) file.txs ≡ Ok txs
    → each (run_in (map tx_name file.txs)) file.runs ≡ Ok runs → resolved file ≡ Ok (listing vars tables always txs runs)
unfolding resolved converted
resolved_to file vars tables spans always txs runs k a t p b c d =
    let k0 = both _ _ k in
    let k1 = both _ _ k0.1 in
    let k2 = both _ _ k1.1 in
    let k3 = both _ _ k2.1 in
    rw (
      declared_again [] (map pair_name file.vars) k0.0,
      declared_again [] (map table_name file.tables) k1.0,
      declared_again [] (map condition_name file.always) k2.0,
      declared_again [] (map tx_name file.txs) k3.0,
      k3.1,
      a,
      t,
      p,
      b,
      c,
      d,
    ) refl

limits_are : (l : Listing) → length l.names ≤ most_variables → list_all is_short l.names ≡ true → tables_fit l ≡ true → length l.always ≤ most_conditions → list_all is_short (always_names l) ≡ true
    → length l.transactions ≤ most_transactions → list_all names_fit l.transactions ≡ true → list_all (λ run. nat_le run.1 most_tasks) l.runs ≡ true → tasks_in_all l.runs ≤ most_tasks
    → CostsHold l → limits_hold l ≡ true
unfolding limits_hold
limits_are l variables names tables conditions always transactions txs one all costs =
    let p1 = le-leb (length l.names) most_variables variables in
    let p2 = le-leb (length l.always) most_conditions conditions in
    let p3 = le-leb (length l.transactions) most_transactions transactions in
    let p4 = le-leb (tasks_in_all l.runs) most_tasks all in
    both_true _ _ p1 (both_true _ _ names (both_true _ _ tables (both_true _ _ p2 (both_true _ _ always (both_true _ _ costs.0 (both_true _ _ p3 (both_true _ _ txs (both_true _ _ costs.1 (both_true _ _ one p4)))))))))

uses_parts : (sc : Scope) (file : File) → uses_known sc file ≡ true
    → (list_all (always_known sc) file.always ≡ true) × (list_all (tx_known sc) file.txs ≡ true) × (list_all (run_known file.txs) file.runs ≡ true)
unfolding uses_known
uses_parts sc file h =
    let a = both (list_all (always_known sc) file.always) (list_all (tx_known sc) file.txs && list_all (run_known file.txs) file.runs) h in
    let b = both (list_all (tx_known sc) file.txs) (list_all (run_known file.txs) file.runs) a.1 in
    (a.0, b.0, b.1)

used_in : (file : File) → names_known file ≡ true → uses_known (known_in file []) file ≡ true
used_in file k =
    let names = are_distinct (map pair_name file.vars) in
    let tables = are_distinct (map table_name file.tables) in
    let conditions_named = are_distinct (map condition_name file.always) in
    let txs = are_distinct (map tx_name file.txs) in
    let uses = uses_known (known_in file []) file in
    (both txs uses (both conditions_named (txs && uses) (both tables (conditions_named && (txs && uses)) (both names (tables && (conditions_named && (txs && uses))) k).1).1).1).1

-- nothing is counted before the first of each kind
record Uncounted (file : File) : Type 0 where
  tables : (at_tables file).many.tables ≡ 0
  cells : (at_tables file).many.cells ≡ 0
  conditions : (at_always file).many.conditions ≡ 0
  transactions : (at_txs file).many.transactions ≡ 0
  tasks : (at_runs file).many.tasks ≡ 0

uncounted : (file : File) → Uncounted file
uncounted file =
    let s0 = seen_in file.form [] in
    let s1 = at_tables file in
    let s2 = at_always file in
    let s3 = at_txs file in
    record {
      tables = kept_by_variables (λ (s : Seen). s.many.tables) (λ s text. refl) file.vars s0;
      cells = kept_by_variables (λ (s : Seen). s.many.cells) (λ s text. refl) file.vars s0;
      conditions = kept_by_tables (λ (s : Seen). s.many.conditions) (λ s t. refl) file.tables s1 ∙ kept_by_variables (λ (s : Seen). s.many.conditions) (λ s text. refl) file.vars s0;
      transactions = kept_by_conditions (λ (s : Seen). s.many.transactions) (λ s text. refl) file.always s2
          ∙ kept_by_tables (λ (s : Seen). s.many.transactions) (λ s t. refl) file.tables s1 ∙ kept_by_variables (λ (s : Seen). s.many.transactions) (λ s text. refl) file.vars s0;
      tasks = kept_by_transactions (λ (s : Seen). s.many.tasks) (λ s text. refl) (λ s text. refl) file.form file.txs s3 ∙ kept_by_conditions (λ (s : Seen). s.many.tasks) (λ s text. refl) file.always s2
          ∙ kept_by_tables (λ (s : Seen). s.many.tasks) (λ s t. refl) file.tables s1 ∙ kept_by_variables (λ (s : Seen). s.many.tasks) (λ s text. refl) file.vars s0;
    }

pub file_fits : (file : File) → IsOfForm file.form file → HasParts file → names_known file ≡ true → InFile LimitRight file → Fits file
file_fits file formed parts k h =
    let announced = file.form in
    let lists = all_listed file formed in
    let s0 = seen_in announced [] in
    let s1 = at_tables file in
    let s2 = at_always file in
    let s3 = at_txs file in
    let s4 = at_runs file in
    let names = map pair_name file.vars in
    let txs = map tx_name file.txs in
    let sc = known_in file [] in
    let used = uses_parts sc file (used_in file k) in
    let none = uncounted file in
    let none_tables : s1.many.tables ≡ 0 = none.tables in
    let none_cells : s1.many.cells ≡ 0 = none.cells in
    let none_always : s2.many.conditions ≡ 0 = none.conditions in
    let none_txs : s3.many.transactions ≡ 0 = none.transactions in
    let none_tasks : s4.many.tasks ≡ 0 = none.tasks in
    let vars_are = vars_fit announced file.vars s0 _ (omega arith) h.vars in
    let few_vars : length file.vars ≤ 256 = let le : 0 + length file.vars ≤ most_variables = vars_are.few in omega arith in
    let few : length names ≤ 256 = let e : length names ≡ length file.vars = length-map file.vars pair_name in omega arith in
    let tables_are = rows_fit announced file.tables s1 _ (omega arith) (omega arith) h.tables in
    let declared : List (List ℕ × ℕ) = map (λ (t : Made). t.0) tables_are.tables in
    let few_cells : cells_in_all declared ≤ most_cells = let le : s1.many.cells + cells_in_all declared ≤ most_cells = tables_are.within_all in omega arith in
    let spans : List Span = spans_from (length names) declared in
    let spans_are : spans_in (length names) declared ≡ Ok spans = spans_again (length names) declared (omega arith) in
    let places : HasPlaces sc = record { variables = few; parameters = omega arith } in
    let always_are = always_fit announced sc spans places file.always s2 _ (omega arith) used.0 h.always in
    let txs_are = txs_fit announced sc spans few file.txs s3 _ (omega arith) lists parts.1 used.1 h.txs in
    let few_txs : length txs ≤ 256 = let e : length txs ≡ length file.txs = length-map file.txs tx_name in let le : s3.many.transactions + length file.txs ≤ most_transactions = txs_are.few in omega arith in
    let runs_are = runs_fit announced file.txs few_txs txs_are.parameters file.runs s4 [] (omega arith) used.2 h.runs in
    let l : Listing = listing vars_are.good.0 tables_are.tables always_are.good.0 txs_are.transactions runs_are.runs in
    let is : resolved file ≡ Ok l =
    resolved_to file vars_are.good.0 tables_are.tables spans always_are.good.0 txs_are.transactions runs_are.runs k vars_are.good.1 tables_are.are spans_are always_are.good.1 txs_are.are runs_are.are in
    let of = names_of file l is in
    let named = names_of_txs file l of in
    let many1 : length l.names ≡ length names = ap length of.names in
    let many2 : length l.always ≡ length file.always = sym (length-map l.always (λ (a : List ℕ × Condition). a.0)) ∙ ap length of.always ∙ length-map file.always condition_name in
    let many3 : length l.transactions ≡ length txs = sym (length-map l.transactions (λ (x : Transaction). x.name)) ∙ ap length named in
    let many4 : length l.tables ≡ length file.tables = sym (length-map l.tables (λ (t : List ℕ × ℕ). t.0)) ∙ ap length of.tables ∙ length-map file.tables table_name in
    let le1 : s1.many.tables + length file.tables ≤ most_tables = tables_are.few in
    let le2 : s2.many.conditions + length file.always ≤ most_conditions = always_are.few in
    let le4 : s4.many.tasks + tasks_in_all runs_are.runs ≤ most_tasks = runs_are.all in
    let few_tables : nat_le (length l.tables) most_tables ≡ true = le-leb (length l.tables) most_tables (omega arith) in
    let tables_hold : tables_fit l ≡ true = both_true _ _ few_tables (both_true _ _ tables_are.fit (le-leb (cells l) most_cells few_cells)) in
    record {
      listing = l;
      is = is;
      holds = limits_are l (omega arith) (ap (list_all is_short) of.names ∙ vars_are.short) tables_hold (omega arith) (ap (list_all is_short) of.always ∙ always_are.short)
          (omega arith) txs_are.fit runs_are.one (omega arith);
    }
