-- The file of a listing whose names, limits and integers hold is resolved to it.
use Rattle.std.proofs.Common.{◌≡◌, ℕ, zero, suc, ◌+◌, ◌≤◌, ◌<◌, Bool, true, false, ◌||◌, cond, List, [], ◌∷◌, ◌++◌, length, map, replicate, take, drop, sum_by, Ok, refl, sym, ap, ◌∙◌, arith}
use Rattle.std.specs.Prelude.{ℤ, pos, nat_lt, nat_le, ◌^◌, ◌==◌}
use Rattle.std.specs.List.{list_all, flat_map}
use Rattle.std.proofs.lemmas.List.{length-map, take-append-drop}
use Rattle.std.proofs.lemmas.List.Concat.{flat_map-cons}
use Rattle.std.proofs.lemmas.List.Folds.{list_all-append}
use Rattle.std.proofs.lemmas.List.Sums.{sum_by-cons}
use Rattle.std.proofs.lemmas.Bool.{lt-ltb, le-leb, leb-true, ltb-true, eqb-true, eq-eqb, ne_eqb}
use Rattle.txn_programs.specs.declared.arguments.Call.{Call}
use Rattle.txn_programs.specs.declared.limits.TheConstants.{MAX_TASKS, MAX_REPEAT}
use Rattle.txn_programs.specs.Arithmetic.{fits}
use Rattle.txn_programs.specs.Tree.{Expression, Condition, Statement, Statements, Transaction, under}
use Rattle.txn_programs.specs.Tree as t
use Rattle.txn_programs.specs.Listing.{Listing, cells, values, spans, table_names, conditions, always_names}
use Rattle.txn_programs.specs.Names.{are_new, are_distinct, has_own_parameters, knows_expression, knows_condition, knows_standing, knows_statement, knows_statements, knows_transaction, names_hold}
use Rattle.txn_programs.specs.Limits.{most_parameters, largest_repeat, largest_repeat_of_all, is_short, table_fits, names_fit, program_fits, limits_hold}
use Rattle.text_grammar.specs.Written.{DeclareTables, name_at, scope_of, natural, numbers_of, written_expression, written_condition, written_statement, written_statements, written_always, written_transaction, written_vars, written_run, written_in}
use Rattle.text_grammar.specs.Tree.{Table}
use Rattle.text_grammar.specs.Scope.{Scope, inside}
use Rattle.text_words.specs.Numbers.{number_of, count_of}
use Rattle.text_grammar.specs.Resolving.{is_known, expr_known, cond_known, stmt_known, stmts_known, always_known, tx_known, run_known, uses_known, expression_in, condition_in, statement_in, statements_in, each, variable_of, numbers_in, table_of, always_in, transaction_in, arguments_in, run_in, converted, pair_name, table_name, resolved}
use Rattle.text_grammar.specs.Spelling.{expression_integers, condition_integers, statement_integers, statements_integers, transaction_integers, run_integers, integers_fit}
use Rattle.text_grammar.specs.declared.file.FileForm.{FileForm}
use Rattle.txn_programs.proofs.Lawful.{names_parts, limits_parts}
use Rattle.text_file_reader.specs.Resolved.{parameters_of, is_wanted}
use Rattle.text_file_reader.proofs.Declared.{both, any_at, none_later, place_again, known_again, id_again, variable_again, parameter_again, declared_again}
use Rattle.text_file_reader.proofs.Spans.{names_alone, spans_again, spans_of_all, table_again, table_known_again}
use Rattle.text_file_reader.proofs.Back.{both_true, names_of_conditions, names_of_txs, parameters_of_txs}
use Rattle.text_file_reader.proofs.Calls.{all_wanted, few_wanted}

-- names that are few and declared once, and are none of the earlier ones
pub record Fine (earlier names : List (List ℕ)) : Type 0 where
  pub new : are_new earlier names ≡ true
  pub few : length names ≤ 256

-- so are the names in a scope
pub record FineScope (s : Scope) : Type 0 where
  pub variables : Fine [] s.variables
  pub tables : are_distinct s.tables ≡ true
  pub spanned : length s.spans ≡ length s.tables
  pub parameters : Fine s.variables s.parameters

number_again : (z : ℤ) → fits z ≡ true → number_of z ≡ Ok z
unfolding number_of
number_again z h = rw h refl

count_again : (n : ℕ) → n < 2 ^ 32 → count_of (pos n) ≡ Ok n
unfolding count_of
count_again n h = rw (lt-ltb n (2 ^ 32) h) refl

either : (a b : Bool) → b ≡ true → (a || b) ≡ true
either true b h = refl
either false b h = h

expression_again : (s : Scope) → FineScope s → (x : Expression) → knows_expression (length s.variables) s.spans (length s.parameters) x ≡ true → expression_integers x ≡ true → expression_in s (written_expression s x) ≡ Ok x
expression_again s fine (t.Int n) k i = rw (number_again n i) refl
expression_again s fine (t.Var x) k i =
    let other : is_known s.parameters (name_at s.variables x.0) ≡ false = none_later s.variables s.parameters (name_at s.variables x.0) fine.parameters.new (any_at s.variables x.0 k) in
    rw (other, variable_again s.variables x fine.variables.new fine.variables.few k) refl
expression_again s fine (t.Param p) k i =
    rw (known_again s.variables s.parameters p.0 fine.parameters.new k, parameter_again s.variables s.parameters p fine.parameters.new fine.parameters.few k) refl
expression_again s fine (t.Cell u a) k i = let p = both _ _ k in rw (table_again s u fine.tables fine.spanned p.0, expression_again s fine a p.1 i) refl
expression_again s fine (t.OfAll f u) k i = rw (table_again s u fine.tables fine.spanned k) refl
expression_again s fine (t.Add a b) k i = let p = both _ _ k in let q = both _ _ i in rw (expression_again s fine a p.0 q.0, expression_again s fine b p.1 q.1) refl
expression_again s fine (t.Sub a b) k i = let p = both _ _ k in let q = both _ _ i in rw (expression_again s fine a p.0 q.0, expression_again s fine b p.1 q.1) refl
expression_again s fine (t.Mul a b) k i = let p = both _ _ k in let q = both _ _ i in rw (expression_again s fine a p.0 q.0, expression_again s fine b p.1 q.1) refl
expression_again s fine (t.Div a b) k i = let p = both _ _ k in let q = both _ _ i in rw (expression_again s fine a p.0 q.0, expression_again s fine b p.1 q.1) refl
expression_again s fine (t.Rem a b) k i = let p = both _ _ k in let q = both _ _ i in rw (expression_again s fine a p.0 q.0, expression_again s fine b p.1 q.1) refl

expression_known : (s : Scope) → FineScope s → (x : Expression) → knows_expression (length s.variables) s.spans (length s.parameters) x ≡ true → expr_known (names_alone s) (written_expression s x) ≡ true
expression_known s fine (t.Int n) k = refl
expression_known s fine (t.Var x) k = either (is_known s.parameters (name_at s.variables x.0)) _ (known_again [] s.variables x.0 fine.variables.new k)
expression_known s fine (t.Param p) k = rw (known_again s.variables s.parameters p.0 fine.parameters.new k) refl
expression_known s fine (t.Cell u a) k = let p = both _ _ k in both_true _ _ (table_known_again s u fine.tables fine.spanned p.0) (expression_known s fine a p.1)
expression_known s fine (t.OfAll f u) k = table_known_again s u fine.tables fine.spanned k
expression_known s fine (t.Add a b) k = let p = both _ _ k in both_true _ _ (expression_known s fine a p.0) (expression_known s fine b p.1)
expression_known s fine (t.Sub a b) k = let p = both _ _ k in both_true _ _ (expression_known s fine a p.0) (expression_known s fine b p.1)
expression_known s fine (t.Mul a b) k = let p = both _ _ k in both_true _ _ (expression_known s fine a p.0) (expression_known s fine b p.1)
expression_known s fine (t.Div a b) k = let p = both _ _ k in both_true _ _ (expression_known s fine a p.0) (expression_known s fine b p.1)
expression_known s fine (t.Rem a b) k = let p = both _ _ k in both_true _ _ (expression_known s fine a p.0) (expression_known s fine b p.1)

condition_again : (s : Scope) → FineScope s → (x : Condition) → knows_condition (length s.variables) s.spans (length s.parameters) x ≡ true → condition_integers x ≡ true → condition_in s (written_condition s x) ≡ Ok x
condition_again s fine (t.Eq a b) k i = let p = both _ _ k in let q = both _ _ i in rw (expression_again s fine a p.0 q.0, expression_again s fine b p.1 q.1) refl
condition_again s fine (t.Lt a b) k i = let p = both _ _ k in let q = both _ _ i in rw (expression_again s fine a p.0 q.0, expression_again s fine b p.1 q.1) refl
condition_again s fine (t.Le a b) k i = let p = both _ _ k in let q = both _ _ i in rw (expression_again s fine a p.0 q.0, expression_again s fine b p.1 q.1) refl
condition_again s fine (t.Not c) k i = rw (condition_again s fine c k i) refl
condition_again s fine (t.And c d) k i = let p = both _ _ k in let q = both _ _ i in rw (condition_again s fine c p.0 q.0, condition_again s fine d p.1 q.1) refl
condition_again s fine (t.Or c d) k i = let p = both _ _ k in let q = both _ _ i in rw (condition_again s fine c p.0 q.0, condition_again s fine d p.1 q.1) refl

condition_known : (s : Scope) → FineScope s → (x : Condition) → knows_condition (length s.variables) s.spans (length s.parameters) x ≡ true → cond_known (names_alone s) (written_condition s x) ≡ true
condition_known s fine (t.Eq a b) k = let p = both _ _ k in both_true _ _ (expression_known s fine a p.0) (expression_known s fine b p.1)
condition_known s fine (t.Lt a b) k = let p = both _ _ k in both_true _ _ (expression_known s fine a p.0) (expression_known s fine b p.1)
condition_known s fine (t.Le a b) k = let p = both _ _ k in both_true _ _ (expression_known s fine a p.0) (expression_known s fine b p.1)
condition_known s fine (t.Not c) k = condition_known s fine c k
condition_known s fine (t.And c d) k = let p = both _ _ k in both_true _ _ (condition_known s fine c p.0) (condition_known s fine d p.1)
condition_known s fine (t.Or c d) k = let p = both _ _ k in both_true _ _ (condition_known s fine c p.0) (condition_known s fine d p.1)

mutual
  statement_again : (s : Scope) → FineScope s → (x : Statement) → knows_statement (length s.variables) s.spans (length s.parameters) x ≡ true → statement_integers x ≡ true → largest_repeat x ≤ 1000 → statement_in s (written_statement s x) ≡ Ok x
  statement_again s fine t.Skip k i r = refl
  statement_again s fine (t.Set x a) k i r = let p = both _ _ k in rw (variable_again s.variables x fine.variables.new fine.variables.few p.0, expression_again s fine a p.1 i) refl
  statement_again s fine (t.Put u a b) k i r =
      let p = both _ _ k in let p1 = both _ _ p.1 in let q = both _ _ i in
      rw (table_again s u fine.tables fine.spanned p.0, expression_again s fine a p1.0 q.0, expression_again s fine b p1.1 q.1) refl
  statement_again s fine (t.Seq parts) k i r = rw (statements_again s fine parts k i r) refl
  statement_again s fine (t.If c a b) k i r =
      let p = both _ _ k in let p1 = both _ _ p.1 in let q = both _ _ i in let q1 = both _ _ q.1 in
      rw (condition_again s fine c p.0 q.0, statement_again s fine a p1.0 q1.0 (omega arith), statement_again s fine b p1.1 q1.1 (omega arith)) refl
  statement_again s fine (t.Repeat n p) k i r = rw (count_again n (omega arith), statement_again s fine p k i (omega arith)) refl
  statement_again s fine t.Retry k i r = refl
  statement_again s fine (t.OrElse a b) k i r =
      let p = both _ _ k in let q = both _ _ i in
      rw (statement_again s fine a p.0 q.0 (omega arith), statement_again s fine b p.1 q.1 (omega arith)) refl
  statement_again s fine (t.Throw a) k i r = rw (expression_again s fine a k i) refl

  statements_again : (s : Scope) → FineScope s → (x : Statements) → knows_statements (length s.variables) s.spans (length s.parameters) x ≡ true → statements_integers x ≡ true → largest_repeat_of_all x ≤ 1000 → statements_in s (written_statements s x) ≡ Ok x
  statements_again s fine t.End k i r = refl
  statements_again s fine (t.More first rest) k i r =
      let p = both _ _ k in let q = both _ _ i in
      rw (statement_again s fine first p.0 q.0 (omega arith), statements_again s fine rest p.1 q.1 (omega arith)) refl

mutual
  statement_known : (s : Scope) → FineScope s → (x : Statement) → knows_statement (length s.variables) s.spans (length s.parameters) x ≡ true → stmt_known (names_alone s) (written_statement s x) ≡ true
  statement_known s fine t.Skip k = refl
  statement_known s fine (t.Set x a) k = let p = both _ _ k in both_true _ _ (known_again [] s.variables x.0 fine.variables.new p.0) (expression_known s fine a p.1)
  statement_known s fine (t.Put u a b) k =
      let p = both _ _ k in let p1 = both _ _ p.1 in
      both_true _ _ (table_known_again s u fine.tables fine.spanned p.0) (both_true _ _ (expression_known s fine a p1.0) (expression_known s fine b p1.1))
  statement_known s fine (t.Seq parts) k = statements_known s fine parts k
  statement_known s fine (t.If c a b) k =
      let p = both _ _ k in let p1 = both _ _ p.1 in
      both_true _ _ (condition_known s fine c p.0) (both_true _ _ (statement_known s fine a p1.0) (statement_known s fine b p1.1))
  statement_known s fine (t.Repeat n p) k = statement_known s fine p k
  statement_known s fine t.Retry k = refl
  statement_known s fine (t.OrElse a b) k = let p = both _ _ k in both_true _ _ (statement_known s fine a p.0) (statement_known s fine b p.1)
  statement_known s fine (t.Throw a) k = expression_known s fine a k

  statements_known : (s : Scope) → FineScope s → (x : Statements) → knows_statements (length s.variables) s.spans (length s.parameters) x ≡ true → stmts_known (names_alone s) (written_statements s x) ≡ true
  statements_known s fine t.End k = refl
  statements_known s fine (t.More first rest) k = let p = both _ _ k in both_true _ _ (statement_known s fine first p.0) (statements_known s fine rest p.1)

-- ---- lists

-- in a standing condition there are no parameters
fine_standing : (l : Listing) → Fine [] l.names → are_distinct (table_names l) ≡ true → FineScope (scope_of l)
fine_standing l fine tables = record {
  variables = fine;
  tables = tables;
  spanned = spans_of_all l;
  parameters = record { new = refl; few = omega arith };
}

-- in a transaction there are its own
fine_inside : (s : Scope) → FineScope s → (t : Transaction) → has_own_parameters s.variables t ≡ true → names_fit t ≡ true → FineScope (inside s t.parameters)
fine_inside s fine t own fit =
    let few = leb-true (length t.parameters) most_parameters (both _ _ (both (is_short t.name) _ fit).1).0 in
    record { variables = fine.variables; tables = fine.tables; spanned = fine.spanned; parameters = record { new = own; few = omega arith } }

conditions_again : (l : Listing) → FineScope (scope_of l) → (all : List (List ℕ × Condition)) → list_all (knows_standing (length l.names) (spans l)) (map (λ a. a.1) all) ≡ true → list_all condition_integers (map (λ a. a.1) all) ≡ true
    → each (always_in (scope_of l)) (map (written_always (scope_of l)) all) ≡ Ok all
conditions_again l fine [] k i = refl
conditions_again l fine (a ∷ all) k i =
    let k1 = both _ _ k in let i1 = both _ _ i in
    rw (condition_again (scope_of l) fine a.1 k1.0 i1.0, conditions_again l fine all k1.1 i1.1) refl

conditions_known : (l : Listing) → FineScope (scope_of l) → (all : List (List ℕ × Condition)) → list_all (knows_standing (length l.names) (spans l)) (map (λ a. a.1) all) ≡ true
    → list_all (always_known (names_alone (scope_of l))) (map (written_always (scope_of l)) all) ≡ true
conditions_known l fine [] k = refl
conditions_known l fine (a ∷ all) k = let k1 = both _ _ k in both_true _ _ (condition_known (scope_of l) fine a.1 k1.0) (conditions_known l fine all k1.1)

transactions_again : (outer : Scope) → FineScope outer → (cs : List Condition) (ts : List Transaction) → list_all (has_own_parameters outer.variables) ts ≡ true → list_all names_fit ts ≡ true
    → list_all (knows_transaction (length outer.variables) outer.spans) ts ≡ true → list_all transaction_integers ts ≡ true → list_all (λ t. program_fits (under cs t)) ts ≡ true
    → each (transaction_in outer) (map (written_transaction outer) ts) ≡ Ok ts
transactions_again outer fine cs [] o f k i h = refl
transactions_again outer fine cs (p ∷ ps) o f k i h =
    let o1 = both _ _ o in let f1 = both _ _ f in
    let k1 = both _ _ k in let k2 = both _ _ k1.0 in
    let i1 = both _ _ i in let i2 = both _ _ i1.0 in
    let h1 = both _ _ h in let r = both _ _ (both _ _ (both _ _ h1.0).1).1 in
    let small : largest_repeat p.body ≤ 1000 = leb-true (largest_repeat p.body) MAX_REPEAT r.0 in
    let s = inside outer p.parameters in
    let inner = fine_inside outer fine p o1.0 f1.0 in
    rw (statement_again s inner p.body k2.0 i2.0 small, expression_again s inner p.result k2.1 i2.1, transactions_again outer fine cs ps o1.1 f1.1 k1.1 i1.1 h1.1) refl

transactions_known : (outer : Scope) → FineScope outer → (ts : List Transaction) → list_all (has_own_parameters outer.variables) ts ≡ true → list_all names_fit ts ≡ true
    → list_all (knows_transaction (length outer.variables) outer.spans) ts ≡ true → list_all (tx_known (names_alone outer)) (map (written_transaction outer) ts) ≡ true
transactions_known outer fine [] o f k = refl
transactions_known outer fine (p ∷ ps) o f k =
    let o1 = both _ _ o in let f1 = both _ _ f in
    let k1 = both _ _ k in let k2 = both _ _ k1.0 in
    let s = inside outer p.parameters in
    let inner = fine_inside outer fine p o1.0 f1.0 in
    both_true _ _ (both_true _ _ o1.0 (both_true _ _ (statement_known s inner p.body k2.0) (expression_known s inner p.result k2.1))) (transactions_known outer fine ps o1.1 f1.1 k1.1)

abbrev paired : List (List ℕ) → List ℤ → List (List ℕ × ℤ)
paired (name ∷ names) (value ∷ values) = (name, value) ∷ paired names values
paired names values = []

vars_again : (names : List (List ℕ)) (values : List ℤ) → list_all fits values ≡ true → each variable_of (written_vars names values) ≡ Ok (paired names values)
vars_again [] values h = refl
vars_again (name ∷ names) [] h = refl
vars_again (name ∷ names) (value ∷ values) h = let p = both _ _ h in rw (number_again value p.0, vars_again names values p.1) refl

firsts : (names : List (List ℕ)) (values : List ℤ) → length names ≤ length values → map (λ (v : List ℕ × ℤ). v.0) (paired names values) ≡ names
firsts [] values h = refl
firsts (name ∷ names) [] h = absurd (omega arith)
firsts (name ∷ names) (value ∷ values) h = ap (λ ns. name ∷ ns) (firsts names values (omega arith))

-- the values of variables, and those behind them
seconds : (names : List (List ℕ)) (values : List ℤ) → length names ≤ length values → map (λ (v : List ℕ × ℤ). v.1) (paired names values) ++ drop (length names) values ≡ values
seconds [] values h = refl
seconds (name ∷ names) [] h = absurd (omega arith)
seconds (name ∷ names) (value ∷ values) h = ap (λ vs. value ∷ vs) (seconds names values (omega arith))

var_names : (names : List (List ℕ)) (values : List ℤ) → length names ≤ length values → map pair_name (written_vars names values) ≡ names
var_names [] values h = refl
var_names (name ∷ names) [] h = absurd (omega arith)
var_names (name ∷ names) (value ∷ values) h = ap (λ ns. name ∷ ns) (var_names names values (omega arith))

-- ---- tables

numbers_again : (zs : List ℤ) → list_all fits zs ≡ true → each number_of zs ≡ Ok zs
numbers_again [] h = refl
numbers_again (z ∷ zs) h = let p = both _ _ h in rw (number_again z p.0, numbers_again zs p.1) refl

-- as many numbers as there are cells, all one or each its own
abbrev numbers : ℕ → ℤ → List ℤ → List ℤ
numbers n first others = cond (length others == 0) (replicate n first) (first ∷ others)

cells_again : (n : ℕ) (first : ℤ) (others : List ℤ) → 0 < n → length (numbers n first others) ≡ n → list_all fits (numbers n first others) ≡ true → numbers_in n first others ≡ Ok (numbers n first others)
cells_again zero first [] some many fit = absurd (omega arith)
cells_again (suc n) first [] some many fit = rw (number_again first (both _ _ fit).0) refl
cells_again n first (second ∷ others) some many fit =
    let more : (length (second ∷ others) == 0) ≡ false = ne_eqb (length (second ∷ others)) 0 (λ none. omega (arith, none)) in
    let all : list_all fits (first ∷ second ∷ others) ≡ true = rw more at fit in
    let each_one : (length (first ∷ second ∷ others) == n) ≡ true = eq-eqb (length (first ∷ second ∷ others)) n (rw more at many) in
    rw (numbers_again (first ∷ second ∷ others) all, each_one, more) refl

abbrev tabled : Table → (List ℕ × ℕ) × List ℤ
tabled t = ((t.name, natural t.count), numbers_of t)

table_of_again : (t : Table) (u : List ℕ × ℕ) → t.count ≡ pos u.1 → length (numbers_of t) ≡ u.1 → 0 < u.1 → u.1 < 2 ^ 32 → list_all fits (numbers_of t) ≡ true → table_of t ≡ Ok (tabled t)
table_of_again t u count many some small fit =
    let same : numbers_of t ≡ numbers u.1 t.first t.others = ap (λ (c : ℤ). numbers (natural c) t.first t.others) count in
    let given = cells_again u.1 t.first t.others some (ap length (sym same) ∙ many) (ap (list_all fits) (sym same) ∙ fit) in
    let counted : count_of t.count ≡ Ok u.1 = ap count_of count ∙ count_again u.1 small in
    let n : natural t.count ≡ u.1 = ap natural count in
    rw (counted, given, n) refl

-- tables that are written are those of the listing
record AreAgain (ts : List Table) (us : List (List ℕ × ℕ)) : Type 0 where
  are : each table_of ts ≡ Ok (map tabled ts)
  names : map table_name ts ≡ map (λ (u : List ℕ × ℕ). u.0) us
  firsts : map (λ (t : (List ℕ × ℕ) × List ℤ). t.0) (map tabled ts) ≡ us
  seconds : flat_map (λ (t : (List ℕ × ℕ) × List ℤ). t.1) (map tabled ts) ≡ flat_map numbers_of ts

heads_same : {A : Type 0} (x y : A) (xs ys : List A) → x ∷ xs ≡ y ∷ ys → (x ≡ y) × (xs ≡ ys)
heads_same x y xs ys e = (cc, cc)

tables_again : (ts : List Table) (us : List (List ℕ × ℕ)) → map {B = List ℕ × ℤ} (λ t. (t.name, t.count)) ts ≡ map {B = List ℕ × ℤ} (λ u. (u.0, pos u.1)) us
    → map (λ (t : Table). length (numbers_of t)) ts ≡ map (λ (u : List ℕ × ℕ). u.1) us → list_all table_fits us ≡ true → sum_by (λ (u : List ℕ × ℕ). u.1) us < 2 ^ 32 → list_all fits (flat_map numbers_of ts) ≡ true → AreAgain ts us
tables_again [] [] counted filled some small fit = record { are = refl; names = refl; firsts = refl; seconds = refl }
tables_again [] (u ∷ us) counted filled some small fit = absurd cc
tables_again (t ∷ ts) [] counted filled some small fit = absurd cc
tables_again (t ∷ ts) (u ∷ us) counted filled some small fit =
    let c = heads_same {A = List ℕ × ℤ} (t.name, t.count) (u.0, pos u.1) _ _ counted in
    let f = heads_same (length (numbers_of t)) u.1 _ _ filled in
    let p = both (table_fits u) _ some in
    let cell : 0 < u.1 = ltb-true 0 u.1 (both (is_short u.0) _ p.0).1 in
    let sum = sum_by-cons (λ (v : List ℕ × ℕ). v.1) u us in
    let q = both _ _ (sym (list_all-append fits (numbers_of t) (flat_map numbers_of ts)) ∙ ap (list_all fits) (sym (flat_map-cons numbers_of t ts)) ∙ fit) in
    let name : t.name ≡ u.0 = ap (λ (x : List ℕ × ℤ). x.0) c.0 in
    let count : t.count ≡ pos u.1 = ap (λ (x : List ℕ × ℤ). x.1) c.0 in
    let others = tables_again ts us c.1 f.1 p.1 (omega (arith, small, sum)) q.1 in
    let one : table_of t ≡ Ok (tabled t) = table_of_again t u count f.0 cell (omega (arith, small, sum)) q.0 in
    let size : natural t.count ≡ u.1 = ap natural count in
    record {
      are = rw (one, others.are) refl;
      names = rw (name, others.names) refl;
      firsts = rw (name, size, others.firsts) refl;
      seconds = flat_map-cons (λ (x : (List ℕ × ℕ) × List ℤ). x.1) (tabled t) (map tabled ts) ∙ ap (λ (vs : List ℤ). numbers_of t ++ vs) others.seconds ∙ sym (flat_map-cons numbers_of t ts);
    }

-- ---- runs

abbrev names_in : List Transaction → List (List ℕ)
names_in transactions = map (λ t. t.name) transactions

arguments_again : (given : List ℤ) → length given ≤ most_parameters → list_all fits given ≡ true → arguments_in given ≡ Ok given
arguments_again given few h = rw (le-leb (length given) most_parameters few) (numbers_again given h)

runs_again : (ts : List Transaction) → Fine [] (names_in ts) → ((c : Call) → is_wanted (map parameters_of ts) c ≡ true → length c.arguments ≤ most_parameters)
    → (runs : List (Call × ℕ)) → list_all (is_wanted (map parameters_of ts)) (map (λ (run : Call × ℕ). run.0) runs) ≡ true → list_all (λ run. nat_le run.1 MAX_TASKS) runs ≡ true → list_all run_integers runs ≡ true
    → each (run_in (names_in ts)) (map (written_run ts) runs) ≡ Ok runs
runs_again ts fine few [] k h i = refl
runs_again ts fine few (run ∷ runs) k h i =
    let h1 = both (nat_le run.1 MAX_TASKS) _ h in
    let small : run.1 ≤ 65536 = leb-true run.1 MAX_TASKS h1.0 in
    let counted : run.1 < 2 ^ 32 = omega arith in
    let k1 = both _ _ k in
    let k2 = both _ _ k1.0 in
    let i1 = both _ _ i in
    let n : length (names_in ts) ≡ length (map parameters_of ts) = length-map ts (λ (t : Transaction). t.name) ∙ sym (length-map ts parameters_of) in
    let below : nat_lt run.0.tx.0 (length (names_in ts)) ≡ true = ap (nat_lt run.0.tx.0) n ∙ k2.0 in
    rw (
      id_again [] (names_in ts) run.0.tx.0 fine.new fine.few below,
      count_again run.1 counted,
      arguments_again run.0.arguments (few run.0 k1.0) i1.0,
      runs_again ts fine few runs k1.1 h1.1 i1.1,
    ) refl

-- the same runs of the declarations that are written
run_again : (s : Scope) (ts : List Transaction) → Fine [] (names_in ts) → (run : Call × ℕ) → is_wanted (map parameters_of ts) run.0 ≡ true → run_known (map (written_transaction s) ts) (written_run ts run) ≡ true
run_again s ts fine run k =
    let k1 = both _ _ k in
    let n : length (names_in ts) ≡ length (map parameters_of ts) = length-map ts (λ (t : Transaction). t.name) ∙ sym (length-map ts parameters_of) in
    let found = place_again [] (names_in ts) run.0.tx.0 fine.new (ap (nat_lt run.0.tx.0) n ∙ k1.0) in
    let as_many = sym (eqb-true _ _ k1.1) in
    rw (names_of_txs s ts, found, parameters_of_txs s ts) (eq-eqb _ _ as_many)

runs_known : (s : Scope) (ts : List Transaction) → Fine [] (names_in ts) → (runs : List (Call × ℕ)) → list_all (is_wanted (map parameters_of ts)) (map (λ (run : Call × ℕ). run.0) runs) ≡ true
    → list_all (run_known (map (written_transaction s) ts)) (map (written_run ts) runs) ≡ true
runs_known s ts fine [] k = refl
runs_known s ts fine (run ∷ runs) k = let k1 = both _ _ k in both_true _ _ (run_again s ts fine run k1.0) (runs_known s ts fine runs k1.1)

-- ---- the whole file

-- what the rules on a listing say of its parts
record Fits (tables : List Table) (l : Listing) : Type 0 where
  fine : FineScope (scope_of l)
  tx_fine : Fine [] (names_in l.transactions)
  enough : length l.names ≤ length l.initial
  small : length l.names + cells l < 2 ^ 32
  tables_are : AreAgain tables l.tables

parts_fit : (tables : List Table) (l : Listing) → DeclareTables tables l → length l.initial ≡ values l → names_hold l ≡ true → limits_hold l ≡ true → list_all fits l.initial ≡ true → Fits tables l
parts_fit tables l declared valued names limits fit =
    let n = names_parts l names in
    let m = limits_parts l limits in
    let variables = m.variables in
    let many = m.cells in
    let txs = m.transactions in
    let front = list_all-append fits (take (length l.names) l.initial) (drop (length l.names) l.initial) in
    let cells_fit = both _ _ (sym front ∙ ap (list_all fits) (take-append-drop (length l.names) l.initial) ∙ fit) in
    record {
      fine = fine_standing l (record { new = n.distinct; few = omega (arith, variables) }) n.tables_distinct;
      tx_fine = record { new = n.tx_distinct; few = let e = length-map l.transactions (λ (t : Transaction). t.name) in omega (arith, txs, e) };
      enough = omega (arith, valued);
      small = omega (arith, variables, many);
      tables_are = tables_again tables l.tables declared.counted declared.filled m.each_table (omega (arith, many)) (ap (list_all fits) declared.begun ∙ cells_fit.1);
    }

converted_again : (form : FileForm) (tables : List Table) (l : Listing) → Fits tables l → DeclareTables tables l → names_hold l ≡ true → limits_hold l ≡ true → integers_fit l ≡ true
    → converted l.names (table_names l) (names_in l.transactions) (written_in form tables l) ≡ Ok l
unfolding integers_fit written_in converted
converted_again form tables l p declared names limits integers =
    let n = names_parts l names in
    let m = limits_parts l limits in
    let i = both (list_all fits l.initial) _ integers in
    let i1 = both (list_all condition_integers (conditions l)) _ i.1 in
    let i2 = both (list_all transaction_integers l.transactions) _ i1.1 in
    let wanted = all_wanted l (map (λ (run : Call × ℕ). run.0) l.runs) ∙ n.runs in
    let initial = ap (λ (vs : List ℤ). map (λ (v : List ℕ × ℤ). v.1) (paired l.names l.initial) ++ vs) (p.tables_are.seconds ∙ declared.begun) ∙ seconds l.names l.initial p.enough in
    rw (
      vars_again l.names l.initial i.0,
      p.tables_are.are,
      p.tables_are.firsts,
      spans_again (length l.names) l.tables p.small,
      conditions_again l p.fine l.always n.always_known i1.0,
      transactions_again (scope_of l) p.fine (conditions l) l.transactions n.own_parameters m.tx_names n.known i2.0 m.programs,
      runs_again l.transactions p.tx_fine (λ c k. few_wanted l c limits k) l.runs wanted m.runs i2.1,
      firsts l.names l.initial p.enough,
      initial,
    ) refl

pub resolved_again : (form : FileForm) (tables : List Table) (l : Listing) → DeclareTables tables l → length l.initial ≡ values l → names_hold l ≡ true → limits_hold l ≡ true → integers_fit l ≡ true → resolved (written_in form tables l) ≡ Ok l
unfolding integers_fit written_in uses_known resolved
resolved_again form tables l declared valued names limits integers =
    let n = names_parts l names in
    let m = limits_parts l limits in
    let p = parts_fit tables l declared valued names limits (both (list_all fits l.initial) _ integers).0 in
    let s = scope_of l in
    let wanted = all_wanted l (map (λ (run : Call × ℕ). run.0) l.runs) ∙ n.runs in
    let others_used = both_true _ _ (transactions_known s p.fine l.transactions n.own_parameters m.tx_names n.known) (runs_known s l.transactions p.tx_fine l.runs wanted) in
    let used = both_true _ _ (conditions_known l p.fine l.always n.always_known) others_used in
    rw (
      var_names l.names l.initial p.enough,
      declared_again [] l.names n.distinct,
      p.tables_are.names,
      declared_again [] (table_names l) n.tables_distinct,
      names_of_conditions s l.always,
      declared_again [] (always_names l) n.always_distinct,
      names_of_txs s l.transactions,
      declared_again [] (names_in l.transactions) n.tx_distinct,
      used,
    ) (converted_again form tables l p declared names limits integers)
