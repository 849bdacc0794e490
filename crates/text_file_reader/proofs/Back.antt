-- A listing that a file is resolved to is written as that file.
use Rattle.std.proofs.Common.{◌≡◌, ℕ, zero, suc, Bool, true, false, ◌&&◌, List, [], ◌∷◌, ◌++◌, length, map, replicate, drop, sum_by, Result, Ok, Err, refl, sym, ap, subst, ◌∙◌, inl, inr, arith, length-append}
use Rattle.std.specs.Prelude.{ℤ, pos, negsuc, nat_lt, nat_le, ◌^◌, ◌==◌}
use Rattle.std.specs.List.{list_all, flat_map}
use Rattle.std.proofs.lemmas.Bool.{eqb-true, ne_eqb}
use Rattle.std.proofs.lemmas.List.{length-map, length-replicate, drop_at}
use Rattle.std.proofs.lemmas.List.Concat.{flat_map-cons}
use Rattle.std.proofs.lemmas.List.Folds.{list_all-map, list_all-append}
use Rattle.std.proofs.lemmas.List.Sums.{sum_by-cons}
use Rattle.txn_programs.specs.declared.arguments.Call.{Call}
use Rattle.txn_programs.specs.Arithmetic.{fits}
use Rattle.txn_programs.specs.Tree.{Expression, Condition, Statement, Statements, Transaction}
use Rattle.txn_programs.specs.Tree as t
use Rattle.txn_programs.specs.declared.ast.Span.{Span}
use Rattle.txn_programs.specs.Listing.{Listing, cells, values, spans, spans_from, table_names, always_names}
use Rattle.txn_programs.specs.Limits.{most_parameters, table_fits}
use Rattle.text_grammar.specs.Tree.{Expr, Cond, Stmt, Stmts, NoStmts, MoreStmts, Pair, Table, Always, Declaration, Run, File}
use Rattle.text_grammar.specs.Scope.{Scope, standing, inside}
use Rattle.text_grammar.specs.Tree as f
use Rattle.text_grammar.specs.declared.words.Operator.{Operator}
use Rattle.text_grammar.specs.declared.words.Operator.TheVariants as operator
use Rattle.text_grammar.specs.declared.words.Comparison.{Comparison}
use Rattle.text_grammar.specs.declared.words.Comparison.TheVariants as comparison
use Rattle.text_grammar.specs.declared.words.Connective.{Connective}
use Rattle.text_grammar.specs.declared.words.Connective.TheVariants as connective
use Rattle.text_words.specs.declared.fault.ReadFault.{ReadFault}
use Rattle.text_words.specs.declared.fault.ReadFault.TheVariants as faults
use Rattle.text_grammar.specs.Written.{DeclareTables, name_at, scope_of, natural, numbers_of, written_expression, written_condition, written_statement, written_statements, written_always, written_transaction, written_vars, written_in}
use Rattle.text_words.specs.Answers.{◌>>=◌}
use Rattle.text_words.specs.Numbers.{number_of, count_of}
use Rattle.text_grammar.specs.Resolving.{is_known, table_in, variable_in, parameter_in, place_in, binary, compare, connect, expression_in, condition_in, statement_in, statements_in, each, variable_of, numbers_in, table_of, spans_in, always_in, transaction_in, arguments_in, call_at, run_in, listing, converted, pair_name, table_name, condition_name, tx_name}
use Rattle.text_grammar.specs.Spelling.{expression_integers, condition_integers, statement_integers, statements_integers, transaction_integers, run_integers, integers_fit}
use Rattle.text_words.proofs.Steps.{bind_ok, ok_is, done, chosen}
use Rattle.text_words.proofs.Numerals.{number_is}
use Rattle.text_file_reader.specs.Resolved.{parameters_of}
use Rattle.text_file_reader.proofs.Declared.{id_back, variable_back, parameter_back}
use Rattle.text_file_reader.proofs.Spans.{Apart, spans_back, scope_apart, table_back}

pub both_true : (a b : Bool) → a ≡ true → b ≡ true → (a && b) ≡ true
both_true a b p q = rw (p, q) refl

count_back : (z : ℤ) (n : ℕ) → count_of z ≡ Ok n → pos n ≡ z
unfolding count_of
count_back (pos m) n e =
    elim (chosen (nat_lt m (2 ^ 32)) (done m) (Err faults.Limit) (Ok n) e) [
      | inl p ↦ ap pos (sym (ok_is m n p.1))
      | inr p ↦ absurd (let h = p.1 in cc)
    ]
count_back (negsuc m) n e = absurd cc

-- the tree is the one that is written, and its integers fit
abbrev pub Back : {A B : Type 0} → (B → A) → (B → Bool) → A → B → Type 0
Back write good a b = (write b ≡ a) × (good b ≡ true)

binary_back : (s : Scope) (op : Operator) (x y : Expression) (a b : Expr) → Back (written_expression s) expression_integers a x → Back (written_expression s) expression_integers b y
    → Back (written_expression s) expression_integers (f.Binary op a b) (binary op x y)
binary_back s operator.Add x y a b p q = (rw (p.0, q.0) refl, both_true _ _ p.1 q.1)
binary_back s operator.Sub x y a b p q = (rw (p.0, q.0) refl, both_true _ _ p.1 q.1)
binary_back s operator.Mul x y a b p q = (rw (p.0, q.0) refl, both_true _ _ p.1 q.1)
binary_back s operator.Div x y a b p q = (rw (p.0, q.0) refl, both_true _ _ p.1 q.1)
binary_back s operator.Rem x y a b p q = (rw (p.0, q.0) refl, both_true _ _ p.1 q.1)

pub expression_back : (s : Scope) → Apart s → (e : Expr) (x : Expression) → expression_in s e ≡ Ok x → Back (written_expression s) expression_integers e x
expression_back s apart (f.Int value) x h =
    let n = bind_ok (number_of value) _ x h in
    let p = number_is value n.0 n.1 in
    subst (Back (written_expression s) expression_integers (f.Int value)) (ok_is (t.Int n.0) x n.2) (ap f.Int (sym p.1), ap fits (sym p.1) ∙ p.0)
expression_back s apart (f.Name name) x h =
    elim (chosen (is_known s.parameters name) (parameter_in s.parameters name >>= λ p. done (t.Param p)) (variable_in s.variables name >>= λ v. done (t.Var v)) (Ok x) h) [
      | inl q ↦
          let v = bind_ok (parameter_in s.parameters name) _ x q.1 in
          subst (Back (written_expression s) expression_integers (f.Name name)) (ok_is (t.Param v.0) x v.2) (ap f.Name (parameter_back s.parameters name v.0 v.1), refl)
      | inr q ↦
          let v = bind_ok (variable_in s.variables name) _ x q.1 in
          subst (Back (written_expression s) expression_integers (f.Name name)) (ok_is (t.Var v.0) x v.2) (ap f.Name (variable_back s.variables name v.0 v.1), refl)
    ]
expression_back s apart (f.At table index) x h =
    let u = bind_ok (table_in s table) _ x h in
    let a = bind_ok (expression_in s index) _ x u.2 in
    let p = expression_back s apart index a.0 a.1 in
    let q = table_back s table u.0 apart u.1 in
    subst (Back (written_expression s) expression_integers (f.At table index)) (ok_is (t.Cell u.0 a.0) x a.2) (rw (q, p.0) refl, p.1)
expression_back s apart (f.OfAll fold table) x h =
    let u = bind_ok (table_in s table) _ x h in
    subst (Back (written_expression s) expression_integers (f.OfAll fold table)) (ok_is (t.OfAll fold u.0) x u.2) (ap (f.OfAll fold) (table_back s table u.0 apart u.1), refl)
expression_back s apart (f.Binary op left right) x h =
    let a = bind_ok (expression_in s left) _ x h in
    let b = bind_ok (expression_in s right) _ x a.2 in
    subst (Back (written_expression s) expression_integers (f.Binary op left right)) (ok_is (binary op a.0 b.0) x b.2)
    (binary_back s op a.0 b.0 left right (expression_back s apart left a.0 a.1) (expression_back s apart right b.0 b.1))

compare_back : (s : Scope) (op : Comparison) (x y : Expression) (a b : Expr) → Back (written_expression s) expression_integers a x → Back (written_expression s) expression_integers b y
    → Back (written_condition s) condition_integers (f.Compare op a b) (compare op x y)
compare_back s comparison.Eq x y a b p q = (rw (p.0, q.0) refl, both_true _ _ p.1 q.1)
compare_back s comparison.Lt x y a b p q = (rw (p.0, q.0) refl, both_true _ _ p.1 q.1)
compare_back s comparison.Le x y a b p q = (rw (p.0, q.0) refl, both_true _ _ p.1 q.1)

connect_back : (s : Scope) (op : Connective) (x y : Condition) (a b : Cond) → Back (written_condition s) condition_integers a x → Back (written_condition s) condition_integers b y
    → Back (written_condition s) condition_integers (f.Connect op a b) (connect op x y)
connect_back s connective.And x y a b p q = (rw (p.0, q.0) refl, both_true _ _ p.1 q.1)
connect_back s connective.Or x y a b p q = (rw (p.0, q.0) refl, both_true _ _ p.1 q.1)

pub condition_back : (s : Scope) → Apart s → (c : Cond) (x : Condition) → condition_in s c ≡ Ok x → Back (written_condition s) condition_integers c x
condition_back s apart (f.Compare op left right) x h =
    let a = bind_ok (expression_in s left) _ x h in
    let b = bind_ok (expression_in s right) _ x a.2 in
    subst (Back (written_condition s) condition_integers (f.Compare op left right)) (ok_is (compare op a.0 b.0) x b.2)
    (compare_back s op a.0 b.0 left right (expression_back s apart left a.0 a.1) (expression_back s apart right b.0 b.1))
condition_back s apart (f.Not inner) x h =
    let a = bind_ok (condition_in s inner) _ x h in
    let p = condition_back s apart inner a.0 a.1 in
    subst (Back (written_condition s) condition_integers (f.Not inner)) (ok_is (t.Not a.0) x a.2) (ap f.Not p.0, p.1)
condition_back s apart (f.Connect op left right) x h =
    let a = bind_ok (condition_in s left) _ x h in
    let b = bind_ok (condition_in s right) _ x a.2 in
    subst (Back (written_condition s) condition_integers (f.Connect op left right)) (ok_is (connect op a.0 b.0) x b.2)
    (connect_back s op a.0 b.0 left right (condition_back s apart left a.0 a.1) (condition_back s apart right b.0 b.1))

abbrev StatementBack : Scope → Stmt → Statement → Type 0
StatementBack s p x = Back (written_statement s) statement_integers p x

mutual
  pub statement_back : (s : Scope) → Apart s → (p : Stmt) (x : Statement) → statement_in s p ≡ Ok x → StatementBack s p x
  statement_back s apart f.Skip x h = subst (StatementBack s f.Skip) (ok_is t.Skip x h) (refl, refl)
  statement_back s apart (f.Set name value) x h =
      let v = bind_ok (variable_in s.variables name) _ x h in
      let a = bind_ok (expression_in s value) _ x v.2 in
      let p = expression_back s apart value a.0 a.1 in
      let q = variable_back s.variables name v.0 v.1 in
      subst (StatementBack s (f.Set name value)) (ok_is (t.Set v.0 a.0) x a.2) (rw (p.0, q) refl, p.1)
  statement_back s apart (f.Put table index value) x h =
      let u = bind_ok (table_in s table) _ x h in
      let a = bind_ok (expression_in s index) _ x u.2 in
      let b = bind_ok (expression_in s value) _ x a.2 in
      let o = table_back s table u.0 apart u.1 in
      let p = expression_back s apart index a.0 a.1 in
      let q = expression_back s apart value b.0 b.1 in
      subst (StatementBack s (f.Put table index value)) (ok_is (t.Put u.0 a.0 b.0) x b.2) (rw (o, p.0, q.0) refl, both_true _ _ p.1 q.1)
  statement_back s apart (f.Seq parts) x h =
      let a = bind_ok (statements_in s parts) _ x h in
      let p = statements_back s apart parts a.0 a.1 in
      subst (StatementBack s (f.Seq parts)) (ok_is (t.Seq a.0) x a.2) (ap f.Seq p.0, p.1)
  statement_back s apart (f.If test first second) x h =
      let c = bind_ok (condition_in s test) _ x h in
      let a = bind_ok (statement_in s first) _ x c.2 in
      let b = bind_ok (statement_in s second) _ x a.2 in
      let o = condition_back s apart test c.0 c.1 in
      let p = statement_back s apart first a.0 a.1 in
      let q = statement_back s apart second b.0 b.1 in
      subst (StatementBack s (f.If test first second)) (ok_is (t.If c.0 a.0 b.0) x b.2) (rw (o.0, p.0, q.0) refl, both_true _ _ o.1 (both_true _ _ p.1 q.1))
  statement_back s apart (f.Repeat count body) x h =
      let n = bind_ok (count_of count) _ x h in
      let a = bind_ok (statement_in s body) _ x n.2 in
      let p = statement_back s apart body a.0 a.1 in
      subst (StatementBack s (f.Repeat count body)) (ok_is (t.Repeat n.0 a.0) x a.2) (rw (count_back count n.0 n.1, p.0) refl, p.1)
  statement_back s apart f.Retry x h = subst (StatementBack s f.Retry) (ok_is t.Retry x h) (refl, refl)
  statement_back s apart (f.OrElse first second) x h =
      let a = bind_ok (statement_in s first) _ x h in
      let b = bind_ok (statement_in s second) _ x a.2 in
      let p = statement_back s apart first a.0 a.1 in
      let q = statement_back s apart second b.0 b.1 in
      subst (StatementBack s (f.OrElse first second)) (ok_is (t.OrElse a.0 b.0) x b.2) (rw (p.0, q.0) refl, both_true _ _ p.1 q.1)
  statement_back s apart (f.Throw value) x h =
      let a = bind_ok (expression_in s value) _ x h in
      let p = expression_back s apart value a.0 a.1 in
      subst (StatementBack s (f.Throw value)) (ok_is (t.Throw a.0) x a.2) (ap f.Throw p.0, p.1)
  statement_back s apart (f.Call name arguments) x h = absurd cc

  pub statements_back : (s : Scope) → Apart s → (ss : Stmts) (x : Statements) → statements_in s ss ≡ Ok x → Back (written_statements s) statements_integers ss x
  statements_back s apart NoStmts x h = subst (Back (written_statements s) statements_integers NoStmts) (ok_is t.End x h) (refl, refl)
  statements_back s apart (MoreStmts first others) x h =
      let a = bind_ok (statement_in s first) _ x h in
      let b = bind_ok (statements_in s others) _ x a.2 in
      let p = statement_back s apart first a.0 a.1 in
      let q = statements_back s apart others b.0 b.1 in
      subst (Back (written_statements s) statements_integers (MoreStmts first others)) (ok_is (t.More a.0 b.0) x b.2) (rw (p.0, q.0) refl, both_true _ _ p.1 q.1)

-- ---- lists

each_back : {A B : Type 0} (one : A → Result B ReadFault) (write : B → A) (good : B → Bool) → ((a : A) (b : B) → one a ≡ Ok b → Back write good a b)
    → (xs : List A) (ys : List B) → each one xs ≡ Ok ys → (map write ys ≡ xs) × (list_all good ys ≡ true)
each_back one write good back [] ys h = subst (λ zs. (map write zs ≡ []) × (list_all good zs ≡ true)) (ok_is [] ys h) (refl, refl)
each_back one write good back (x ∷ xs) ys h =
    let a = bind_ok (one x) _ ys h in
    let b = bind_ok (each one xs) _ ys a.2 in
    let p = back x a.0 a.1 in
    let q = each_back one write good back xs b.0 b.1 in
    subst (λ zs. (map write zs ≡ x ∷ xs) × (list_all good zs ≡ true)) (ok_is (a.0 ∷ b.0) ys b.2) (rw (p.0, q.0) refl, both_true _ _ p.1 q.1)

abbrev pub pair_of : List ℕ × ℤ → Pair
pair_of v = record { name = v.0; value = v.1 }

variable_is : (p : Pair) (v : List ℕ × ℤ) → variable_of p ≡ Ok v → Back pair_of (λ w. fits w.1) p v
variable_is p v h =
    let n = bind_ok (number_of p.value) _ v h in
    let q = number_is p.value n.0 n.1 in
    let made : List ℕ × ℤ = (p.name, n.0) in
    subst (Back pair_of (λ w. fits w.1) p) (ok_is made v n.2) (rw (← q.1) refl, ap fits (sym q.1) ∙ q.0)

always_back : (s : Scope) → Apart s → (a : Always) (x : List ℕ × Condition) → always_in s a ≡ Ok x → Back (written_always s) (λ y. condition_integers y.1) a x
always_back s apart a x h =
    let c = bind_ok (condition_in s a.condition) _ x h in
    let p = condition_back s apart a.condition c.0 c.1 in
    let made : List ℕ × Condition = (a.name, c.0) in
    subst (Back (written_always s) (λ y. condition_integers y.1) a) (ok_is made x c.2) (rw p.0 refl, p.1)

apart_inside : (s : Scope) (parameters : List (List ℕ)) → Apart s → Apart (inside s parameters)
apart_inside s parameters apart = record { as_many = apart.as_many; place = apart.place }

transaction_back : (outer : Scope) → Apart outer → (d : Declaration) (x : Transaction) → transaction_in outer d ≡ Ok x → Back (written_transaction outer) transaction_integers d x
transaction_back outer apart d x h =
    let s = inside outer d.parameters in
    let inner = apart_inside outer d.parameters apart in
    let a = bind_ok (statement_in s d.body) _ x h in
    let b = bind_ok (expression_in s d.value) _ x a.2 in
    let p = statement_back s inner d.body a.0 a.1 in
    let q = expression_back s inner d.value b.0 b.1 in
    let made : Transaction = record { name = d.name; parameters = d.parameters; body = a.0; result = b.0 } in
    subst (Back (written_transaction outer) transaction_integers d) (ok_is made x b.2) (rw (p.0, q.0) refl, both_true _ _ p.1 q.1)

-- numbers are kept as they are
pub numbers_back : (zs ns : List ℤ) → each number_of zs ≡ Ok ns → (ns ≡ zs) × (list_all fits ns ≡ true)
numbers_back [] ns h = subst (λ (ms : List ℤ). (ms ≡ []) × (list_all fits ms ≡ true)) (ok_is [] ns h) (refl, refl)
numbers_back (z ∷ zs) ns h =
    let a = bind_ok (number_of z) _ ns h in
    let b = bind_ok (each number_of zs) _ ns a.2 in
    let p = number_is z a.0 a.1 in
    let q = numbers_back zs b.0 b.1 in
    subst (λ (ms : List ℤ). (ms ≡ z ∷ zs) × (list_all fits ms ≡ true)) (ok_is (a.0 ∷ b.0) ns b.2) (ap (λ (m : ℤ). m ∷ b.0) (sym p.1) ∙ ap (λ (ms : List ℤ). z ∷ ms) q.0, both_true _ _ (ap fits (sym p.1) ∙ p.0) q.1)

pub arguments_back : (zs ns : List ℤ) → arguments_in zs ≡ Ok ns → (ns ≡ zs) × (list_all fits ns ≡ true)
arguments_back zs ns h =
    elim (chosen (nat_le (length zs) most_parameters) (each number_of zs) (Err faults.Limit) (Ok ns) h) [
      | inl p ↦ numbers_back zs ns p.1
      | inr p ↦ absurd (let g = p.1 in cc)
    ]

abbrev run_written : List (List ℕ) → Call × ℕ → Run
run_written names run = record { name = name_at names run.0.tx.0; count = pos run.1; arguments = run.0.arguments }

run_back : (names : List (List ℕ)) (r : Run) (x : Call × ℕ) → run_in names r ≡ Ok x → Back (run_written names) run_integers r x
run_back names r x h =
    let i = bind_ok (place_in names r.name) _ x h in
    let n = bind_ok (count_of r.count) _ x i.2 in
    let g = bind_ok (arguments_in r.arguments) _ x n.2 in
    let a = arguments_back r.arguments g.0 g.1 in
    let made : Call × ℕ = (call_at i.0 g.0, n.0) in
    subst (Back (run_written names) run_integers r) (ok_is made x g.2) (rw ((id_back names r.name i.0 i.1).0, count_back r.count n.0 n.1, a.0) refl, a.1)

vars_written : (vs : List (List ℕ × ℤ)) (more : List ℤ) → written_vars (map (λ v. v.0) vs) (map (λ v. v.1) vs ++ more) ≡ map pair_of vs
vars_written [] more = refl
vars_written (v ∷ vs) more = ap (λ ps. pair_of v ∷ ps) (vars_written vs more)

pub names_of_conditions : (s : Scope) (all : List (List ℕ × Condition)) → map condition_name (map (written_always s) all) ≡ map (λ a. a.0) all
names_of_conditions s [] = refl
names_of_conditions s (a ∷ all) = ap (λ ns. a.0 ∷ ns) (names_of_conditions s all)

pub names_of_txs : (s : Scope) (ts : List Transaction) → map tx_name (map (written_transaction s) ts) ≡ map (λ t. t.name) ts
names_of_txs s [] = refl
names_of_txs s (t ∷ ts) = ap (λ ns. t.name ∷ ns) (names_of_txs s ts)

abbrev pub declared_parameters : Declaration → List (List ℕ)
declared_parameters d = d.parameters

pub parameters_of_txs : (s : Scope) (ts : List Transaction) → map declared_parameters (map (written_transaction s) ts) ≡ map parameters_of ts
parameters_of_txs s [] = refl
parameters_of_txs s (t ∷ ts) = ap (λ ps. t.parameters ∷ ps) (parameters_of_txs s ts)

-- ---- tables

all_fit : (n : ℕ) (v : ℤ) → fits v ≡ true → list_all fits (replicate n v) ≡ true
all_fit zero v h = refl
all_fit (suc n) v h = both_true _ _ h (all_fit n v h)

-- the numbers of a table are those that are written: as many as it has cells, and all fit
record AreNumbers (n : ℕ) (written made : List ℤ) : Type 0 where
  same : written ≡ made
  filled : length made ≡ n
  fit : list_all fits made ≡ true

numbers_are : (t : Table) (n : ℕ) (vs : List ℤ) → pos n ≡ t.count → numbers_in n t.first t.others ≡ Ok vs → AreNumbers n (numbers_of t) vs
numbers_are t n vs counted h = by t.others refl (ap (λ (zs : List ℤ). numbers_in n t.first zs) refl ∙ h)
  where
    by : (others : List ℤ) → t.others ≡ others → numbers_in n t.first others ≡ Ok vs → AreNumbers n (numbers_of t) vs
    by [] e g =
        let v = bind_ok (number_of t.first) _ vs g in
        let is = number_is t.first v.0 v.1 in
        let made : replicate n v.0 ≡ vs = ok_is (replicate n v.0) vs v.2 in
        let many : natural t.count ≡ n = ap natural (sym counted) in
        subst (λ (ws : List ℤ). AreNumbers n (numbers_of t) ws) made (record {
          same = rw (e, many) (ap (replicate n) is.1);
          filled = length-replicate n v.0;
          fit = all_fit n v.0 (ap fits (sym is.1) ∙ is.0);
        })
    by (second ∷ others) e g =
        let ws = bind_ok (each number_of (t.first ∷ second ∷ others)) _ vs g in
        let back = numbers_back (t.first ∷ second ∷ others) ws.0 ws.1 in
        let some : (length (second ∷ others) == 0) ≡ false = ne_eqb (length (second ∷ others)) 0 (λ none. omega (arith, none)) in
        elim (chosen (length ws.0 == n) (done ws.0) (Err faults.Limit) (Ok vs) ws.2) [
          | inl p ↦ subst (λ (us : List ℤ). AreNumbers n (numbers_of t) us) (ok_is ws.0 vs p.1) (record {
            same = rw (e, some) (sym back.0);
            filled = eqb-true (length ws.0) n p.0;
            fit = back.1;
          })
          | inr p ↦ absurd (let f = p.1 in cc)
        ]

-- tables as they are made are those that are written
record AreTables (ts : List Table) (made : List ((List ℕ × ℕ) × List ℤ)) : Type 0 where
  names : map table_name ts ≡ map (λ t. t.0) (map (λ t. t.0) made)
  counted : map {B = List ℕ × ℤ} (λ t. (t.name, t.count)) ts ≡ map {B = List ℕ × ℤ} (λ t. (t.0, pos t.1)) (map (λ t. t.0) made)
  filled : map (λ (t : Table). length (numbers_of t)) ts ≡ map (λ (t : List ℕ × ℕ). t.1) (map (λ t. t.0) made)
  begun : flat_map numbers_of ts ≡ flat_map (λ t. t.1) made
  as_many : length (flat_map (λ t. t.1) made) ≡ sum_by (λ (t : List ℕ × ℕ). t.1) (map (λ t. t.0) made)
  fit : list_all fits (flat_map (λ t. t.1) made) ≡ true

tables_back : (ts : List Table) (made : List ((List ℕ × ℕ) × List ℤ)) → each table_of ts ≡ Ok made → AreTables ts made
tables_back [] made h = subst (AreTables []) (ok_is [] made h) (record { names = refl; counted = refl; filled = refl; begun = refl; as_many = refl; fit = refl })
tables_back (t ∷ ts) made h =
    let a = bind_ok (table_of t) _ made h in
    let b = bind_ok (each table_of ts) _ made a.2 in
    let n = bind_ok (count_of t.count) _ a.0 a.1 in
    let vs = bind_ok (numbers_in n.0 t.first t.others) _ a.0 n.2 in
    let counted = count_back t.count n.0 n.1 in
    let are = numbers_are t n.0 vs.0 counted vs.1 in
    let one : (List ℕ × ℕ) × List ℤ = ((t.name, n.0), vs.0) in
    let others = tables_back ts b.0 b.1 in
    let all : one ∷ b.0 ≡ made = ap (λ (x : (List ℕ × ℕ) × List ℤ). x ∷ b.0) (ok_is one a.0 vs.2) ∙ ok_is (a.0 ∷ b.0) made b.2 in
    let sizes = sum_by-cons (λ (u : List ℕ × ℕ). u.1) one.0 (map (λ u. u.0) b.0) in
    let filled = are.filled in
    let as_many = others.as_many in
    subst (AreTables (t ∷ ts)) all (record {
      names = rw others.names refl;
      counted = rw (counted, others.counted) refl;
      filled = rw (are.same, filled, others.filled) refl;
      begun = rw (flat_map-cons numbers_of t ts, flat_map-cons (λ (u : (List ℕ × ℕ) × List ℤ). u.1) one b.0, are.same, others.begun) refl;
      as_many = ap length (flat_map-cons (λ (u : (List ℕ × ℕ) × List ℤ). u.1) one b.0) ∙ length-append vs.0 (flat_map (λ (u : (List ℕ × ℕ) × List ℤ). u.1) b.0) ∙ rw (filled, as_many) (sym sizes);
      fit = ap (list_all fits) (flat_map-cons (λ (u : (List ℕ × ℕ) × List ℤ). u.1) one b.0) ∙ list_all-append fits vs.0 _ ∙ both_true _ _ are.fit others.fit;
    })

-- ---- what stays as it is

each_keeps : {A B C : Type 0} (one : A → Result B ReadFault) (before : A → C) (after : B → C) → ((a : A) (b : B) → one a ≡ Ok b → after b ≡ before a) → (xs : List A) (ys : List B) → each one xs ≡ Ok ys → map after ys ≡ map before xs
each_keeps one before after keeps [] ys h = ap (map after) (sym (ok_is [] ys h))
each_keeps one before after keeps (x ∷ xs) ys h =
    let a = bind_ok (one x) _ ys h in
    let b = bind_ok (each one xs) _ ys a.2 in
    ap (map after) (sym (ok_is (a.0 ∷ b.0) ys b.2)) ∙ rw (keeps x a.0 a.1, each_keeps one before after keeps xs b.0 b.1) refl

always_kept : (s : Scope) (a : Always) (x : List ℕ × Condition) → always_in s a ≡ Ok x → x.0 ≡ a.name
always_kept s a x h =
    let c = bind_ok (condition_in s a.condition) _ x h in
    let made : List ℕ × Condition = (a.name, c.0) in
    ap (λ (y : List ℕ × Condition). y.0) (sym (ok_is made x c.2))

-- a transaction by its name and its parameters
abbrev pub Head : Type 0
Head = List ℕ × List (List ℕ)

abbrev pub declared_head : Declaration → Head
declared_head d = (d.name, d.parameters)

abbrev pub head_of : Transaction → Head
head_of t = (t.name, t.parameters)

transaction_kept : (s : Scope) (d : Declaration) (x : Transaction) → transaction_in s d ≡ Ok x → head_of x ≡ declared_head d
transaction_kept s d x h =
    let a = bind_ok (statement_in (inside s d.parameters) d.body) _ x h in
    let b = bind_ok (expression_in (inside s d.parameters) d.value) _ x a.2 in
    let made : Transaction = record { name = d.name; parameters = d.parameters; body = a.0; result = b.0 } in
    ap head_of (sym (ok_is made x b.2))

pub heads_kept : (s : Scope) (ds : List Declaration) (ts : List Transaction) → each (transaction_in s) ds ≡ Ok ts → map head_of ts ≡ map declared_head ds
heads_kept s ds ts h = each_keeps (transaction_in s) declared_head head_of (transaction_kept s) ds ts h

map-map : {A B C : Type 0} (g : B → C) (f : A → B) (xs : List A) → map g (map f xs) ≡ map (λ x. g (f x)) xs
map-map g f [] = refl
map-map g f (x ∷ xs) = ap (λ (ys : List _). g (f x) ∷ ys) (map-map g f xs)

-- what is so of the heads
pub by_heads : {C : Type 0} (g : Head → C) (ts : List Transaction) (ds : List Declaration) → map head_of ts ≡ map declared_head ds → map (λ t. g (head_of t)) ts ≡ map (λ d. g (declared_head d)) ds
by_heads g ts ds h = sym (map-map g head_of ts) ∙ ap (map g) h ∙ map-map g declared_head ds

-- ---- the whole file

-- a listing that a file is converted to, by its parts
pub record IsConverted (file : File) (l : Listing) : Type 0 where
  pub vars : List (List ℕ × ℤ)
  pub vars_are : each variable_of file.vars ≡ Ok vars
  pub named : l.names ≡ map (λ v. v.0) vars
  pub tables : List ((List ℕ × ℕ) × List ℤ)
  pub tables_are : each table_of file.tables ≡ Ok tables
  pub tabled : l.tables ≡ map (λ t. t.0) tables
  pub begun : l.initial ≡ map (λ v. v.1) vars ++ flat_map (λ t. t.1) tables
  pub always_are : each (always_in (scope_of l)) file.always ≡ Ok l.always
  pub txs_are : each (transaction_in (scope_of l)) file.txs ≡ Ok l.transactions
  pub runs_are : each (run_in (map tx_name file.txs)) file.runs ≡ Ok l.runs

variable_kept : (p : Pair) (v : List ℕ × ℤ) → variable_of p ≡ Ok v → v.0 ≡ p.name
variable_kept p v h =
    let n = bind_ok (number_of p.value) _ v h in
    let made : List ℕ × ℤ = (p.name, n.0) in
    ap (λ (w : List ℕ × ℤ). w.0) (sym (ok_is made v n.2))

same_scope : (vars vars' names names' : List (List ℕ)) (spans spans' : List Span) → vars ≡ vars' → names ≡ names' → spans ≡ spans' → standing vars' names' spans' ≡ standing vars names spans
same_scope vars vars' names names' spans spans' p q r = rw (p, q, r) refl

pub converted_parts : (file : File) (l : Listing) → converted (map pair_name file.vars) (map table_name file.tables) (map tx_name file.txs) file ≡ Ok l → IsConverted file l
unfolding converted
converted_parts file l h =
    let vars = map pair_name file.vars in
    let names = map table_name file.tables in
    let v = bind_ok (each variable_of file.vars) _ l h in
    let n = bind_ok (each table_of file.tables) _ l v.2 in
    let s = bind_ok (spans_in (length vars) (map (λ (t : (List ℕ × ℕ) × List ℤ). t.0) n.0)) _ l n.2 in
    let outer = standing vars names s.0 in
    let a = bind_ok (each (always_in outer) file.always) _ l s.2 in
    let p = bind_ok (each (transaction_in outer) file.txs) _ l a.2 in
    let r = bind_ok (each (run_in (map tx_name file.txs)) file.runs) _ l p.2 in
    let made : Listing = listing v.0 n.0 a.0 p.0 r.0 in
    let vars_are : vars ≡ made.names = sym (each_keeps variable_of pair_name (λ (w : List ℕ × ℤ). w.0) variable_kept file.vars v.0 v.1) in
    let names_are : names ≡ table_names made = (tables_back file.tables n.0 n.1).names in
    let spans_are : s.0 ≡ spans made = spans_back (length vars) made.tables s.0 s.1 ∙ ap (λ (ns : List (List ℕ)). spans_from (length ns) made.tables) vars_are in
    let scope : scope_of made ≡ outer = same_scope vars made.names names (table_names made) s.0 (spans made) vars_are names_are spans_are in
    subst (IsConverted file) (ok_is made l r.2) (record {
      vars = v.0;
      vars_are = v.1;
      named = refl;
      tables = n.0;
      tables_are = n.1;
      tabled = refl;
      begun = refl;
      always_are = ap (λ (o : Scope). each (always_in o) file.always) scope ∙ a.1;
      txs_are = ap (λ (o : Scope). each (transaction_in o) file.txs) scope ∙ p.1;
      runs_are = r.1;
    })

-- its names, and how many values it begins with, whatever its limits
pub record IsKept (file : File) (l : Listing) : Type 0 where
  pub names : l.names ≡ map pair_name file.vars
  pub tables : table_names l ≡ map table_name file.tables
  pub always : always_names l ≡ map condition_name file.always
  pub heads : map head_of l.transactions ≡ map declared_head file.txs
  pub valued : length l.initial ≡ values l

pub kept : (file : File) (l : Listing) → IsConverted file l → IsKept file l
kept file l c =
    let are = tables_back file.tables c.tables c.tables_are in
    let many : length (flat_map (λ (t : (List ℕ × ℕ) × List ℤ). t.1) c.tables) ≡ cells l = are.as_many ∙ ap (λ (ts : List (List ℕ × ℕ)). sum_by (λ (t : List ℕ × ℕ). t.1) ts) (sym c.tabled) in
    let vars : length (map (λ (v : List ℕ × ℤ). v.1) c.vars) ≡ length l.names =
    length-map c.vars (λ (v : List ℕ × ℤ). v.1) ∙ sym (ap length c.named ∙ length-map c.vars (λ (v : List ℕ × ℤ). v.0)) in
    record {
      names = c.named ∙ each_keeps variable_of pair_name (λ (v : List ℕ × ℤ). v.0) variable_kept file.vars c.vars c.vars_are;
      tables = ap (map (λ (t : List ℕ × ℕ). t.0)) c.tabled ∙ sym are.names;
      always = each_keeps (always_in (scope_of l)) condition_name (λ (a : List ℕ × Condition). a.0) (always_kept (scope_of l)) file.always l.always c.always_are;
      heads = heads_kept (scope_of l) file.txs l.transactions c.txs_are;
      valued = ap length c.begun ∙ length-append (map (λ (v : List ℕ × ℤ). v.1) c.vars) (flat_map (λ (t : (List ℕ × ℕ) × List ℤ). t.1) c.tables) ∙ rw (vars, many) refl;
    }

-- a listing whose tables have cells is written as the file
pub record IsWritten (file : File) (l : Listing) : Type 0 where
  pub same : written_in file.form file.tables l ≡ file
  pub tabled : DeclareTables file.tables l
  pub integers : integers_fit l ≡ true

pub converted_back : (file : File) (l : Listing) → list_all table_fits l.tables ≡ true → IsConverted file l → IsWritten file l
unfolding written_in integers_fit
converted_back file l fit c =
    let s = scope_of l in
    let apart = scope_apart l fit in
    let txs = map tx_name file.txs in
    let vb = each_back variable_of pair_of (λ w. fits w.1) variable_is file.vars c.vars c.vars_are in
    let tb = tables_back file.tables c.tables c.tables_are in
    let ab = each_back (always_in s) (written_always s) (λ y. condition_integers y.1) (always_back s apart) file.always l.always c.always_are in
    let pb = each_back (transaction_in s) (written_transaction s) transaction_integers (transaction_back s apart) file.txs l.transactions c.txs_are in
    let rb = each_back (run_in txs) (run_written txs) run_integers (run_back txs) file.runs l.runs c.runs_are in
    let k = kept file l c in
    let cells_begin = flat_map (λ (t : (List ℕ × ℕ) × List ℤ). t.1) c.tables in
    let tx_names : txs ≡ map (λ q. q.name) l.transactions = sym (by_heads (λ (h : Head). h.0) l.transactions file.txs k.heads) in
    let same_vars : written_vars l.names l.initial ≡ file.vars =
    ap (λ (ns : List (List ℕ)). written_vars ns l.initial) c.named ∙ ap (written_vars (map (λ (v : List ℕ × ℤ). v.0) c.vars)) c.begun ∙ vars_written c.vars cells_begin ∙ vb.0 in
    let same_runs : map (run_written (map (λ (q : Transaction). q.name) l.transactions)) l.runs ≡ file.runs = ap (λ (ns : List (List ℕ)). map (run_written ns) l.runs) (sym tx_names) ∙ rb.0 in
    let as_many : length (map (λ (v : List ℕ × ℤ). v.1) c.vars) ≡ length l.names =
    length-map c.vars (λ (v : List ℕ × ℤ). v.1) ∙ sym (ap length c.named ∙ length-map c.vars (λ (v : List ℕ × ℤ). v.0)) in
    let initial = ap (list_all fits) c.begun ∙ list_all-append fits (map (λ (v : List ℕ × ℤ). v.1) c.vars) cells_begin ∙ both_true _ _ (list_all-map fits (λ (w : List ℕ × ℤ). w.1) c.vars ∙ vb.1) tb.fit in
    let conditions = list_all-map condition_integers (λ (w : List ℕ × Condition). w.1) l.always ∙ ab.1 in
    record {
      same = rw (same_vars, ab.0, pb.0, same_runs) refl;
      tabled = record {
        counted = tb.counted ∙ ap (map {B = List ℕ × ℤ} (λ (t : List ℕ × ℕ). (t.0, pos t.1))) (sym c.tabled);
        filled = tb.filled ∙ ap (map (λ (t : List ℕ × ℕ). t.1)) (sym c.tabled);
        begun = tb.begun ∙ sym (ap (drop (length l.names)) c.begun ∙ drop_at (map (λ (v : List ℕ × ℤ). v.1) c.vars) cells_begin (length l.names) as_many);
      };
      integers = both_true _ _ initial (both_true _ _ conditions (both_true _ _ pb.1 rb.1));
    }
