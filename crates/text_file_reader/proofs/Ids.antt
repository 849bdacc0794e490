-- What is resolved names variables and transactions by ids that there are.
use Rattle.std.proofs.Common.{◌≡◌, ℕ, Bool, true, List, [], ◌∷◌, length, map, Result, Ok, refl, sym, subst, ◌∙◌, inl, inr}
use Rattle.std.specs.Prelude.{nat_lt}
use Rattle.std.specs.List.{list_all}
use Rattle.std.proofs.lemmas.List.Folds.{list_all-map}
use Rattle.txn_programs.specs.declared.ast.VarId.{VarId}
use Rattle.txn_programs.specs.declared.ast.ParamId.{ParamId}
use Rattle.txn_programs.specs.declared.ast.Span.{Span}
use Rattle.txn_programs.specs.declared.arguments.Call.{Call}
use Rattle.txn_programs.specs.Tree.{Expression, Condition, Statement, Statements, Transaction}
use Rattle.txn_programs.specs.Tree as t
use Rattle.txn_programs.specs.Listing.{Listing, spans, conditions}
use Rattle.txn_programs.specs.Names.{knows_expression, knows_condition, knows_standing, knows_statement, knows_statements, knows_transaction, is_callable}
use Rattle.txn.specs.Ids.{ids_hold}
use Rattle.text_words.specs.Answers.{◌>>=◌}
use Rattle.text_words.specs.Numbers.{number_of, count_of}
use Rattle.text_words.specs.declared.fault.ReadFault.{ReadFault}
use Rattle.text_words.proofs.Steps.{bind_ok, ok_is, done, chosen}
use Rattle.text_grammar.specs.Tree.{Expr, Cond, Stmt, Stmts, NoStmts, MoreStmts, Always, Declaration, Run, File}
use Rattle.text_grammar.specs.Scope.{Scope, inside}
use Rattle.text_grammar.specs.Written.{scope_of}
use Rattle.text_grammar.specs.Tree as f
use Rattle.text_grammar.specs.Resolving.{is_known, place_in, table_in, variable_in, parameter_in, binary, compare, connect, expression_in, condition_in, statement_in, statements_in, each, always_in, transaction_in, run_in, run_known, tx_name, uses_known, resolved}
use Rattle.text_grammar.specs.declared.words.Operator.{Operator}
use Rattle.text_grammar.specs.declared.words.Operator.TheVariants as operator
use Rattle.text_grammar.specs.declared.words.Comparison.{Comparison}
use Rattle.text_grammar.specs.declared.words.Comparison.TheVariants as comparison
use Rattle.text_grammar.specs.declared.words.Connective.{Connective}
use Rattle.text_grammar.specs.declared.words.Connective.TheVariants as connective
use Rattle.text_file_reader.specs.Resolved.{parameters_of, is_wanted}
use Rattle.text_file_reader.proofs.Declared.{both, resolved_is}
use Rattle.text_file_reader.proofs.Spans.{spans_of_all, table_knows}
use Rattle.text_file_reader.proofs.Back.{both_true, declared_parameters, Head, by_heads, kept, converted_parts}
use Rattle.text_file_reader.proofs.Calls.{all_wanted, place_below, run_wanted}

variable_below : (names : List (List ℕ)) (name : List ℕ) (x : VarId) → variable_in names name ≡ Ok x → nat_lt x.0 (length names) ≡ true
unfolding variable_in
variable_below names name x h =
    let i = bind_ok (place_in names name) _ x h in
    let made : VarId = record { 0 = i.0 } in
    subst (λ (y : VarId). nat_lt y.0 (length names) ≡ true) (ok_is made x i.2) (place_below names name i.0 i.1)

parameter_below : (names : List (List ℕ)) (name : List ℕ) (p : ParamId) → parameter_in names name ≡ Ok p → nat_lt p.0 (length names) ≡ true
unfolding parameter_in
parameter_below names name p h =
    let i = bind_ok (place_in names name) _ p h in
    let made : ParamId = record { 0 = i.0 } in
    subst (λ (y : ParamId). nat_lt y.0 (length names) ≡ true) (ok_is made p i.2) (place_below names name i.0 i.1)

-- each table has its cells
abbrev Spanned : Scope → Type 0
Spanned s = length s.spans ≡ length s.tables

abbrev Known : {A : Type 0} → (A → Bool) → A → Type 0
Known knows x = knows x ≡ true

binary_knows : (n : ℕ) (ts : List Span) (k : ℕ) (op : Operator) (a b : Expression) → Known (knows_expression n ts k) a → Known (knows_expression n ts k) b → Known (knows_expression n ts k) (binary op a b)
binary_knows n ts k operator.Add a b p q = both_true _ _ p q
binary_knows n ts k operator.Sub a b p q = both_true _ _ p q
binary_knows n ts k operator.Mul a b p q = both_true _ _ p q
binary_knows n ts k operator.Div a b p q = both_true _ _ p q
binary_knows n ts k operator.Rem a b p q = both_true _ _ p q

expression_knows : (s : Scope) → Spanned s → (e : Expr) (x : Expression) → expression_in s e ≡ Ok x → Known (knows_expression (length s.variables) s.spans (length s.parameters)) x
expression_knows s spanned (f.Int value) x h =
    let v = bind_ok (number_of value) _ x h in
    subst (Known (knows_expression (length s.variables) s.spans (length s.parameters))) (ok_is (t.Int v.0) x v.2) refl
expression_knows s spanned (f.Name name) x h =
    elim (chosen (is_known s.parameters name) (parameter_in s.parameters name >>= λ p. done (t.Param p)) (variable_in s.variables name >>= λ v. done (t.Var v)) (Ok x) h) [
      | inl q ↦
          let v = bind_ok (parameter_in s.parameters name) _ x q.1 in
          subst (Known (knows_expression (length s.variables) s.spans (length s.parameters))) (ok_is (t.Param v.0) x v.2) (parameter_below s.parameters name v.0 v.1)
      | inr q ↦
          let v = bind_ok (variable_in s.variables name) _ x q.1 in
          subst (Known (knows_expression (length s.variables) s.spans (length s.parameters))) (ok_is (t.Var v.0) x v.2) (variable_below s.variables name v.0 v.1)
    ]
expression_knows s spanned (f.At table index) x h =
    let u = bind_ok (table_in s table) _ x h in
    let a = bind_ok (expression_in s index) _ x u.2 in
    subst (Known (knows_expression (length s.variables) s.spans (length s.parameters))) (ok_is (t.Cell u.0 a.0) x a.2) (both_true _ _ (table_knows s table u.0 spanned u.1) (expression_knows s spanned index a.0 a.1))
expression_knows s spanned (f.OfAll fold table) x h =
    let u = bind_ok (table_in s table) _ x h in
    subst (Known (knows_expression (length s.variables) s.spans (length s.parameters))) (ok_is (t.OfAll fold u.0) x u.2) (table_knows s table u.0 spanned u.1)
expression_knows s spanned (f.Binary op left right) x h =
    let a = bind_ok (expression_in s left) _ x h in
    let b = bind_ok (expression_in s right) _ x a.2 in
    subst (Known (knows_expression (length s.variables) s.spans (length s.parameters))) (ok_is (binary op a.0 b.0) x b.2) (binary_knows (length s.variables) s.spans (length s.parameters) op a.0 b.0 (expression_knows s spanned left a.0 a.1) (expression_knows s spanned right b.0 b.1))

compare_knows : (n : ℕ) (ts : List Span) (k : ℕ) (op : Comparison) (a b : Expression) → Known (knows_expression n ts k) a → Known (knows_expression n ts k) b → Known (knows_condition n ts k) (compare op a b)
compare_knows n ts k comparison.Eq a b p q = both_true _ _ p q
compare_knows n ts k comparison.Lt a b p q = both_true _ _ p q
compare_knows n ts k comparison.Le a b p q = both_true _ _ p q

connect_knows : (n : ℕ) (ts : List Span) (k : ℕ) (op : Connective) (c d : Condition) → Known (knows_condition n ts k) c → Known (knows_condition n ts k) d → Known (knows_condition n ts k) (connect op c d)
connect_knows n ts k connective.And c d p q = both_true _ _ p q
connect_knows n ts k connective.Or c d p q = both_true _ _ p q

condition_knows : (s : Scope) → Spanned s → (c : Cond) (x : Condition) → condition_in s c ≡ Ok x → Known (knows_condition (length s.variables) s.spans (length s.parameters)) x
condition_knows s spanned (f.Compare op left right) x h =
    let a = bind_ok (expression_in s left) _ x h in
    let b = bind_ok (expression_in s right) _ x a.2 in
    subst (Known (knows_condition (length s.variables) s.spans (length s.parameters))) (ok_is (compare op a.0 b.0) x b.2) (compare_knows (length s.variables) s.spans (length s.parameters) op a.0 b.0 (expression_knows s spanned left a.0 a.1) (expression_knows s spanned right b.0 b.1))
condition_knows s spanned (f.Not inner) x h =
    let a = bind_ok (condition_in s inner) _ x h in
    subst (Known (knows_condition (length s.variables) s.spans (length s.parameters))) (ok_is (t.Not a.0) x a.2) (condition_knows s spanned inner a.0 a.1)
condition_knows s spanned (f.Connect op left right) x h =
    let a = bind_ok (condition_in s left) _ x h in
    let b = bind_ok (condition_in s right) _ x a.2 in
    subst (Known (knows_condition (length s.variables) s.spans (length s.parameters))) (ok_is (connect op a.0 b.0) x b.2) (connect_knows (length s.variables) s.spans (length s.parameters) op a.0 b.0 (condition_knows s spanned left a.0 a.1) (condition_knows s spanned right b.0 b.1))

abbrev StatementKnown : Scope → Statement → Type 0
StatementKnown s x = Known (knows_statement (length s.variables) s.spans (length s.parameters)) x

mutual
  statement_knows : (s : Scope) → Spanned s → (p : Stmt) (x : Statement) → statement_in s p ≡ Ok x → StatementKnown s x
  statement_knows s spanned f.Skip x h = subst (StatementKnown s) (ok_is t.Skip x h) refl
  statement_knows s spanned (f.Set name value) x h =
      let v = bind_ok (variable_in s.variables name) _ x h in
      let a = bind_ok (expression_in s value) _ x v.2 in
      subst (StatementKnown s) (ok_is (t.Set v.0 a.0) x a.2) (both_true _ _ (variable_below s.variables name v.0 v.1) (expression_knows s spanned value a.0 a.1))
  statement_knows s spanned (f.Put table index value) x h =
      let u = bind_ok (table_in s table) _ x h in
      let a = bind_ok (expression_in s index) _ x u.2 in
      let b = bind_ok (expression_in s value) _ x a.2 in
      subst (StatementKnown s) (ok_is (t.Put u.0 a.0 b.0) x b.2) (both_true _ _ (table_knows s table u.0 spanned u.1) (both_true _ _ (expression_knows s spanned index a.0 a.1) (expression_knows s spanned value b.0 b.1)))
  statement_knows s spanned (f.Seq parts) x h =
      let a = bind_ok (statements_in s parts) _ x h in
      subst (StatementKnown s) (ok_is (t.Seq a.0) x a.2) (statements_know s spanned parts a.0 a.1)
  statement_knows s spanned (f.If test first second) x h =
      let c = bind_ok (condition_in s test) _ x h in
      let a = bind_ok (statement_in s first) _ x c.2 in
      let b = bind_ok (statement_in s second) _ x a.2 in
      subst (StatementKnown s) (ok_is (t.If c.0 a.0 b.0) x b.2) (both_true _ _ (condition_knows s spanned test c.0 c.1) (both_true _ _ (statement_knows s spanned first a.0 a.1) (statement_knows s spanned second b.0 b.1)))
  statement_knows s spanned (f.Repeat count body) x h =
      let n = bind_ok (count_of count) _ x h in
      let a = bind_ok (statement_in s body) _ x n.2 in
      subst (StatementKnown s) (ok_is (t.Repeat n.0 a.0) x a.2) (statement_knows s spanned body a.0 a.1)
  statement_knows s spanned f.Retry x h = subst (StatementKnown s) (ok_is t.Retry x h) refl
  statement_knows s spanned (f.OrElse first second) x h =
      let a = bind_ok (statement_in s first) _ x h in
      let b = bind_ok (statement_in s second) _ x a.2 in
      subst (StatementKnown s) (ok_is (t.OrElse a.0 b.0) x b.2) (both_true _ _ (statement_knows s spanned first a.0 a.1) (statement_knows s spanned second b.0 b.1))
  statement_knows s spanned (f.Throw value) x h =
      let a = bind_ok (expression_in s value) _ x h in
      subst (StatementKnown s) (ok_is (t.Throw a.0) x a.2) (expression_knows s spanned value a.0 a.1)
  statement_knows s spanned (f.Call name arguments) x h = absurd cc

  statements_know : (s : Scope) → Spanned s → (ss : Stmts) (x : Statements) → statements_in s ss ≡ Ok x → Known (knows_statements (length s.variables) s.spans (length s.parameters)) x
  statements_know s spanned NoStmts x h = subst (Known (knows_statements (length s.variables) s.spans (length s.parameters))) (ok_is t.End x h) refl
  statements_know s spanned (MoreStmts first others) x h =
      let a = bind_ok (statement_in s first) _ x h in
      let b = bind_ok (statements_in s others) _ x a.2 in
      subst (Known (knows_statements (length s.variables) s.spans (length s.parameters))) (ok_is (t.More a.0 b.0) x b.2) (both_true _ _ (statement_knows s spanned first a.0 a.1) (statements_know s spanned others b.0 b.1))

always_knows : (l : Listing) (a : Always) (x : List ℕ × Condition) → always_in (scope_of l) a ≡ Ok x → Known (λ (y : List ℕ × Condition). knows_standing (length l.names) (spans l) y.1) x
always_knows l a x h =
    let c = bind_ok (condition_in (scope_of l) a.condition) _ x h in
    let made : List ℕ × Condition = (a.name, c.0) in
    subst (Known (λ (y : List ℕ × Condition). knows_standing (length l.names) (spans l) y.1)) (ok_is made x c.2) (condition_knows (scope_of l) (spans_of_all l) a.condition c.0 c.1)

transaction_knows : (outer : Scope) → Spanned outer → (d : Declaration) (x : Transaction) → transaction_in outer d ≡ Ok x → Known (knows_transaction (length outer.variables) outer.spans) x
transaction_knows outer spanned d x h =
    let s = inside outer d.parameters in
    let a = bind_ok (statement_in s d.body) _ x h in
    let b = bind_ok (expression_in s d.value) _ x a.2 in
    let made : Transaction = record { name = d.name; parameters = d.parameters; body = a.0; result = b.0 } in
    subst (Known (knows_transaction (length outer.variables) outer.spans)) (ok_is made x b.2) (both_true _ _ (statement_knows s spanned d.body a.0 a.1) (expression_knows s spanned d.value b.0 b.1))

-- ---- lists

each_knows : {A B : Type 0} (one : A → Result B ReadFault) (knows : B → Bool) → ((a : A) (b : B) → one a ≡ Ok b → Known knows b) → (xs : List A) (ys : List B) → each one xs ≡ Ok ys → list_all knows ys ≡ true
each_knows one knows law [] ys h = subst (λ zs. list_all knows zs ≡ true) (ok_is [] ys h) refl
each_knows one knows law (x ∷ xs) ys h =
    let a = bind_ok (one x) _ ys h in
    let b = bind_ok (each one xs) _ ys a.2 in
    subst (λ zs. list_all knows zs ≡ true) (ok_is (a.0 ∷ b.0) ys b.2) (both_true _ _ (law x a.0 a.1) (each_knows one knows law xs b.0 b.1))

-- the same of items that are good
good_knows : {A B : Type 0} (one : A → Result B ReadFault) (good : A → Bool) (knows : B → Bool) → ((a : A) (b : B) → good a ≡ true → one a ≡ Ok b → Known knows b)
    → (xs : List A) (ys : List B) → list_all good xs ≡ true → each one xs ≡ Ok ys → list_all knows ys ≡ true
good_knows one good knows law [] ys g h = subst (λ zs. list_all knows zs ≡ true) (ok_is [] ys h) refl
good_knows one good knows law (x ∷ xs) ys g h =
    let p = both _ _ g in
    let a = bind_ok (one x) _ ys h in
    let b = bind_ok (each one xs) _ ys a.2 in
    subst (λ zs. list_all knows zs ≡ true) (ok_is (a.0 ∷ b.0) ys b.2) (both_true _ _ (law x a.0 p.0 a.1) (good_knows one good knows law xs b.0 p.1 b.1))

-- ---- the whole file

pub resolved_holds : (file : File) (l : Listing) → resolved file ≡ Ok l → ids_hold l ≡ true
unfolding ids_hold uses_known
resolved_holds file l h =
    let r = resolved_is file l h in
    let c = converted_parts file l r.is_converted in
    let txs = map tx_name file.txs in
    let runs_known = (both _ _ (both _ _ r.used).1).1 in
    let parameters : map declared_parameters file.txs ≡ map parameters_of l.transactions = sym (by_heads (λ (g : Head). g.1) l.transactions file.txs (kept file l c).heads) in
    let known : list_all (knows_standing (length l.names) (spans l)) (conditions l) ≡ true =
    list_all-map (knows_standing (length l.names) (spans l)) (λ (w : List ℕ × Condition). w.1) l.always
    ∙ each_knows (always_in (scope_of l)) (λ (w : List ℕ × Condition). knows_standing (length l.names) (spans l) w.1) (always_knows l) file.always l.always c.always_are in
    let known_txs : list_all (knows_transaction (length l.names) (spans l)) l.transactions ≡ true =
    each_knows (transaction_in (scope_of l)) (knows_transaction (length l.names) (spans l)) (transaction_knows (scope_of l) (spans_of_all l)) file.txs l.transactions c.txs_are in
    let calls : List Call = map (λ (run : Call × ℕ). run.0) l.runs in
    let wanted : list_all (is_wanted (map declared_parameters file.txs)) calls ≡ true =
    list_all-map (is_wanted (map declared_parameters file.txs)) (λ (run : Call × ℕ). run.0) l.runs
    ∙ good_knows (run_in txs) (run_known file.txs) (λ (run : Call × ℕ). is_wanted (map declared_parameters file.txs) run.0) (λ b x g e. run_wanted file.txs b x g e) file.runs l.runs runs_known c.runs_are in
    let known_runs : list_all (is_callable l) calls ≡ true = sym (all_wanted l calls) ∙ subst (λ (ps : List (List (List ℕ))). list_all (is_wanted ps) calls ≡ true) parameters wanted in
    rw (known, known_txs, known_runs) refl

pub ids_of_parts : (r : Result File ReadFault) (l : Listing) → (r >>= λ file. resolved file) ≡ Ok l → ids_hold l ≡ true
ids_of_parts r l h = let file = bind_ok r _ l h in resolved_holds file.0 l file.2
