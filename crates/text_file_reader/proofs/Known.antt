-- What is resolved uses declared names alone.
use Rattle.std.proofs.Common.{◌≡◌, ℕ, Bool, true, List, [], ◌∷◌, length, map, Result, Ok, Err, refl, sym, ap, subst, ◌∙◌, inl, inr}
use Rattle.std.specs.List.{slice_index_or, list_all}
use Rattle.std.proofs.lemmas.Bool.{eqb-true, eq-eqb}
use Rattle.txn_programs.specs.declared.ast.VarId.{VarId}
use Rattle.txn_programs.specs.declared.arguments.Call.{Call}
use Rattle.txn_programs.specs.Names.{are_new}
use Rattle.txn_programs.specs.Tree.{Expression, Condition, Statement, Statements, Transaction}
use Rattle.txn_programs.specs.Tree as t
use Rattle.text_words.specs.declared.fault.ReadFault.{ReadFault}
use Rattle.text_words.specs.declared.fault.ReadFault.TheVariants.{Name}
use Rattle.text_words.specs.Answers.{◌>>=◌}
use Rattle.text_words.specs.Numbers.{count_of}
use Rattle.text_words.proofs.Steps.{bind_ok, ok_is, done, chosen}
use Rattle.text_grammar.specs.Tree.{Expr, Cond, Stmt, Stmts, NoStmts, MoreStmts, Always, Declaration, Run, File}
use Rattle.text_grammar.specs.Tree as f
use Rattle.text_grammar.specs.Scope.{Scope, inside}
use Rattle.text_grammar.specs.Resolving.{is_known, expr_known, cond_known, stmt_known, stmts_known, always_known, tx_known, tx_name, has_parameters, run_known, uses_known, place_in, table_in, variable_in, parameter_in, expression_in, condition_in, statement_in, statements_in, each, always_in, transaction_in, arguments_in, call_at, run_in}
use Rattle.text_file_reader.specs.Resolved.{own_transaction_in, parameters_of, is_wanted}
use Rattle.text_file_reader.proofs.Declared.{both, place_found}
use Rattle.text_file_reader.proofs.Spans.{names_alone, table_known}
use Rattle.text_file_reader.proofs.Back.{both_true, arguments_back, declared_parameters, Head, heads_kept, by_heads}

place_known : (names : List (List ℕ)) (name : List ℕ) (n : ℕ) → place_in names name ≡ Ok n → is_known names name ≡ true
place_known names name n h = rw (place_found names name n h) refl

variable_known : (names : List (List ℕ)) (name : List ℕ) (x : VarId) → variable_in names name ≡ Ok x → is_known names name ≡ true
unfolding variable_in
variable_known names name x h = let p = bind_ok (place_in names name) _ x h in place_known names name p.0 p.1

expression_known : (s : Scope) (e : Expr) (x : Expression) → expression_in s e ≡ Ok x → expr_known (names_alone s) e ≡ true
expression_known s (f.Int value) x h = refl
expression_known s (f.Name name) x h =
    elim (chosen (is_known s.parameters name) (parameter_in s.parameters name >>= λ p. done (t.Param p)) (variable_in s.variables name >>= λ v. done (t.Var v)) (Ok x) h) [
      | inl q ↦ rw q.0 refl
      | inr q ↦ let v = bind_ok (variable_in s.variables name) _ x q.1 in rw (q.0, variable_known s.variables name v.0 v.1) refl
    ]
expression_known s (f.At table index) x h =
    let u = bind_ok (table_in s table) _ x h in
    let a = bind_ok (expression_in s index) _ x u.2 in
    both_true _ _ (table_known s table u.0 u.1) (expression_known s index a.0 a.1)
expression_known s (f.OfAll fold table) x h = let u = bind_ok (table_in s table) _ x h in table_known s table u.0 u.1
expression_known s (f.Binary op left right) x h =
    let a = bind_ok (expression_in s left) _ x h in
    let b = bind_ok (expression_in s right) _ x a.2 in
    both_true _ _ (expression_known s left a.0 a.1) (expression_known s right b.0 b.1)

condition_known : (s : Scope) (c : Cond) (x : Condition) → condition_in s c ≡ Ok x → cond_known (names_alone s) c ≡ true
condition_known s (f.Compare op left right) x h =
    let a = bind_ok (expression_in s left) _ x h in
    let b = bind_ok (expression_in s right) _ x a.2 in
    both_true _ _ (expression_known s left a.0 a.1) (expression_known s right b.0 b.1)
condition_known s (f.Not inner) x h = let a = bind_ok (condition_in s inner) _ x h in condition_known s inner a.0 a.1
condition_known s (f.Connect op left right) x h =
    let a = bind_ok (condition_in s left) _ x h in
    let b = bind_ok (condition_in s right) _ x a.2 in
    both_true _ _ (condition_known s left a.0 a.1) (condition_known s right b.0 b.1)

mutual
  statement_known : (s : Scope) (p : Stmt) (x : Statement) → statement_in s p ≡ Ok x → stmt_known (names_alone s) p ≡ true
  statement_known s f.Skip x h = refl
  statement_known s (f.Set name value) x h =
      let v = bind_ok (variable_in s.variables name) _ x h in
      let a = bind_ok (expression_in s value) _ x v.2 in
      both_true _ _ (variable_known s.variables name v.0 v.1) (expression_known s value a.0 a.1)
  statement_known s (f.Put table index value) x h =
      let u = bind_ok (table_in s table) _ x h in
      let a = bind_ok (expression_in s index) _ x u.2 in
      let b = bind_ok (expression_in s value) _ x a.2 in
      both_true _ _ (table_known s table u.0 u.1) (both_true _ _ (expression_known s index a.0 a.1) (expression_known s value b.0 b.1))
  statement_known s (f.Seq parts) x h = let a = bind_ok (statements_in s parts) _ x h in statements_known s parts a.0 a.1
  statement_known s (f.If test first second) x h =
      let c = bind_ok (condition_in s test) _ x h in
      let a = bind_ok (statement_in s first) _ x c.2 in
      let b = bind_ok (statement_in s second) _ x a.2 in
      both_true _ _ (condition_known s test c.0 c.1) (both_true _ _ (statement_known s first a.0 a.1) (statement_known s second b.0 b.1))
  statement_known s (f.Repeat count body) x h =
      let n = bind_ok (count_of count) _ x h in
      let a = bind_ok (statement_in s body) _ x n.2 in
      statement_known s body a.0 a.1
  statement_known s f.Retry x h = refl
  statement_known s (f.OrElse first second) x h =
      let a = bind_ok (statement_in s first) _ x h in
      let b = bind_ok (statement_in s second) _ x a.2 in
      both_true _ _ (statement_known s first a.0 a.1) (statement_known s second b.0 b.1)
  statement_known s (f.Throw value) x h = let a = bind_ok (expression_in s value) _ x h in expression_known s value a.0 a.1
  statement_known s (f.Call name arguments) x h = refl

  statements_known : (s : Scope) (ss : Stmts) (xs : Statements) → statements_in s ss ≡ Ok xs → stmts_known (names_alone s) ss ≡ true
  statements_known s NoStmts xs h = refl
  statements_known s (MoreStmts first others) xs h =
      let a = bind_ok (statement_in s first) _ xs h in
      let b = bind_ok (statements_in s others) _ xs a.2 in
      both_true _ _ (statement_known s first a.0 a.1) (statements_known s others b.0 b.1)

always_is_known : (s : Scope) (a : Always) (x : List ℕ × Condition) → always_in s a ≡ Ok x → always_known (names_alone s) a ≡ true
always_is_known s a x h = let c = bind_ok (condition_in s a.condition) _ x h in condition_known s a.condition c.0 c.1

-- a transaction whose parameters are its own
own_parts : (s : Scope) (d : Declaration) (x : Transaction) → own_transaction_in s d ≡ Ok x → (are_new s.variables d.parameters ≡ true) × (transaction_in s d ≡ Ok x)
own_parts s d x h =
    elim (chosen (are_new s.variables d.parameters) (transaction_in s d) (Err Name) (Ok x) h) [
      | inl p ↦ p
      | inr p ↦ absurd (let g = p.1 in cc)
    ]

pub own_transactions : (s : Scope) (ds : List Declaration) (ts : List Transaction) → each (own_transaction_in s) ds ≡ Ok ts → each (transaction_in s) ds ≡ Ok ts
own_transactions s [] ts h = h
own_transactions s (d ∷ ds) ts h =
    let x = bind_ok (own_transaction_in s d) _ ts h in
    let xs = bind_ok (each (own_transaction_in s) ds) _ ts x.2 in
    rw ((own_parts s d x.0 x.1).1, own_transactions s ds xs.0 xs.1) xs.2

tx_is_known : (outer : Scope) (d : Declaration) (x : Transaction) → own_transaction_in outer d ≡ Ok x → tx_known (names_alone outer) d ≡ true
tx_is_known outer d x h =
    let own = own_parts outer d x h in
    let s = inside outer d.parameters in
    let body = bind_ok (statement_in s d.body) _ x own.1 in
    let value = bind_ok (expression_in s d.value) _ x body.2 in
    both_true _ _ own.0 (both_true _ _ (statement_known s d.body body.0 body.1) (expression_known s d.value value.0 value.1))

run_is_known : (txs : List Declaration) (r : Run) (x : Call × ℕ) → run_in (map tx_name txs) r ≡ Ok x → is_wanted (map declared_parameters txs) x.0 ≡ true → run_known txs r ≡ true
run_is_known txs r x h wanted =
    let names = map tx_name txs in
    let i = bind_ok (place_in names r.name) _ x h in
    let n = bind_ok (count_of r.count) _ x i.2 in
    let g = bind_ok (arguments_in r.arguments) _ x n.2 in
    let a = (arguments_back r.arguments g.0 g.1).0 in
    let made : Call × ℕ = (call_at i.0 g.0, n.0) in
    let each : is_wanted (map declared_parameters txs) (call_at i.0 g.0) ≡ true = subst (λ (run : Call × ℕ). is_wanted (map declared_parameters txs) run.0 ≡ true) (sym (ok_is made x g.2)) wanted in
    let as_many : length g.0 ≡ length (slice_index_or (map declared_parameters txs) i.0 []) = eqb-true _ _ (both _ _ each).1 in
    ap (has_parameters txs (length r.arguments)) (place_found names r.name i.0 i.1) ∙ eq-eqb _ _ (sym as_many ∙ ap length a)

all_known : {A B : Type 0} (one : A → Result B ReadFault) (known : A → Bool) → ((x : A) (y : B) → one x ≡ Ok y → known x ≡ true) → (xs : List A) (ys : List B) → each one xs ≡ Ok ys → list_all known xs ≡ true
all_known one known law [] ys h = refl
all_known one known law (x ∷ xs) ys h =
    let y = bind_ok (one x) _ ys h in
    let others = bind_ok (each one xs) _ ys y.2 in
    both_true _ _ (law x y.0 y.1) (all_known one known law xs others.0 others.1)

runs_are_known : (txs : List Declaration) (rs : List Run) (runs : List (Call × ℕ)) → each (run_in (map tx_name txs)) rs ≡ Ok runs → list_all (λ (run : Call × ℕ). is_wanted (map declared_parameters txs) run.0) runs ≡ true
    → list_all (run_known txs) rs ≡ true
runs_are_known txs [] runs h w = refl
runs_are_known txs (r ∷ rs) runs h w =
    let x = bind_ok (run_in (map tx_name txs) r) _ runs h in
    let xs = bind_ok (each (run_in (map tx_name txs)) rs) _ runs x.2 in
    let wanted = both _ _ (subst (λ (all : List (Call × ℕ)). list_all (λ (run : Call × ℕ). is_wanted (map declared_parameters txs) run.0) all ≡ true) (sym (ok_is (x.0 ∷ xs.0) runs xs.2)) w) in
    both_true _ _ (run_is_known txs r x.0 x.1 wanted.0) (runs_are_known txs rs xs.0 xs.1 wanted.1)

pub uses_are_known : (s : Scope) (file : File) (always : List (List ℕ × Condition)) (transactions : List Transaction) (runs : List (Call × ℕ))
    → each (always_in s) file.always ≡ Ok always → each (own_transaction_in s) file.txs ≡ Ok transactions → each (run_in (map tx_name file.txs)) file.runs ≡ Ok runs
    → list_all (λ (run : Call × ℕ). is_wanted (map parameters_of transactions) run.0) runs ≡ true → uses_known (names_alone s) file ≡ true
unfolding uses_known
uses_are_known s file always transactions runs a t r w =
    let kept : map parameters_of transactions ≡ map declared_parameters file.txs = by_heads (λ (h : Head). h.1) transactions file.txs (heads_kept s file.txs transactions (own_transactions s file.txs transactions t)) in
    let wanted = subst (λ (ps : List (List (List ℕ))). list_all (λ (run : Call × ℕ). is_wanted ps run.0) runs ≡ true) kept w in
    both_true _ _ (all_known (always_in s) (always_known (names_alone s)) (always_is_known s) file.always always a)
    (both_true _ _ (all_known (own_transaction_in s) (tx_known (names_alone s)) (tx_is_known s) file.txs transactions t) (runs_are_known file.txs file.runs runs r wanted))
