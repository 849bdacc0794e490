-- The conditions and transactions of a catalogue name only its variables and tables and their own parameters, and its runs only its transactions.
use Rattle.std.proofs.Common.{◌≡◌, ◌∙◌, ℕ, Bool, true, ◌&&◌, List, length, Some, sym}
use Rattle.std.specs.List.{slice_get}
use Rattle.std.proofs.lemmas.Bool.{and_parts, ltb-true, eqb-true}
use Rattle.std.proofs.lemmas.List.Folds.{list_all-map}
use Rattle.txn_programs.specs.declared.arguments.Call.{Call}
use Rattle.txn_programs.specs.Tree.{Expression, Condition, Statement, Statements, Transaction}
use Rattle.txn_programs.specs.Tree as t
use Rattle.txn_programs.specs.Listing.{Listing, spans, IsCallable}
use Rattle.txn_programs.specs.Names.{names_hold, is_callable, knows_table, knows_expression, knows_condition, knows_standing, knows_statement, knows_statements, knows_transaction}
use Rattle.txn_programs.proofs.Lawful.{names_parts, passes_at}
use Rattle.text_grammar.specs.Scope.{Scope, inside}
use Rattle.text_grammar.specs.Written.{scope_of}
use Rattle.text_file_printer.specs.Named.{ExpressionNamed, ConditionNamed, StatementNamed, StatementsNamed}

-- ---- what is known is named

known_both : {A B : Type 0} (a b : Bool) → (a ≡ true → A) → (b ≡ true → B) → (a && b) ≡ true → A × B
known_both a b f g h = let p = and_parts a b h in (f p.0, g p.1)

expression : (s : Scope) (e : Expression) → knows_expression (length s.variables) s.spans (length s.parameters) e ≡ true → ExpressionNamed s e
expression s (t.Int v) h = tt
expression s (t.Var x) h = ltb-true _ _ h
expression s (t.Param p) h = ltb-true _ _ h
expression s (t.Cell tb a) h = known_both _ _ (λ k. k) (expression s a) h
expression s (t.OfAll f tb) h = h
expression s (t.Add a b) h = known_both _ _ (expression s a) (expression s b) h
expression s (t.Sub a b) h = known_both _ _ (expression s a) (expression s b) h
expression s (t.Mul a b) h = known_both _ _ (expression s a) (expression s b) h
expression s (t.Div a b) h = known_both _ _ (expression s a) (expression s b) h
expression s (t.Rem a b) h = known_both _ _ (expression s a) (expression s b) h

condition : (s : Scope) (c : Condition) → knows_condition (length s.variables) s.spans (length s.parameters) c ≡ true → ConditionNamed s c
condition s (t.Eq a b) h = known_both _ _ (expression s a) (expression s b) h
condition s (t.Lt a b) h = known_both _ _ (expression s a) (expression s b) h
condition s (t.Le a b) h = known_both _ _ (expression s a) (expression s b) h
condition s (t.Not c) h = condition s c h
condition s (t.And c d) h = known_both _ _ (condition s c) (condition s d) h
condition s (t.Or c d) h = known_both _ _ (condition s c) (condition s d) h

mutual
  statement : (s : Scope) (p : Statement) → knows_statement (length s.variables) s.spans (length s.parameters) p ≡ true → StatementNamed s p
  statement s t.Skip h = tt
  statement s (t.Set x e) h = known_both _ _ (ltb-true _ _) (expression s e) h
  statement s (t.Put tb a b) h =
      let k = and_parts (knows_table s.spans tb) _ h in
      let l = and_parts (knows_expression _ s.spans _ a) _ k.1 in
      (k.0, expression s a l.0, expression s b l.1)
  statement s (t.Seq parts) h = statements s parts h
  statement s (t.If c p q) h =
      let a = and_parts (knows_condition _ s.spans _ c) _ h in
      let b = and_parts (knows_statement _ s.spans _ p) _ a.1 in
      (condition s c a.0, statement s p b.0, statement s q b.1)
  statement s (t.Repeat n p) h = statement s p h
  statement s t.Retry h = tt
  statement s (t.OrElse p q) h = known_both _ _ (statement s p) (statement s q) h
  statement s (t.Throw e) h = expression s e h

  statements : (s : Scope) (ps : Statements) → knows_statements (length s.variables) s.spans (length s.parameters) ps ≡ true → StatementsNamed s ps
  statements s t.End h = tt
  statements s (t.More p rest) h = known_both _ _ (statement s p) (statements s rest) h

-- each condition of the listing
pub condition_named_at : (l : Listing) (i : ℕ) (a : List ℕ × Condition) → names_hold l ≡ true → slice_get l.always i ≡ Some a → ConditionNamed (scope_of l) a.1
condition_named_at l i a h e =
    let knows = knows_standing (length l.names) (spans l) in
    let all = sym (list_all-map knows (λ (b : List ℕ × Condition). b.1) l.always) ∙ (names_parts l h).always_known in
    condition (scope_of l) a.1 (passes_at (λ (b : List ℕ × Condition). knows b.1) l.always i a all e)

-- what a transaction names
pub record IsNamed (s : Scope) (p : Transaction) : Type 0 where
  pub body : StatementNamed (inside s p.parameters) p.body
  pub value : ExpressionNamed (inside s p.parameters) p.result

-- each transaction of the listing
pub transaction_named_at : (l : Listing) (i : ℕ) (p : Transaction) → names_hold l ≡ true → slice_get l.transactions i ≡ Some p → IsNamed (scope_of l) p
transaction_named_at l i p h e =
    let s = inside (scope_of l) p.parameters in
    let known = and_parts _ _ (passes_at (knows_transaction (length l.names) (spans l)) l.transactions i p (names_parts l h).known e) in
    record { body = statement s p.body known.0; value = expression s p.result known.1 }

-- the call of each run
pub run_callable : (l : Listing) (i : ℕ) (run : Call × ℕ) → names_hold l ≡ true → slice_get l.runs i ≡ Some run → IsCallable l run.0.tx run.0.arguments
run_callable l i run h e =
    let all = sym (list_all-map (is_callable l) (λ (run : Call × ℕ). run.0) l.runs) ∙ (names_parts l h).runs in
    let b = and_parts _ _ (passes_at (λ (run : Call × ℕ). is_callable l run.0) l.runs i run all e) in
    record { declared = ltb-true _ _ b.0; each = eqb-true _ _ b.1 }
