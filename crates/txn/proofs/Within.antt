-- What a catalogue's programs name is within the most values of a state.
use Rattle.std.proofs.Common.{◌≡◌, ℕ, zero, suc, ◌<◌, ◌≤◌, true, List, [], ◌∷◌, length, map, ℤ, Some, refl, sym, ◌∙◌, ap, subst, arith, String, Global}
use Rattle.std.specs.List.{All, slice_get, slice_index_or}
use Rattle.txn_programs.specs.declared.ast.Cond.{Cond}
use Rattle.txn_programs.specs.declared.ast.Table.{Table}
use Rattle.txn_programs.specs.declared.ast.Tx.{Tx}
use Rattle.txn_programs.specs.declared.arguments.Call.{Call}
use Rattle.txn_programs.specs.Tree.{Expression, Int, Var, Param, Cell, OfAll, Add, Sub, Mul, Div, Rem, Condition, Eq, Lt, Le, Not, And, Or, Statement, Skip, Set, Put, Seq, If, Repeat, Retry, OrElse, Throw, Statements, End, More, Transaction, transaction_of, statement_of, expression_of}
use Rattle.txn_programs.specs.Scope.{ExpressionKnown, ConditionKnown, StatementKnown, StatementsKnown, ConditionsKnown}
use Rattle.txn_programs.specs.Instance.{instance_expression, instance_statement}
use Rattle.txn_programs.specs.Listing.{Listing, listing_of, conditions, values}
use Rattle.txn_programs.specs.Names.{names_hold}
use Rattle.txn_programs.specs.Limits.{most_values, limits_hold}
use Rattle.txn_programs.proofs.Lawful.{limits_parts, known_given, standing_known}
use Rattle.txn_evaluator.specs.Always.{conditions_of}
use Rattle.txn.proofs.Building.{conditions_are}

-- what is known among n values is known among more
module _ (n m : ℕ) (le : n ≤ m) where
  expression_in : (e : Expression) → ExpressionKnown n e → ExpressionKnown m e
  expression_in (Int v) k = tt
  expression_in (Var x) k = omega (arith, k, le)
  expression_in (Param p) k = absurd k
  expression_in (Cell t a) k = (omega (arith, k.0, le), expression_in a k.1)
  expression_in (OfAll f t) k = omega (arith, k, le)
  expression_in (Add a b) k = (expression_in a k.0, expression_in b k.1)
  expression_in (Sub a b) k = (expression_in a k.0, expression_in b k.1)
  expression_in (Mul a b) k = (expression_in a k.0, expression_in b k.1)
  expression_in (Div a b) k = (expression_in a k.0, expression_in b k.1)
  expression_in (Rem a b) k = (expression_in a k.0, expression_in b k.1)

  condition_in : (c : Condition) → ConditionKnown n c → ConditionKnown m c
  condition_in (Eq a b) k = (expression_in a k.0, expression_in b k.1)
  condition_in (Lt a b) k = (expression_in a k.0, expression_in b k.1)
  condition_in (Le a b) k = (expression_in a k.0, expression_in b k.1)
  condition_in (Not c) k = condition_in c k
  condition_in (And a b) k = (condition_in a k.0, condition_in b k.1)
  condition_in (Or a b) k = (condition_in a k.0, condition_in b k.1)

  conditions_in : (cs : List Condition) → ConditionsKnown n cs → ConditionsKnown m cs
  conditions_in [] k = tt
  conditions_in (c ∷ cs) k = (condition_in c k.0, conditions_in cs k.1)

  mutual
    statement_in : (s : Statement) → StatementKnown n s → StatementKnown m s
    statement_in Skip k = tt
    statement_in (Set x e) k = (omega (arith, k.0, le), expression_in e k.1)
    statement_in (Put t a b) k = (omega (arith, k.0, le), (expression_in a k.1.0, expression_in b k.1.1))
    statement_in (Seq parts) k = statements_in parts k
    statement_in (If c a b) k = (condition_in c k.0, statement_in a k.1, statement_in b k.2)
    statement_in (Repeat times s) k = statement_in s k
    statement_in Retry k = tt
    statement_in (OrElse a b) k = (statement_in a k.0, statement_in b k.1)
    statement_in (Throw e) k = expression_in e k

    statements_in : (s : Statements) → StatementsKnown n s → StatementsKnown m s
    statements_in End k = tt
    statements_in (More s rest) k = (statement_in s k.0, statements_in rest k.1)

abbrev IsWithin : Transaction → Type 0
IsWithin t = StatementKnown most_values (instance_statement [] t.body) × ExpressionKnown most_values (instance_expression [] t.result)

at_map : (txs : List Tx) (k : ℕ) (d : Tx) → k < length txs → slice_get (map transaction_of txs) k ≡ Some (transaction_of (slice_index_or txs k d))
at_map [] k d lt = absurd (omega (arith, lt))
at_map (tx ∷ txs) zero d lt = refl
at_map (tx ∷ txs) (suc k) d lt = at_map txs k d (omega (arith, lt))

all_within : (txs : List Tx) → ((i : ℕ) (t : Transaction) → slice_get (map transaction_of txs) i ≡ Some t → IsWithin t) → All (λ tx. IsWithin (transaction_of tx)) txs
all_within txs h k d lt = h k (transaction_of (slice_index_or txs k d)) (at_map txs k d lt)

-- what `build` is given, and what it lends of it
module _ (vars : List (String Global × ℤ)) (tables : List Table) (always always' : List (String Global × Cond)) (txs txs' : List Tx) (runs : List (Call × ℕ)) (e : always' ≡ always) (f : txs' ≡ txs) where
  abbrev given : Listing
  given = listing_of vars tables always txs runs

  few : limits_hold given ≡ true → values given ≤ most_values
  few h = omega (arith, (limits_parts given h).variables, (limits_parts given h).cells)

  pub values_named : names_hold given ≡ true → limits_hold given ≡ true → All (λ (tx : Tx). StatementKnown most_values (instance_statement [] (statement_of tx.body)) × ExpressionKnown most_values (instance_expression [] (expression_of tx.result))) txs'
  values_named h l =
      let n = values given in
      let known : (i : ℕ) (t : Transaction) → slice_get (map transaction_of txs) i ≡ Some t → IsWithin t =
      λ i t at. let k = known_given given i t [] h at in (
        statement_in n most_values (few l) (instance_statement [] t.body) k.0,
        expression_in n most_values (few l) (instance_expression [] t.result) k.1.0,
      ) in
      subst (All (λ (tx : Tx). IsWithin (transaction_of tx))) (sym f) (all_within txs known)

  pub values_standing : names_hold given ≡ true → limits_hold given ≡ true → ConditionsKnown most_values (conditions_of always')
  values_standing h l =
      let same : conditions given ≡ conditions_of always' = conditions_are vars tables always txs runs ∙ sym (ap conditions_of e) in
      subst (ConditionsKnown most_values) same (conditions_in (values given) most_values (few l) (conditions given) (standing_known given h))
