-- What the rules of a catalogue give of its parts.
use Rattle.std.proofs.Common.{◌≡◌, ℕ, zero, suc, ◌+◌, ◌<◌, ◌≤◌, Bool, true, false, ◌&&◌, ◌||◌, ◌⊎◌, inl, inr, List, [], ◌∷◌, ◌++◌, length, map, sum_by, replicate, Option, Some, None, refl, sym, ◌∙◌, ap, subst, arith, ℤ, String, Global, string_bytes, bytes_eq, nat_lt, nat_le, not, cond, length-append}
use Rattle.std.specs.List.{slice_get, slice_index_or, list_all, position, prefix_len}
use Rattle.std.proofs.lemmas.Bool.{and_parts, and_from, leb-true, ltb-true, eqb-true}
use Rattle.std.proofs.lemmas.List.{length-replicate, length-map}
use Rattle.std.proofs.lemmas.List.Folds.{list_all-append}
use Rattle.std.proofs.lemmas.List.Sums.{sum_by-cons}
use Rattle.std.proofs.lemmas.Option.{same_Some}
use Rattle.txn_programs.specs.declared.arguments.Call.{Call}
use Rattle.txn_programs.specs.declared.ast.TxId.{TxId}
use Rattle.txn_programs.specs.declared.ast.TaskId.{TaskId}
use Rattle.txn_programs.specs.declared.ast.Span.{Span}
use Rattle.txn_programs.specs.Tree.{Expression, Int, Var, Param, Cell, OfAll, Add, Sub, Mul, Div, Rem, Condition, Eq, Lt, Le, Not, And, Or, Statement, Skip, Set, Put, Seq, If, Repeat, Retry, OrElse, Throw, Statements, End, More, Transaction, under}
use Rattle.txn_programs.specs.Listing.{Listing, cells, values, spans, spans_from, table_names, conditions, always_names, calls, calls_of, tasks, task_arguments, call_program, transaction_at, arity, IsCallable}
use Rattle.txn_programs.specs.Instance.{instance, instance_expression, instance_condition, instance_statement, instance_statements}
use Rattle.txn_programs.specs.Names.{names_hold, is_well_formed, is_callable, is_name, are_formed, has_own_parameters, are_distinct, same_span, knows_table, knows_expression, knows_condition, knows_standing, knows_statement, knows_statements, knows_transaction}
use Rattle.txn_programs.specs.Limits.{most_tasks, most_variables, most_conditions, most_transactions, most_parameters, most_tables, most_cells, is_short, names_fit, table_fits, tables_fit, limits_hold, conditions_fit, program_fits}
use Rattle.txn_programs.specs.Scope.{TableKnown, ExpressionKnown, ConditionKnown, StatementKnown, StatementsKnown, ConditionsKnown, ProgramKnown}

none_is : {X : Type 0} {x : X} → Some x ≡ None → ⊥
none_is e = cc

left : (x y : Bool) → (x && y) ≡ true → x ≡ true
left x y h = (and_parts x y h).0

right : (x y : Bool) → (x && y) ≡ true → y ≡ true
right x y h = (and_parts x y h).1

-- the rules on names, one by one
pub record NamesHold (l : Listing) : Type 0 where
  pub forms : list_all is_name l.names ≡ true
  pub distinct : are_distinct l.names ≡ true
  pub table_forms : list_all is_name (table_names l) ≡ true
  pub tables_distinct : are_distinct (table_names l) ≡ true
  pub always_forms : list_all is_name (always_names l) ≡ true
  pub always_distinct : are_distinct (always_names l) ≡ true
  pub tx_forms : list_all are_formed l.transactions ≡ true
  pub tx_distinct : are_distinct (map (λ (t : Transaction). t.name) l.transactions) ≡ true
  pub own_parameters : list_all (has_own_parameters l.names) l.transactions ≡ true
  pub always_known : list_all (knows_standing (length l.names) (spans l)) (conditions l) ≡ true
  pub known : list_all (knows_transaction (length l.names) (spans l)) l.transactions ≡ true
  pub runs : list_all (is_callable l) (map (λ (run : Call × ℕ). run.0) l.runs) ≡ true

pub names_parts : (l : Listing) → names_hold l ≡ true → NamesHold l
unfolding names_hold is_well_formed
names_parts l h =
    let a = list_all is_name l.names in
    let t = list_all is_name (table_names l) in
    let a' = list_all is_name (always_names l) in
    let b = list_all are_formed l.transactions in
    let c' = list_all (knows_standing (length l.names) (spans l)) (conditions l) in
    let c = list_all (knows_transaction (length l.names) (spans l)) l.transactions in
    let d = list_all (is_callable l) (map (λ (run : Call × ℕ). run.0) l.runs) in
    let e = are_distinct l.names in
    let u = are_distinct (table_names l) in
    let e' = are_distinct (always_names l) in
    let f = are_distinct (map (λ (t : Transaction). t.name) l.transactions) in
    let g = list_all (has_own_parameters l.names) l.transactions in
    let h0 = and_parts (is_well_formed l) (e && (u && (e' && (f && g)))) h in
    let h1 = and_parts a (t && (a' && (b && (c' && (c && d))))) h0.0 in
    let ht = and_parts t (a' && (b && (c' && (c && d)))) h1.1 in
    let h2 = and_parts a' (b && (c' && (c && d))) ht.1 in
    let h3 = and_parts b (c' && (c && d)) h2.1 in
    let h4 = and_parts c' (c && d) h3.1 in
    let h5 = and_parts c d h4.1 in
    let h6 = and_parts e (u && (e' && (f && g))) h0.1 in
    let hu = and_parts u (e' && (f && g)) h6.1 in
    let h7 = and_parts e' (f && g) hu.1 in
    let h8 = and_parts f g h7.1 in
    record {
      forms = h1.0;
      distinct = h6.0;
      table_forms = ht.0;
      tables_distinct = hu.0;
      always_forms = h2.0;
      always_distinct = h7.0;
      tx_forms = h3.0;
      tx_distinct = h8.0;
      own_parameters = h8.1;
      always_known = h4.0;
      known = h5.0;
      runs = h5.1;
    }

-- the limits, one by one
pub record LimitsHold (l : Listing) : Type 0 where
  pub variables : length l.names ≤ most_variables
  pub names : list_all is_short l.names ≡ true
  pub tables : length l.tables ≤ most_tables
  pub each_table : list_all table_fits l.tables ≡ true
  pub cells : cells l ≤ most_cells
  pub conditions_few : length l.always ≤ most_conditions
  pub always_names_fit : list_all is_short (always_names l) ≡ true
  pub conditions_fitting : conditions_fit (conditions l) ≡ true
  pub transactions : length l.transactions ≤ most_transactions
  pub tx_names : list_all names_fit l.transactions ≡ true
  pub programs : list_all (λ (t : Transaction). program_fits (under (conditions l) t)) l.transactions ≡ true
  pub runs : list_all (λ (run : Call × ℕ). nat_le run.1 most_tasks) l.runs ≡ true
  pub tasks : sum_by (λ (run : Call × ℕ). run.1) l.runs ≤ most_tasks

pub limits_parts : (l : Listing) → limits_hold l ≡ true → LimitsHold l
unfolding limits_hold
limits_parts l h =
    let a = nat_le (length l.names) most_variables in
    let b = list_all is_short l.names in
    let t = tables_fit l in
    let p = nat_le (length l.always) most_conditions in
    let q = list_all is_short (always_names l) in
    let r = conditions_fit (conditions l) in
    let c = nat_le (length l.transactions) most_transactions in
    let d = list_all names_fit l.transactions in
    let e = list_all (λ (t : Transaction). program_fits (under (conditions l) t)) l.transactions in
    let f = list_all (λ (run : Call × ℕ). nat_le run.1 most_tasks) l.runs in
    let g = nat_le (sum_by (λ (run : Call × ℕ). run.1) l.runs) most_tasks in
    let h1 = and_parts a (b && (t && (p && (q && (r && (c && (d && (e && (f && g))))))))) h in
    let ht = and_parts b (t && (p && (q && (r && (c && (d && (e && (f && g)))))))) h1.1 in
    let h2 = and_parts t (p && (q && (r && (c && (d && (e && (f && g))))))) ht.1 in
    let ts = and_parts (nat_le (length l.tables) most_tables) (list_all table_fits l.tables && nat_le (cells l) most_cells) h2.0 in
    let us = and_parts (list_all table_fits l.tables) (nat_le (cells l) most_cells) ts.1 in
    let h3 = and_parts p (q && (r && (c && (d && (e && (f && g)))))) h2.1 in
    let h4 = and_parts q (r && (c && (d && (e && (f && g))))) h3.1 in
    let h5 = and_parts r (c && (d && (e && (f && g)))) h4.1 in
    let h6 = and_parts c (d && (e && (f && g))) h5.1 in
    let h7 = and_parts d (e && (f && g)) h6.1 in
    let h8 = and_parts e (f && g) h7.1 in
    let h9 = and_parts f g h8.1 in
    record {
      variables = leb-true _ _ h1.0;
      names = ht.0;
      tables = leb-true _ _ ts.0;
      each_table = us.0;
      cells = leb-true _ _ us.1;
      conditions_few = leb-true _ _ h3.0;
      always_names_fit = h4.0;
      conditions_fitting = h5.0;
      transactions = leb-true _ _ h6.0;
      tx_names = h7.0;
      programs = h8.0;
      runs = h9.0;
      tasks = leb-true _ _ h9.1;
    }

-- a run of n is n tasks
length-calls_of : (runs : List (Call × ℕ)) → length (calls_of runs) ≡ sum_by (λ run. run.1) runs
length-calls_of [] = refl
length-calls_of (run ∷ runs) =
    let e = length-append (replicate run.1 run.0) (calls_of runs) in
    let n = length-replicate run.1 run.0 in
    let h = length-calls_of runs in
    let f : length (calls_of (run ∷ runs)) ≡ length (replicate run.1 run.0) + length (calls_of runs) = e in
    let g : run.1 + length (calls_of runs) ≡ run.1 + sum_by (λ (run : Call × ℕ). run.1) runs = ap (λ k. run.1 + k) h in
    f ∙ ap (λ k. k + length (calls_of runs)) n ∙ g ∙ sym (sum_by-cons (λ (run : Call × ℕ). run.1) run runs)

pub length-tasks : (l : Listing) → length (tasks l) ≡ sum_by (λ run. run.1) l.runs
length-tasks l = length-map (calls l) (λ (c : Call). c.tx) ∙ length-calls_of l.runs

pub few_tasks : (l : Listing) → limits_hold l ≡ true → length (tasks l) ≤ most_tasks
few_tasks l h = subst (λ n. n ≤ most_tasks) (sym (length-tasks l)) (limits_parts l h).tasks

-- what passes at each element passes at one
pub passes_at : {X : Type 0} (p : X → Bool) (xs : List X) (i : ℕ) (x : X) → list_all p xs ≡ true → slice_get xs i ≡ Some x → p x ≡ true
passes_at p [] i x h e = absurd (none_is (sym e))
passes_at p (y ∷ ys) zero x h e = subst (λ z. p z ≡ true) (same_Some _ _ e) (left _ _ h)
passes_at p (y ∷ ys) (suc i) x h e = passes_at p ys i x (right _ _ h) e

passes-append : {X : Type 0} (p : X → Bool) (xs ys : List X) → list_all p xs ≡ true → list_all p ys ≡ true → list_all p (xs ++ ys) ≡ true
passes-append p xs ys a b = list_all-append p xs ys ∙ and_from _ _ a b

passes-replicate : {X : Type 0} (p : X → Bool) (n : ℕ) (x : X) → p x ≡ true → list_all p (replicate n x) ≡ true
passes-replicate p zero x h = refl
passes-replicate p (suc n) x h = and_from _ _ h (passes-replicate p n x h)

-- what passes at the call of each run passes at that of each task
passes-calls : (p : Call → Bool) (runs : List (Call × ℕ)) → list_all p (map (λ (run : Call × ℕ). run.0) runs) ≡ true → list_all p (calls_of runs) ≡ true
passes-calls p [] h = refl
passes-calls p (run ∷ runs) h =
    passes-append p (replicate run.1 run.0) (calls_of runs) (passes-replicate p run.1 run.0 (left _ _ h)) (passes-calls p runs (right _ _ h))

-- the transaction and the arguments of a task are those of its call
calls_so : (cs : List Call) (t : ℕ) (tx : TxId) → slice_get (map (λ (c : Call). c.tx) cs) t ≡ Some tx → slice_get cs t ≡ Some (record { tx = tx; arguments = slice_index_or (map (λ (c : Call). c.arguments) cs) t [] })
calls_so [] t tx e = absurd (none_is (sym e))
calls_so (c ∷ cs) zero tx e = ap (λ (x : TxId). Some (record { tx = x; arguments = c.arguments })) (same_Some _ _ e)
calls_so (c ∷ cs) (suc t) tx e = calls_so cs t tx e

pub task_calls : (l : Listing) (t : TaskId) (tx : TxId) → slice_get (tasks l) t.0 ≡ Some tx → slice_get (calls l) t.0 ≡ Some (record { tx = tx; arguments = task_arguments l t })
task_calls l t tx e = calls_so (calls l) t.0 tx e

-- a task's call is one of the listing
pub callable_task : (l : Listing) (t : ℕ) (c : Call) → names_hold l ≡ true → slice_get (calls l) t ≡ Some c → IsCallable l c.tx c.arguments
callable_task l t c h e =
    let b = passes_at (is_callable l) (calls l) t c (passes-calls (is_callable l) l.runs (names_parts l h).runs) e in
    record { declared = ltb-true _ _ (left _ _ b); each = eqb-true _ _ (right _ _ b) }

-- a task has as many arguments as its transaction wants
pub callable_as : (l : Listing) (t : TaskId) (tx : TxId) → names_hold l ≡ true → slice_get (tasks l) t.0 ≡ Some tx → IsCallable l tx (task_arguments l t)
callable_as l t tx h e = callable_task l t.0 (record { tx = tx; arguments = task_arguments l t }) h (task_calls l t tx e)

-- a task's transaction is one of the listing
pub known_task : (l : Listing) (t : ℕ) (tx : TxId) → names_hold l ≡ true → slice_get (tasks l) t ≡ Some tx → tx.0 < length l.transactions
known_task l t tx h e = (callable_as l (record { 0 = t }) tx h e).declared

either : (x y : Bool) → (x || y) ≡ true → (x ≡ true) ⊎ (y ≡ true)
either true y h = inl refl
either false y h = inr h

-- each cell of a table comes before all the cells that there are end
from_inside : (ts : List (List ℕ × ℕ)) (first : ℕ) (t : Span) → knows_table (spans_from first ts) t ≡ true → TableKnown (first + sum_by (λ u. u.1) ts) t
from_inside [] first t h = absurd (cc)
from_inside (u ∷ ts) first t h =
    let s : sum_by (λ (v : List ℕ × ℕ). v.1) (u ∷ ts) ≡ u.1 + sum_by (λ (v : List ℕ × ℕ). v.1) ts = sum_by-cons (λ (v : List ℕ × ℕ). v.1) u ts in
    elim (either (same_span t (record { first = first; length = u.1 })) (knows_table (spans_from (first + u.1) ts) t) h) [
      | inl q ↦
          let f : t.first ≡ first = eqb-true t.first first (left _ _ q) in
          let as_long : t.length ≡ u.1 = eqb-true t.length u.1 (right _ _ q) in
          omega (arith, f, as_long, s)
      | inr q ↦ let k : t.first + t.length ≤ first + u.1 + sum_by (λ (v : List ℕ × ℕ). v.1) ts = from_inside ts (first + u.1) t q in omega (arith, k, s)
    ]

-- each cell of a listing's tables has a value
pub table_inside : (l : Listing) (t : Span) → knows_table (spans l) t ≡ true → TableKnown (values l) t
table_inside l = from_inside l.tables (length l.names)

-- what knows only these many variables, and tables whose cells end before this many values, names no others once its
-- arguments are given
module _ (m n : ℕ) (ts : List Span) (wide : n ≤ m) (inside : (t : Span) → knows_table ts t ≡ true → TableKnown m t) where
  known_expression : (k : ℕ) (given : List ℤ) (e : Expression) → knows_expression n ts k e ≡ true → ExpressionKnown m (instance_expression given e)
  known_expression k given (Int v) h = tt
  known_expression k given (Var x) h = let lt : x.0 < n = ltb-true _ _ h in omega (arith, lt, wide)
  known_expression k given (Param p) h = tt
  known_expression k given (Cell t a) h = (inside t (left _ _ h), known_expression k given a (right _ _ h))
  known_expression k given (OfAll f t) h = inside t h
  known_expression k given (Add a b) h = (known_expression k given a (left _ _ h), known_expression k given b (right _ _ h))
  known_expression k given (Sub a b) h = (known_expression k given a (left _ _ h), known_expression k given b (right _ _ h))
  known_expression k given (Mul a b) h = (known_expression k given a (left _ _ h), known_expression k given b (right _ _ h))
  known_expression k given (Div a b) h = (known_expression k given a (left _ _ h), known_expression k given b (right _ _ h))
  known_expression k given (Rem a b) h = (known_expression k given a (left _ _ h), known_expression k given b (right _ _ h))

  known_condition : (k : ℕ) (given : List ℤ) (c : Condition) → knows_condition n ts k c ≡ true → ConditionKnown m (instance_condition given c)
  known_condition k given (Eq a b) h = (known_expression k given a (left _ _ h), known_expression k given b (right _ _ h))
  known_condition k given (Lt a b) h = (known_expression k given a (left _ _ h), known_expression k given b (right _ _ h))
  known_condition k given (Le a b) h = (known_expression k given a (left _ _ h), known_expression k given b (right _ _ h))
  known_condition k given (Not c) h = known_condition k given c h
  known_condition k given (And a b) h = (known_condition k given a (left _ _ h), known_condition k given b (right _ _ h))
  known_condition k given (Or a b) h = (known_condition k given a (left _ _ h), known_condition k given b (right _ _ h))

  mutual
    known_statement : (k : ℕ) (given : List ℤ) (s : Statement) → knows_statement n ts k s ≡ true → StatementKnown m (instance_statement given s)
    known_statement k given Skip h = tt
    known_statement k given (Put t a b) h =
        (inside t (left _ _ h), (known_expression k given a (left _ _ (right _ _ h)), known_expression k given b (right _ _ (right _ _ h))))
    known_statement k given (Set x e) h = let lt : x.0 < n = ltb-true _ _ (left _ _ h) in (omega (arith, lt, wide), known_expression k given e (right _ _ h))
    known_statement k given (Seq parts) h = known_statements k given parts h
    known_statement k given (If c a b) h =
        (known_condition k given c (left _ _ h), known_statement k given a (left _ _ (right _ _ h)), known_statement k given b (right _ _ (right _ _ h)))
    known_statement k given (Repeat times s) h = known_statement k given s h
    known_statement k given Retry h = tt
    known_statement k given (OrElse a b) h = (known_statement k given a (left _ _ h), known_statement k given b (right _ _ h))
    known_statement k given (Throw e) h = known_expression k given e h

    known_statements : (k : ℕ) (given : List ℤ) (s : Statements) → knows_statements n ts k s ≡ true → StatementsKnown m (instance_statements given s)
    known_statements k given End h = tt
    known_statements k given (More s rest) h = (known_statement k given s (left _ _ h), known_statements k given rest (right _ _ h))

  -- a standing condition has no parameters
  expression_alone : (e : Expression) → knows_expression n ts 0 e ≡ true → ExpressionKnown m e
  expression_alone (Int v) h = tt
  expression_alone (Var x) h = let lt : x.0 < n = ltb-true _ _ h in omega (arith, lt, wide)
  expression_alone (Param p) h = absurd (omega (arith, ltb-true p.0 0 h))
  expression_alone (Cell t a) h = (inside t (left _ _ h), expression_alone a (right _ _ h))
  expression_alone (OfAll f t) h = inside t h
  expression_alone (Add a b) h = (expression_alone a (left _ _ h), expression_alone b (right _ _ h))
  expression_alone (Sub a b) h = (expression_alone a (left _ _ h), expression_alone b (right _ _ h))
  expression_alone (Mul a b) h = (expression_alone a (left _ _ h), expression_alone b (right _ _ h))
  expression_alone (Div a b) h = (expression_alone a (left _ _ h), expression_alone b (right _ _ h))
  expression_alone (Rem a b) h = (expression_alone a (left _ _ h), expression_alone b (right _ _ h))

  pub known_standing : (c : Condition) → knows_standing n ts c ≡ true → ConditionKnown m c
  known_standing (Eq a b) h = (expression_alone a (left _ _ h), expression_alone b (right _ _ h))
  known_standing (Lt a b) h = (expression_alone a (left _ _ h), expression_alone b (right _ _ h))
  known_standing (Le a b) h = (expression_alone a (left _ _ h), expression_alone b (right _ _ h))
  known_standing (Not c) h = known_standing c h
  known_standing (And a b) h = (known_standing a (left _ _ h), known_standing b (right _ _ h))
  known_standing (Or a b) h = (known_standing a (left _ _ h), known_standing b (right _ _ h))

  pub all_standing : (cs : List Condition) → list_all (knows_standing n ts) cs ≡ true → ConditionsKnown m cs
  all_standing [] h = tt
  all_standing (c ∷ cs) h = (known_standing c (left _ _ h), all_standing cs (right _ _ h))

-- there are as many values as variables, and more
pub few_names : (l : Listing) → length l.names ≤ values l
few_names l = omega (arith)

-- what the rules of the listing say of ids holds of its standing conditions, where it is known of them alone
pub conditions_inside : (l : Listing) → list_all (knows_standing (length l.names) (spans l)) (conditions l) ≡ true → ConditionsKnown (values l) (conditions l)
conditions_inside l h = all_standing (values l) (length l.names) (spans l) (few_names l) (table_inside l) (conditions l) h

-- the standing conditions name only the listing's variables and cells
pub standing_known : (l : Listing) → names_hold l ≡ true → ConditionsKnown (values l) (conditions l)
standing_known l h = conditions_inside l (names_parts l h).always_known

-- and so does each of its transactions with its arguments
pub known_given : (l : Listing) (i : ℕ) (t : Transaction) (given : List ℤ) → names_hold l ≡ true → slice_get l.transactions i ≡ Some t → ProgramKnown (values l) (instance given (under (conditions l) t))
known_given l i t given h e =
    let n = length l.names in
    let m = values l in
    let known = passes_at (knows_transaction n (spans l)) l.transactions i t (names_parts l h).known e in (
      known_statement m n (spans l) (few_names l) (table_inside l) (arity t) given t.body (left _ _ known),
      (known_expression m n (spans l) (few_names l) (table_inside l) (arity t) given t.result (right _ _ known), standing_known l h),
    )

at_place : {X : Type 0} (xs : List X) (i : ℕ) (d : X) → i < length xs → slice_get xs i ≡ Some (slice_index_or xs i d)
at_place [] i d h = absurd (omega (arith, h))
at_place (x ∷ xs) zero d h = refl
at_place (x ∷ xs) (suc i) d h = at_place xs i d (omega (arith, h))

-- so does each call
pub known_call : (l : Listing) (tx : TxId) (given : List ℤ) → names_hold l ≡ true → tx.0 < length l.transactions → ProgramKnown (values l) (call_program l tx given)
known_call l tx given h k = known_given l tx.0 (transaction_at l tx) given h (at_place l.transactions tx.0 _ k)

-- a call has no more arguments than a transaction may have parameters
pub few_arguments : (l : Listing) (tx : TxId) (given : List ℤ) → limits_hold l ≡ true → IsCallable l tx given → length given ≤ most_parameters
few_arguments l tx given h c =
    let t = transaction_at l tx in
    let fit = passes_at names_fit l.transactions tx.0 t (limits_parts l h).tx_names (at_place l.transactions tx.0 _ c.declared) in
    let few : arity t ≤ most_parameters = leb-true _ _ (left _ _ (right (is_short t.name) _ fit)) in
    subst (λ (n : ℕ). n ≤ most_parameters) (sym c.each) few

prefix_len-map : {X Y : Type 0} (p : Y → Bool) (f : X → Y) (xs : List X) → prefix_len p (map f xs) ≡ prefix_len (λ x. p (f x)) xs
prefix_len-map p f [] = refl
prefix_len-map p f (x ∷ xs) = ap (λ n. cond (p (f x)) (1 + n) 0) (prefix_len-map p f xs)

-- a place among the values of a function
pub position-map : {X Y : Type 0} (p : Y → Bool) (f : X → Y) (xs : List X) → position p (map f xs) ≡ position (λ x. p (f x)) xs
position-map p f xs =
    let e = prefix_len-map (λ y. not (p y)) f xs in
    let n = length-map xs f in
    ap (λ k. cond (nat_lt k (length (map f xs))) (Some k) None) e ∙ ap (λ k. cond (nat_lt (prefix_len (λ x. not (p (f x))) xs) k) (Some (prefix_len (λ x. not (p (f x))) xs)) None) n

-- a place among names, by their bytes, from a place among texts
pub place_at : (name : List ℕ) (texts : List (String Global)) (r : Option ℕ) → r ≡ position (λ k. bytes_eq name (string_bytes k)) texts → r ≡ position (bytes_eq name) (map string_bytes texts)
place_at name texts r e = e ∙ sym (position-map (bytes_eq name) string_bytes texts)
