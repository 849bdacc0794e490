-- What a transaction does in one step, from a state: one value for each variable, a cell of a table being one.
use Rattle.std.specs.Prelude.{ℕ, zero, suc, ◌+◌, Bool, true, false, not, List, [], ◌∷◌, Result, Ok, Err, slice_index_or, slice_set, ℤ, pos}
use Rattle.std.specs.Int.RustNames.{int_lt, int_le}
use Rattle.std.specs.Ordering.{int_eq}
use Rattle.txn_programs.specs.Arithmetic.{sum_of, difference_of, product_of, quotient_of, remainder_of}
use Rattle.txn_programs.specs.declared.ast.Fault.{Fault}
use Rattle.txn_programs.specs.declared.ast.Fault.TheVariants.{User, Broken}
use Rattle.txn_programs.specs.declared.ast.Outcome.{Outcome}
use Rattle.txn_programs.specs.declared.ast.Outcome.TheVariants.{Returned, Thrown, Retries}
use Rattle.txn_programs.specs.declared.ast.VarId.{VarId}
use Rattle.txn_programs.specs.Tables.{cell_of, beginning, joined}
use Rattle.txn_programs.specs.Tree.{Expression, Int, Var, Param, Cell, OfAll, Add, Sub, Mul, Div, Rem, Condition, Eq, Lt, Le, Not, And, Or, Statement, Skip, Set, Put, Seq, If, Repeat, Retry, OrElse, Throw, Statements, End, More, Program}

abbrev pub State : Type 0
State = List ℤ

-- the value of a variable
abbrev pub value_at : State → VarId → ℤ
value_at m x = slice_index_or m x.0 (pos 0)

-- the state with one variable replaced
abbrev pub with_value : State → VarId → ℤ → State
with_value m x v = slice_set m x.0 v

-- an operator on two operands: what stops the left one comes first
abbrev pub both : {A E : Type 0} → (ℤ → ℤ → Result A E) → Result ℤ E → Result ℤ E → Result A E
both f (Err e) b = Err e
both f (Ok x) (Err e) = Err e
both f (Ok x) (Ok y) = f x y

-- goes on with what is there
abbrev pub then_value : {A B E : Type 0} → Result A E → (A → Result B E) → Result B E
then_value (Ok v) go = go v
then_value (Err e) go = Err e

-- n variables from number x on, joined to v one after another
abbrev pub joined_from : {E : Type 0} → (ℤ → ℤ → Result ℤ E) → (VarId → Result ℤ E) → ℕ → ℕ → ℤ → Result ℤ E
joined_from join read zero x v = Ok v
joined_from join read (suc n) x v = then_value (read (record { 0 = x })) (λ u. then_value (join v u) (joined_from join read n (suc x)))

-- the value of an expression
abbrev pub value : Expression → State → Result ℤ Fault
value (Int n) m = Ok n
value (Var x) m = Ok (value_at m x)
-- where a program is run its parameters have been replaced by their arguments
value (Param p) m = Ok (pos 0)
value (Cell t a) m = then_value (value a m) (λ i. then_value (cell_of t i) (λ x. Ok (value_at m x)))
value (OfAll f t) m = joined_from (joined f) (λ x. Ok (value_at m x)) t.length t.first (beginning f)
value (Add a b) m = both sum_of (value a m) (value b m)
value (Sub a b) m = both difference_of (value a m) (value b m)
value (Mul a b) m = both product_of (value a m) (value b m)
value (Div a b) m = both quotient_of (value a m) (value b m)
value (Rem a b) m = both remainder_of (value a m) (value b m)

abbrev pub negated : {E : Type 0} → Result Bool E → Result Bool E
negated (Ok b) = Ok (not b)
negated (Err e) = Err e

-- the right side counts only where the left one is yes, or only where it is no
abbrev pub and_then : {E : Type 0} → Result Bool E → Result Bool E → Result Bool E
and_then (Ok true) b = b
and_then (Ok false) b = Ok false
and_then (Err e) b = Err e

abbrev pub or_else : {E : Type 0} → Result Bool E → Result Bool E → Result Bool E
or_else (Ok true) b = Ok true
or_else (Ok false) b = b
or_else (Err e) b = Err e

-- whether a condition holds
abbrev pub truth : Condition → State → Result Bool Fault
truth (Eq a b) m = both (λ x y. Ok (int_eq x y)) (value a m) (value b m)
truth (Lt a b) m = both (λ x y. Ok (int_lt x y)) (value a m) (value b m)
truth (Le a b) m = both (λ x y. Ok (int_le x y)) (value a m) (value b m)
truth (Not c) m = negated (truth c m)
truth (And a b) m = and_then (truth a m) (truth b m)
truth (Or a b) m = or_else (truth a m) (truth b m)

-- how a statement ends: in a state, by a fault, or by retry
pub data Ending (S E : Type 0) : Type 0 where
  Done : (m : S) → Ending S E
  Threw : (f : E) → Ending S E
  Retried : Ending S E

-- goes on from the state where it is done
abbrev pub then_do : {S E : Type 0} → Ending S E → (S → Ending S E) → Ending S E
then_do (Done m) go = go m
then_do (Threw f) go = Threw f
then_do Retried go = Retried

-- the second where the first retries
abbrev pub unless_retried : {S E : Type 0} → Ending S E → Ending S E → Ending S E
unless_retried (Done m) b = Done m
unless_retried (Threw f) b = Threw f
unless_retried Retried b = b

-- goes on with a value
abbrev pub with_number : {S E : Type 0} → Result ℤ E → (ℤ → Ending S E) → Ending S E
with_number (Ok v) go = go v
with_number (Err f) go = Threw f

-- goes on with a variable
abbrev pub with_cell : {S E : Type 0} → Result VarId E → (VarId → Ending S E) → Ending S E
with_cell (Ok x) go = go x
with_cell (Err f) go = Threw f

-- the chosen part
abbrev pub choose : {S E : Type 0} → Result Bool E → Ending S E → Ending S E → Ending S E
choose (Ok true) a b = a
choose (Ok false) a b = b
choose (Err f) a b = Threw f

-- n times the same, in turn
abbrev pub repeated : {S E : Type 0} → ℕ → (S → Ending S E) → S → Ending S E
repeated zero go m = Done m
repeated (suc n) go m = then_do (go m) (repeated n go)

abbrev mutual
  -- what a statement does
  pub run : Statement → State → Ending State Fault
  run Skip m = Done m
  run (Set x e) m = with_number (value e m) (λ v. Done (with_value m x v))
  run (Put t a b) m = with_number (value a m) (λ i. with_number (value b m) (λ v. with_cell (cell_of t i) (λ x. Done (with_value m x v))))
  run (Seq parts) m = run_all parts m
  run (If c a b) m = choose (truth c m) (run a m) (run b m)
  run (Repeat n s) m = repeated n (run s) m
  run Retry m = Retried
  run (OrElse a b) m = unless_retried (run a m) (run b m)
  run (Throw e) m = with_number (value e m) (λ v. Threw (User v))

  -- the parts of a sequence, in turn
  pub run_all : Statements → State → Ending State Fault
  run_all End m = Done m
  run_all (More s rest) m = then_do (run s m) (run_all rest)

-- the result's value, in the state where the body is done
abbrev pub outcome_by : Result ℤ Fault → Outcome
outcome_by (Ok v) = Returned v
outcome_by (Err f) = Thrown f

abbrev pub outcome_of : Ending State Fault → (State → Result ℤ Fault) → Outcome
outcome_of (Done m) result = outcome_by (result m)
outcome_of (Threw f) result = Thrown f
outcome_of Retried result = Retries

-- that state, unless the result is a fault
abbrev pub kept_by : State → State → Result ℤ Fault → State
kept_by m m' (Ok v) = m'
kept_by m m' (Err f) = m

abbrev pub state_after : State → Ending State Fault → (State → Result ℤ Fault) → State
state_after m (Done m') result = kept_by m m' (result m')
state_after m (Threw f) result = m
state_after m Retried result = m

-- a result that stands only where a condition is true: else it is a fault
abbrev pub demanded : {A E : Type 0} → E → (E → E) → Result Bool E → Result A E → Result A E
demanded untrue blame (Ok true) r = r
demanded untrue blame (Ok false) r = Err untrue
demanded untrue blame (Err e) r = Err (blame e)

-- the fault that standing condition number k is not true
abbrev pub broken : ℕ → Fault
broken k = Broken (record { 0 = k })

-- a value that stands where each condition is true; the first that is not, by no or by a fault, is the fault. The first of them has number k.
abbrev pub upheld : ℕ → List Condition → State → ℤ → Result ℤ Fault
upheld k [] m v = Ok v
upheld k (c ∷ cs) m v = demanded (broken k) (λ _. broken k) (truth c m) (upheld (k + 1) cs m v)

abbrev pub upheld_result : List Condition → State → Result ℤ Fault → Result ℤ Fault
upheld_result cs m (Ok v) = upheld 0 cs m v
upheld_result cs m (Err f) = Err f

-- what a program returns in the state where its body is done: its result, where the conditions stand
abbrev pub final : Program → State → Result ℤ Fault
final t m = upheld_result t.always m (value t.result m)

-- how a transaction ends, and the state after it
abbrev pub outcome : Program → State → Outcome
outcome t m = outcome_of (run t.body m) (final t)

abbrev pub after : Program → State → State
after t m = state_after m (run t.body m) (final t)
