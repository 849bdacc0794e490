-- What a program needs and writes: a variable that it may name and that is not logged, and writes in order.
use Rattle.std.proofs.Common.{◌≡◌, ℕ, zero, suc, ◌+◌, ◌<◌, Bool, true, false, List, [], ◌∷◌, Option, Some, None, Result, Ok, Err, ℤ, pos, negsuc, nat_lt, if◌then◌else◌, ◌≤◌, refl, subst, arith}
use Rattle.std.proofs.lemmas.Bool.Decides.{nat_tests}
use Rattle.std.specs.Ordering.{int_eq}
use Rattle.std.specs.Int.RustNames.{int_lt, int_le}
use Rattle.txn_programs.specs.Arithmetic.{sum_of, difference_of, product_of, quotient_of, remainder_of}
use Rattle.txn_programs.specs.Tables.{cell_of, joined}
use Rattle.txn_programs.specs.Meaning.{both, then_value, joined_from, negated, and_then, or_else, Ending, Done, Threw, Retried, then_do, unless_retried, with_number, with_cell, choose, repeated, demanded}
use Rattle.txn_programs.specs.Scope.{TableKnown, ExpressionKnown, ConditionKnown, StatementKnown, StatementsKnown, ConditionsKnown, ProgramKnown}
use Rattle.txn_programs.specs.declared.ast.VarId.{VarId}
use Rattle.txn_programs.specs.declared.ast.Span.{Span}
use Rattle.txn_programs.specs.declared.ast.Fold.{Fold}
use Rattle.txn_programs.specs.declared.ast.Fault.{Fault}
use Rattle.txn_programs.specs.declared.ast.Fault.TheVariants.{User, Broken, Outside}
use Rattle.txn_programs.specs.declared.ast.AlwaysId.{AlwaysId}
use Rattle.txn_programs.specs.declared.ast.Outcome.{Outcome}
use Rattle.txn_programs.specs.Tree.{Expression, Int, Var, Param, Cell, OfAll, Add, Sub, Mul, Div, Rem, Condition, Eq, Lt, Le, Not, And, Or, Statement, Skip, Set, Put, Seq, If, Repeat, Retry, OrElse, Throw, Statements, End, More, Program}
use Rattle.attempt_machine.specs.declared.found.Halt.{Halt}
use Rattle.attempt_machine.specs.declared.found.Halt.TheVariants.{Need, Fails}
use Rattle.attempt.specs.declared.next.Stand.TheVariants as stand
use Rattle.attempt_machine.specs.Asking.{Known, known_at, write, or_known, or_need, see, halting, see_value, see_truth, see_run, see_run_all, blame, see_upheld, see_upheld_result, see_final, Answer, Needs, Ends, ask, answer_of, answer_by}
use Rattle.attempt_writes.specs.Order.{AllKnown, Ascending}
use Rattle.attempt.specs.View.{OnlyOfReturned}
use Rattle.attempt_writes.proofs.Pairs.{AllKnown-write, Ascending-write}

-- a variable that is asked for may be named, and is not logged
abbrev pub IsMissing : ℕ → Known → VarId → Type 0
IsMissing n log x = (x.0 < n) × (known_at log x ≡ None)

abbrev Asks : {A : Type 0} → ℕ → Known → Result A Halt → Type 0
Asks n log (Ok v) = Unit {0}
Asks n log (Err (Need x)) = IsMissing n log x
Asks n log (Err (Fails f)) = Unit {0}

see_asks : (n : ℕ) (log w : Known) (x : VarId) → x.0 < n → Asks n log (see log w x)
see_asks n log w x lt = at (known_at w x) (known_at log x) refl
  where
    at : (o p : Option ℤ) → known_at log x ≡ p → Asks n log (or_need (or_known o p) x)
    at (Some v) p e = tt
    at None (Some v) e = tt
    at None None e = (lt, e)

both_asks : {A : Type 0} (n : ℕ) (log : Known) (f : ℤ → ℤ → Result A Halt) → ((x y : ℤ) → Asks n log (f x y)) →
    (a b : Result ℤ Halt) → Asks n log a → Asks n log b → Asks n log (both f a b)
both_asks n log f h (Ok x) (Ok y) p q = h x y
both_asks n log f h (Ok x) (Err (Need z)) p q = q
both_asks n log f h (Ok x) (Err (Fails e)) p q = tt
both_asks n log f h (Err (Need z)) b p q = p
both_asks n log f h (Err (Fails e)) b p q = tt

halting_asks : (n : ℕ) (log : Known) (r : Result ℤ Fault) → Asks n log (halting r)
halting_asks n log (Ok v) = tt
halting_asks n log (Err f) = tt

then_asks : {A : Type 0} (n : ℕ) (log : Known) (f : A → Result ℤ Halt) → ((v : A) → Asks n log (f v)) → (r : Result A Halt) → Asks n log r → Asks n log (then_value r f)
then_asks n log f h (Ok v) p = h v
then_asks n log f h (Err (Need z)) p = p
then_asks n log f h (Err (Fails e)) p = tt

nat_lt_less : (i n : ℕ) → nat_lt i n ≡ true → i < n
nat_lt_less i n e = grind (arith, nat_tests)

-- a cell is a variable that may be named
cell_known : (n : ℕ) (t : Span) (i : ℤ) (x : VarId) → TableKnown n t → cell_of t i ≡ Ok x → x.0 < n
cell_known n t (negsuc i) x k e = absurd (cc e)
cell_known n t (pos i) x k e = at (nat_lt i t.length) refl e
  where
    at : (b : Bool) → nat_lt i t.length ≡ b → (if b then Ok (record { 0 = t.first + i }) else Err Outside) ≡ Ok x → x.0 < n
    at true f e =
        let less = nat_lt_less i t.length f in
        let same : t.first + i ≡ x.0 = cc e in
        omega (arith, k, less, same)
    at false f e = absurd (cc e)

cell_asks : (n : ℕ) (log w : Known) (t : Span) (i : ℤ) → TableKnown n t → Asks n log (then_value (halting (cell_of t i)) (see log w))
cell_asks n log w t i k = at (cell_of t i) refl
  where
    at : (c : Result VarId Fault) → cell_of t i ≡ c → Asks n log (then_value (halting c) (see log w))
    at (Ok x) e = see_asks n log w x (cell_known n t i x k e)
    at (Err f) e = tt

all_ask : (n : ℕ) (log w : Known) (f : Fold) (many x : ℕ) (v : ℤ) → x + many ≤ n → Asks n log (joined_from (λ x y. halting (joined f x y)) (see log w) many x v)
all_ask n log w f zero x v le = tt
all_ask n log w f (suc many) x v le =
    then_asks n log _ (λ u. then_asks n log _ (λ s. all_ask n log w f many (suc x) s (omega (arith, le))) _ (halting_asks n log (joined f v u))) _ (see_asks n log w (record { 0 = x }) (omega (arith, le)))

value_asks : (n : ℕ) (log w : Known) (e : Expression) → ExpressionKnown n e → Asks n log (see_value e log w)
value_asks n log w (Int v) k = tt
value_asks n log w (Param p) k = tt
value_asks n log w (Var x) k = see_asks n log w x k
value_asks n log w (Cell t a) k = then_asks n log _ (λ i. cell_asks n log w t i k.0) _ (value_asks n log w a k.1)
value_asks n log w (OfAll f t) k = all_ask n log w f t.length t.first _ k
value_asks n log w (Add a b) k = both_asks n log (λ x y. halting (sum_of x y)) (λ x y. halting_asks n log (sum_of x y)) _ _ (value_asks n log w a k.0) (value_asks n log w b k.1)
value_asks n log w (Sub a b) k = both_asks n log (λ x y. halting (difference_of x y)) (λ x y. halting_asks n log (difference_of x y)) _ _ (value_asks n log w a k.0) (value_asks n log w b k.1)
value_asks n log w (Mul a b) k = both_asks n log (λ x y. halting (product_of x y)) (λ x y. halting_asks n log (product_of x y)) _ _ (value_asks n log w a k.0) (value_asks n log w b k.1)
value_asks n log w (Div a b) k = both_asks n log (λ x y. halting (quotient_of x y)) (λ x y. halting_asks n log (quotient_of x y)) _ _ (value_asks n log w a k.0) (value_asks n log w b k.1)
value_asks n log w (Rem a b) k = both_asks n log (λ x y. halting (remainder_of x y)) (λ x y. halting_asks n log (remainder_of x y)) _ _ (value_asks n log w a k.0) (value_asks n log w b k.1)

negated_asks : (n : ℕ) (log : Known) (a : Result Bool Halt) → Asks n log a → Asks n log (negated a)
negated_asks n log (Ok b) p = tt
negated_asks n log (Err (Need z)) p = p
negated_asks n log (Err (Fails e)) p = tt

and_asks : (n : ℕ) (log : Known) (a b : Result Bool Halt) → Asks n log a → Asks n log b → Asks n log (and_then a b)
and_asks n log (Ok true) b p q = q
and_asks n log (Ok false) b p q = tt
and_asks n log (Err (Need z)) b p q = p
and_asks n log (Err (Fails e)) b p q = tt

or_asks : (n : ℕ) (log : Known) (a b : Result Bool Halt) → Asks n log a → Asks n log b → Asks n log (or_else a b)
or_asks n log (Ok true) b p q = tt
or_asks n log (Ok false) b p q = q
or_asks n log (Err (Need z)) b p q = p
or_asks n log (Err (Fails e)) b p q = tt

truth_asks : (n : ℕ) (log w : Known) (c : Condition) → ConditionKnown n c → Asks n log (see_truth c log w)
truth_asks n log w (Eq a b) k = both_asks n log (λ x y. Ok (int_eq x y)) (λ x y. tt) _ _ (value_asks n log w a k.0) (value_asks n log w b k.1)
truth_asks n log w (Lt a b) k = both_asks n log (λ x y. Ok (int_lt x y)) (λ x y. tt) _ _ (value_asks n log w a k.0) (value_asks n log w b k.1)
truth_asks n log w (Le a b) k = both_asks n log (λ x y. Ok (int_le x y)) (λ x y. tt) _ _ (value_asks n log w a k.0) (value_asks n log w b k.1)
truth_asks n log w (Not c) k = negated_asks n log _ (truth_asks n log w c k)
truth_asks n log w (And a b) k = and_asks n log _ _ (truth_asks n log w a k.0) (truth_asks n log w b k.1)
truth_asks n log w (Or a b) k = or_asks n log _ _ (truth_asks n log w a k.0) (truth_asks n log w b k.1)

-- writes in order, of variables that may be named
abbrev pub AreWrites : ℕ → Known → Type 0
AreWrites n w = AllKnown n w × Ascending w

abbrev EndsWell : ℕ → Known → Ending Known Halt → Type 0
EndsWell n log (Done w) = AreWrites n w
EndsWell n log (Threw (Need x)) = IsMissing n log x
EndsWell n log (Threw (Fails f)) = Unit {0}
EndsWell n log Retried = Unit {0}

then_well : (n : ℕ) (log : Known) (f : Known → Ending Known Halt) → ((w : Known) → AreWrites n w → EndsWell n log (f w)) →
    (a : Ending Known Halt) → EndsWell n log a → EndsWell n log (then_do a f)
then_well n log f h (Done w) p = h w p
then_well n log f h (Threw (Need x)) p = p
then_well n log f h (Threw (Fails e)) p = tt
then_well n log f h Retried p = tt

unless_well : (n : ℕ) (log : Known) (a b : Ending Known Halt) → EndsWell n log a → EndsWell n log b → EndsWell n log (unless_retried a b)
unless_well n log (Done w) b p q = p
unless_well n log (Threw (Need x)) b p q = p
unless_well n log (Threw (Fails e)) b p q = tt
unless_well n log Retried b p q = q

number_well : (n : ℕ) (log : Known) (f : ℤ → Ending Known Halt) → ((v : ℤ) → EndsWell n log (f v)) →
    (r : Result ℤ Halt) → Asks n log r → EndsWell n log (with_number r f)
number_well n log f h (Ok v) p = h v
number_well n log f h (Err (Need x)) p = p
number_well n log f h (Err (Fails e)) p = tt

cell_well : (n : ℕ) (log w : Known) (t : Span) (i v : ℤ) → TableKnown n t → AreWrites n w → EndsWell n log (with_cell (halting (cell_of t i)) (λ x. Done (write w x v)))
cell_well n log w t i v k p = at (cell_of t i) refl
  where
    at : (c : Result VarId Fault) → cell_of t i ≡ c → EndsWell n log (with_cell (halting c) (λ x. Done (write w x v)))
    at (Ok x) e = (AllKnown-write n w x v (cell_known n t i x k e) p.0, Ascending-write w x v p.1)
    at (Err f) e = tt

choose_well : (n : ℕ) (log : Known) (c : Result Bool Halt) (a b : Ending Known Halt) → Asks n log c → EndsWell n log a → EndsWell n log b → EndsWell n log (choose c a b)
choose_well n log (Ok true) a b p q r = q
choose_well n log (Ok false) a b p q r = r
choose_well n log (Err (Need x)) a b p q r = p
choose_well n log (Err (Fails e)) a b p q r = tt

repeated_well : (n : ℕ) (log : Known) (f : Known → Ending Known Halt) → ((w : Known) → AreWrites n w → EndsWell n log (f w)) →
    (k : ℕ) (w : Known) → AreWrites n w → EndsWell n log (repeated k f w)
repeated_well n log f h zero w p = p
repeated_well n log f h (suc k) w p = then_well n log (repeated k f) (repeated_well n log f h k) (f w) (h w p)

mutual
  pub run_well : (n : ℕ) (log : Known) (s : Statement) (w : Known) → StatementKnown n s → AreWrites n w → EndsWell n log (see_run s log w)
  run_well n log Skip w k p = p
  run_well n log (Set x e) w k p = number_well n log (λ v. Done (write w x v)) (λ v. (AllKnown-write n w x v k.0 p.0, Ascending-write w x v p.1)) _ (value_asks n log w e k.1)
  run_well n log (Put t a b) w k p = number_well n log _ (λ i. number_well n log _ (λ v. cell_well n log w t i v k.0 p) _ (value_asks n log w b k.1.1)) _ (value_asks n log w a k.1.0)
  run_well n log (Seq parts) w k p = run_all_well n log parts w k p
  run_well n log (If c a b) w k p = choose_well n log _ _ _ (truth_asks n log w c k.0) (run_well n log a w k.1 p) (run_well n log b w k.2 p)
  run_well n log (Repeat i s) w k p = repeated_well n log (see_run s log) (λ w' q. run_well n log s w' k q) i w p
  run_well n log Retry w k p = tt
  run_well n log (OrElse a b) w k p = unless_well n log _ _ (run_well n log a w k.0 p) (run_well n log b w k.1 p)
  run_well n log (Throw e) w k p = number_well n log (λ v. Threw (Fails (User v))) (λ v. tt) _ (value_asks n log w e k)

  run_all_well : (n : ℕ) (log : Known) (parts : Statements) (w : Known) → StatementsKnown n parts → AreWrites n w → EndsWell n log (see_run_all parts log w)
  run_all_well n log End w k p = p
  run_all_well n log (More s rest) w k p = then_well n log (see_run_all rest log) (λ w' q. run_all_well n log rest w' k.1 q) _ (run_well n log s w k.0 p)

-- what an answer says: a variable that is missing, or writes in order, and none where the program did not return
abbrev pub IsWell : ℕ → Known → Answer → Type 0
IsWell n log (Needs x) = IsMissing n log x
IsWell n log (Ends o w) = AreWrites n w × OnlyOfReturned (stand.Over o) w

result_well : (n : ℕ) (log w : Known) (r : Result ℤ Halt) → AreWrites n w → Asks n log r → IsWell n log (answer_by r w)
result_well n log w (Ok v) p q = (p, tt)
result_well n log w (Err (Need x)) p q = q
result_well n log w (Err (Fails f)) p q = ((tt, tt), refl)

answer_well : (n : ℕ) (log : Known) (f : Known → Result ℤ Halt) → ((w : Known) → Asks n log (f w)) → (e : Ending Known Halt) → EndsWell n log e → IsWell n log (answer_of e f)
answer_well n log f h (Done w) p = result_well n log w (f w) p (h w)
answer_well n log f h (Threw (Need x)) p = p
answer_well n log f h (Threw (Fails e)) p = ((tt, tt), refl)
answer_well n log f h Retried p = ((tt, tt), refl)

demanded_asks : (n : ℕ) (log : Known) (id : AlwaysId) (b : Result Bool Halt) (r : Result ℤ Halt) → Asks n log b → Asks n log r → Asks n log (demanded (Fails (Broken id)) (blame (Some id)) b r)
demanded_asks n log id (Ok true) r p q = q
demanded_asks n log id (Ok false) r p q = tt
demanded_asks n log id (Err (Need x)) r p q = p
demanded_asks n log id (Err (Fails f)) r p q = tt

upheld_asks : (n : ℕ) (log w : Known) (k : ℕ) (cs : List Condition) (v : ℤ) → ConditionsKnown n cs → Asks n log (see_upheld k cs log w v)
upheld_asks n log w k [] v h = tt
upheld_asks n log w k (c ∷ cs) v h = demanded_asks n log (record { 0 = k }) _ _ (truth_asks n log w c h.0) (upheld_asks n log w (k + 1) cs v h.1)

final_asks : (n : ℕ) (log w : Known) (cs : List Condition) (r : Result ℤ Halt) → ConditionsKnown n cs → Asks n log r → Asks n log (see_upheld_result cs log w r)
final_asks n log w cs (Ok v) h p = upheld_asks n log w 0 cs v h
final_asks n log w cs (Err (Need x)) h p = p
final_asks n log w cs (Err (Fails f)) h p = tt

pub ask_well : (n : ℕ) (t : Program) (log : Known) → ProgramKnown n t → IsWell n log (ask t log)
ask_well n t log k = answer_well n log (see_final t log) (λ w. final_asks n log w t.always _ k.1.1 (value_asks n log w t.result k.1.0)) _ (run_well n log t.body [] k.0 (tt, tt))

pub needs_missing : (n : ℕ) (t : Program) (log : Known) (x : VarId) → ProgramKnown n t → ask t log ≡ Needs x → IsMissing n log x
needs_missing n t log x k e = subst (IsWell n log) e (ask_well n t log k)

pub ends_well : (n : ℕ) (t : Program) (log w : Known) (o : Outcome) → ProgramKnown n t → ask t log ≡ Ends o w → AreWrites n w × OnlyOfReturned (stand.Over o) w
ends_well n t log w o k e = subst (IsWell n log) e (ask_well n t log k)
