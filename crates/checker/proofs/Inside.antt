-- No call of a listing without tables ends outside a table.
use Rattle.std.proofs.Common.{◌≡◌, ◌∙◌, ℕ, zero, suc, ◌+◌, ◌<◌, Bool, true, false, ◌&&◌, ◌||◌, nat_lt, if◌then◌else◌, List, [], ◌∷◌, length, Result, Ok, Err, ℤ, pos, negsuc, refl, sym, ap, subst, arith}
use Rattle.std.specs.Prelude.{All, ◌+ℤ◌, ◌-ℤ◌, ◌*ℤ◌}
use Rattle.std.specs.Int.RustNames.{int_div, int_rem}
use Rattle.std.specs.List.{AllByRecursion}
use Rattle.std.proofs.lemmas.Bool.{and_parts}
use Rattle.std.proofs.lemmas.Bool.Decides.{nat_tests}
use Rattle.std.proofs.lemmas.List.Elements.{All-from_recursion}
use Rattle.std.proofs.lemmas.Option.{slice_get-get_or}
use Rattle.txn_programs.specs.Arithmetic.{fits, fitted, sum_of, difference_of, product_of, quotient_of, remainder_of}
use Rattle.txn_programs.specs.declared.ast.Fault.{Fault}
use Rattle.txn_programs.specs.declared.ast.Fault.TheVariants.{User, Overflow, DivideByZero, Broken, Outside}
use Rattle.txn_programs.specs.declared.ast.Outcome.{Outcome}
use Rattle.txn_programs.specs.declared.ast.Outcome.TheVariants.{Returned, Thrown, Retries}
use Rattle.txn_programs.specs.declared.ast.TxId.{TxId}
use Rattle.txn_programs.specs.declared.report.Entry as report
use Rattle.txn_programs.specs.Tree.{Expression, Int, Var, Param, Cell, OfAll, Add, Sub, Mul, Div, Rem, Condition, Eq, Lt, Le, Not, And, Or, Statement, Skip, Set, Put, Seq, If, Repeat, Retry, OrElse, Throw, Statements, End, More}
use Rattle.txn_programs.specs.Meaning.{State, value, truth, both, negated, and_then, or_else, Ending, Done, Threw, Retried, then_do, unless_retried, with_number, choose, repeated, run, run_all, broken, demanded, upheld, upheld_result, final, outcome_by, outcome_of, outcome}
use Rattle.txn_programs.specs.Instance.{instance_expression, instance_condition, instance_statement, instance_statements}
use Rattle.txn_programs.specs.Names.{names_hold, knows_expression, knows_condition, knows_statement, knows_statements, knows_transaction}
use Rattle.txn_programs.specs.declared.ast.Span.{Span}
use Rattle.txn_programs.specs.Listing.{Listing, spans, spans_from, arity, conditions, transaction_at, call_program}
use Rattle.txn_programs.specs.Replay.{Snapshot, Replays, applied}
use Rattle.txn_programs.specs.LawfulReport.{LawfulReport}
use Rattle.txn_programs.specs.Told.{Told, base_of, now_of}
use Rattle.txn_programs.proofs.Lawful.{names_parts, passes_at, known_task}
use Rattle.txn.specs.Arities.{most_arity}
use Rattle.text_line_reader.specs.Reports.{knows_cells}

abbrev IsInside : Fault → Type 0
IsInside (User v) = Unit {0}
IsInside Overflow = Unit {0}
IsInside DivideByZero = Unit {0}
IsInside (Broken id) = Unit {0}
IsInside Outside = ⊥

abbrev ResultInside : {A : Type 0} → Result A Fault → Type 0
ResultInside (Ok v) = Unit {0}
ResultInside (Err f) = IsInside f

abbrev EndingInside : Ending State Fault → Type 0
EndingInside (Done m) = Unit {0}
EndingInside (Threw f) = IsInside f
EndingInside Retried = Unit {0}

abbrev OutcomeInside : Outcome → Type 0
OutcomeInside (Returned v) = Unit {0}
OutcomeInside (Thrown f) = IsInside f
OutcomeInside Retries = Unit {0}

left : (a b : Bool) → (a && b) ≡ true → a ≡ true
left a b h = (and_parts a b h).0

right : (a b : Bool) → (a && b) ≡ true → b ≡ true
right a b h = (and_parts a b h).1

-- ---- expressions and conditions

fitted_inside : (z r : ℤ) → ResultInside (fitted z r)
fitted_inside z r = at (fits z)
  where
    at : (b : Bool) → ResultInside (if b then Ok r else Err Overflow)
    at true = tt
    at false = tt

quotient_inside : (x y : ℤ) → ResultInside (quotient_of x y)
quotient_inside x (pos zero) = tt
quotient_inside x (pos (suc k)) = fitted_inside (int_div x (pos (suc k))) (int_div x (pos (suc k)))
quotient_inside x (negsuc k) = fitted_inside (int_div x (negsuc k)) (int_div x (negsuc k))

remainder_inside : (x y : ℤ) → ResultInside (remainder_of x y)
remainder_inside x (pos zero) = tt
remainder_inside x (pos (suc k)) = fitted_inside (int_div x (pos (suc k))) (int_rem x (pos (suc k)))
remainder_inside x (negsuc k) = fitted_inside (int_div x (negsuc k)) (int_rem x (negsuc k))

both_inside : {A : Type 0} (f : ℤ → ℤ → Result A Fault) (a b : Result ℤ Fault) → ((x y : ℤ) → ResultInside (f x y)) → ResultInside a → ResultInside b → ResultInside (both f a b)
both_inside f (Err e) b h p q = p
both_inside f (Ok x) (Err e) h p q = q
both_inside f (Ok x) (Ok y) h p q = h x y

module _ (n k : ℕ) (given : List ℤ) where
  value_inside : (e : Expression) (m : State) → knows_expression n [] k e ≡ true → ResultInside (value (instance_expression given e) m)
  value_inside (Int v) m h = tt
  value_inside (Var x) m h = tt
  value_inside (Param p) m h = tt
  value_inside (Cell t a) m h = absurd (cc)
  value_inside (OfAll f t) m h = absurd (cc)
  value_inside (Add a b) m h = both_inside sum_of _ _ (λ x y. fitted_inside (x +ℤ y) (x +ℤ y)) (value_inside a m (left _ _ h)) (value_inside b m (right _ _ h))
  value_inside (Sub a b) m h = both_inside difference_of _ _ (λ x y. fitted_inside (x -ℤ y) (x -ℤ y)) (value_inside a m (left _ _ h)) (value_inside b m (right _ _ h))
  value_inside (Mul a b) m h = both_inside product_of _ _ (λ x y. fitted_inside (x *ℤ y) (x *ℤ y)) (value_inside a m (left _ _ h)) (value_inside b m (right _ _ h))
  value_inside (Div a b) m h = both_inside quotient_of _ _ quotient_inside (value_inside a m (left _ _ h)) (value_inside b m (right _ _ h))
  value_inside (Rem a b) m h = both_inside remainder_of _ _ remainder_inside (value_inside a m (left _ _ h)) (value_inside b m (right _ _ h))

  negated_inside : (r : Result Bool Fault) → ResultInside r → ResultInside (negated r)
  negated_inside (Ok b) h = tt
  negated_inside (Err f) h = h

  and_inside : (a b : Result Bool Fault) → ResultInside a → ResultInside b → ResultInside (and_then a b)
  and_inside (Ok true) b p q = q
  and_inside (Ok false) b p q = tt
  and_inside (Err f) b p q = p

  or_inside : (a b : Result Bool Fault) → ResultInside a → ResultInside b → ResultInside (or_else a b)
  or_inside (Ok true) b p q = tt
  or_inside (Ok false) b p q = q
  or_inside (Err f) b p q = p

  truth_inside : (c : Condition) (m : State) → knows_condition n [] k c ≡ true → ResultInside (truth (instance_condition given c) m)
  truth_inside (Eq a b) m h = both_inside _ _ _ (λ x y. tt) (value_inside a m (left _ _ h)) (value_inside b m (right _ _ h))
  truth_inside (Lt a b) m h = both_inside _ _ _ (λ x y. tt) (value_inside a m (left _ _ h)) (value_inside b m (right _ _ h))
  truth_inside (Le a b) m h = both_inside _ _ _ (λ x y. tt) (value_inside a m (left _ _ h)) (value_inside b m (right _ _ h))
  truth_inside (Not c) m h = negated_inside _ (truth_inside c m h)
  truth_inside (And a b) m h = and_inside _ _ (truth_inside a m (left _ _ h)) (truth_inside b m (right _ _ h))
  truth_inside (Or a b) m h = or_inside _ _ (truth_inside a m (left _ _ h)) (truth_inside b m (right _ _ h))

  -- ---- statements

  number_inside : (r : Result ℤ Fault) (go : ℤ → Ending State Fault) → ResultInside r → ((v : ℤ) → EndingInside (go v)) → EndingInside (with_number r go)
  number_inside (Ok v) go p h = h v
  number_inside (Err f) go p h = p

  choose_inside : (r : Result Bool Fault) (a b : Ending State Fault) → ResultInside r → EndingInside a → EndingInside b → EndingInside (choose r a b)
  choose_inside (Ok true) a b p q r = q
  choose_inside (Ok false) a b p q r = r
  choose_inside (Err f) a b p q r = p

  unless_inside : (a b : Ending State Fault) → EndingInside a → EndingInside b → EndingInside (unless_retried a b)
  unless_inside (Done m) b p q = tt
  unless_inside (Threw f) b p q = p
  unless_inside Retried b p q = q

  then_inside : (a : Ending State Fault) (go : State → Ending State Fault) → EndingInside a → ((m : State) → EndingInside (go m)) → EndingInside (then_do a go)
  then_inside (Done m) go p h = h m
  then_inside (Threw f) go p h = p
  then_inside Retried go p h = tt

  repeated_inside : (times : ℕ) (go : State → Ending State Fault) (m : State) → ((m : State) → EndingInside (go m)) → EndingInside (repeated times go m)
  repeated_inside zero go m h = tt
  repeated_inside (suc times) go m h = then_inside (go m) (repeated times go) (h m) (λ m'. repeated_inside times go m' h)

  mutual
    run_inside : (s : Statement) (m : State) → knows_statement n [] k s ≡ true → EndingInside (run (instance_statement given s) m)
    run_inside Skip m h = tt
    run_inside (Set x e) m h = number_inside _ _ (value_inside e m (right _ _ h)) (λ v. tt)
    run_inside (Put t a b) m h = absurd (cc)
    run_inside (Seq parts) m h = run_all_inside parts m h
    run_inside (If c a b) m h =
        choose_inside _ _ _ (truth_inside c m (left _ _ h)) (run_inside a m (left _ _ (right _ _ h))) (run_inside b m (right _ _ (right _ _ h)))
    run_inside (Repeat times s) m h = repeated_inside times (run (instance_statement given s)) m (λ m'. run_inside s m' h)
    run_inside Retry m h = tt
    run_inside (OrElse a b) m h = unless_inside _ _ (run_inside a m (left _ _ h)) (run_inside b m (right _ _ h))
    run_inside (Throw e) m h = number_inside _ _ (value_inside e m h) (λ v. tt)

    run_all_inside : (parts : Statements) (m : State) → knows_statements n [] k parts ≡ true → EndingInside (run_all (instance_statements given parts) m)
    run_all_inside End m h = tt
    run_all_inside (More s rest) m h =
        then_inside _ (run_all (instance_statements given rest)) (run_inside s m (left _ _ h)) (λ m'. run_all_inside rest m' (right _ _ h))

-- ---- calls

demanded_inside : (i : ℕ) (b : Result Bool Fault) (r : Result ℤ Fault) → ResultInside r → ResultInside (demanded (broken i) (λ _. broken i) b r)
demanded_inside i (Ok true) r h = h
demanded_inside i (Ok false) r h = tt
demanded_inside i (Err f) r h = tt

upheld_inside : (i : ℕ) (cs : List Condition) (m : State) (v : ℤ) → ResultInside (upheld i cs m v)
upheld_inside i [] m v = tt
upheld_inside i (c ∷ cs) m v = demanded_inside i (truth c m) _ (upheld_inside (i + 1) cs m v)

final_inside : (cs : List Condition) (m : State) (r : Result ℤ Fault) → ResultInside r → ResultInside (upheld_result cs m r)
final_inside cs m (Ok v) h = upheld_inside 0 cs m v
final_inside cs m (Err f) h = h

by_inside : (r : Result ℤ Fault) → ResultInside r → OutcomeInside (outcome_by r)
by_inside (Ok v) h = tt
by_inside (Err f) h = h

of_inside : (e : Ending State Fault) (result : State → Result ℤ Fault) → EndingInside e → ((m : State) → ResultInside (result m)) → OutcomeInside (outcome_of e result)
of_inside (Done m) result h r = by_inside (result m) (r m)
of_inside (Threw f) result h r = h
of_inside Retried result h r = tt

call_inside : (l : Listing) (tx : TxId) (given : List ℤ) (m : State) → names_hold l ≡ true → spans l ≡ [] → tx.0 < length l.transactions → OutcomeInside (outcome (call_program l tx given) m)
call_inside l tx given m names none lt =
    let t = transaction_at l tx in
    let n = length l.names in
    let read = passes_at (knows_transaction n (spans l)) l.transactions tx.0 t (names_parts l names).known (slice_get-get_or l.transactions tx.0 _ lt) in
    let known : knows_transaction n [] t ≡ true = subst (λ (ts : List Span). knows_transaction n ts t ≡ true) none read in
    of_inside _ (final (call_program l tx given)) (run_inside n (arity t) given t.body m (left _ _ known))
    (λ m'. final_inside (conditions l) m' _ (value_inside n (arity t) given t.result m' (right _ _ known)))

positive : (n : ℕ) → nat_lt 0 (suc n) ≡ true
positive n = grind (arith, nat_tests)

-- where one does, cells can be told
outside_known : (l : Listing) (ts : List (List ℕ × ℕ)) (tx : TxId) (given : List ℤ) (m : State) → l.tables ≡ ts → names_hold l ≡ true → tx.0 < length l.transactions → Thrown Outside ≡ outcome (call_program l tx given) m → knows_cells l ≡ true
outside_known l [] tx given m e names lt is = absurd (subst OutcomeInside (sym is) (call_inside l tx given m names (ap (spans_from (length l.names)) e) lt))
outside_known l (t ∷ ts) tx given m e names lt is =
    let given = nat_lt 0 (most_arity l.transactions) in
    ap (λ (us : List (List ℕ × ℕ)). nat_lt 0 (length us) || given) e ∙ ap (λ (some : Bool). some || given) (positive (length ts))

-- ---- journals

replay_inside : (l : Listing) (es : List report.Entry) (base now : Snapshot) → names_hold l ≡ true → Replays l base es now
    → AllByRecursion (λ (e : report.Entry). e.outcome ≡ Thrown Outside → knows_cells l ≡ true) es
replay_inside l [] base now names r = tt
replay_inside l (e ∷ es) base now names r =
    let tx = known_task l e.task.0 e.tx names r.0.tx in (
      λ is. outside_known l l.tables e.tx _ base.state refl names tx (sym is ∙ r.0.outcome_is),
      replay_inside l es (applied l e base) now names r.1,
    )

-- an entry of a lawful report ends outside only where cells can be told
pub outside_told : (l : Listing) (r : Told) → names_hold l ≡ true → LawfulReport l r → All (λ (e : report.Entry). e.outcome ≡ Thrown Outside → knows_cells l ≡ true) r.entries
outside_told l r names lawful =
    All-from_recursion (λ (e : report.Entry). e.outcome ≡ Thrown Outside → knows_cells l ≡ true) r.entries (replay_inside l r.entries (base_of r) (now_of r) names lawful.replays)
