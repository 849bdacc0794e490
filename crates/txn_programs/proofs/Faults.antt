-- Which faults a transaction throws: a condition that it names is one of those that stand.
use Rattle.std.proofs.Common.{ℕ, zero, suc, ◌+◌, ◌<◌, ◌≤◌, Bool, true, false, nat_lt, if◌then◌else◌, List, [], ◌∷◌, length, Result, Ok, Err, ℤ, pos, negsuc, arith}
use Rattle.std.proofs.lemmas.List.{length-map}
use Rattle.std.specs.Prelude.{◌+ℤ◌, ◌-ℤ◌, ◌*ℤ◌}
use Rattle.std.specs.Int.RustNames.{int_div, int_rem}
use Rattle.txn_programs.specs.Arithmetic.{fits, fitted, sum_of, difference_of, product_of, quotient_of, remainder_of}
use Rattle.txn_programs.specs.declared.ast.Fault.{Fault}
use Rattle.txn_programs.specs.declared.ast.Fault.TheVariants.{Overflow, Outside}
use Rattle.txn_programs.specs.declared.ast.TxId.{TxId}
use Rattle.txn_programs.specs.Tree.{Expression, Int, Var, Param, Cell, OfAll, Add, Sub, Mul, Div, Rem, Condition, Eq, Lt, Le, Not, And, Or, Statement, Skip, Set, Put, Seq, If, Repeat, Retry, OrElse, Throw, Statements, End, More, Program}
use Rattle.txn_programs.specs.declared.ast.Fold.{Fold}
use Rattle.txn_programs.specs.declared.ast.Fold.TheVariants as fold
use Rattle.txn_programs.specs.declared.ast.VarId.{VarId}
use Rattle.txn_programs.specs.Tables.{cell_from, cell_of, beginning, joined}
use Rattle.txn_programs.specs.Meaning.{State, value_at, then_value, joined_from, with_cell, value, truth, both, negated, and_then, or_else, Ending, Done, Threw, Retried, then_do, unless_retried, with_number, choose, repeated, run, run_all, broken, demanded, upheld, upheld_result, final, outcome_by, outcome_of, outcome}
use Rattle.txn_programs.specs.Listing.{Listing, program_at}
use Rattle.txn_programs.specs.LawfulReport.{FaultKnown, OutcomeKnown}

abbrev ResultKnown : {A : Type 0} → ℕ → Result A Fault → Type 0
ResultKnown n (Ok v) = Unit {0}
ResultKnown n (Err f) = FaultKnown n f

abbrev EndingKnown : ℕ → Ending State Fault → Type 0
EndingKnown n (Done m) = Unit {0}
EndingKnown n (Threw f) = FaultKnown n f
EndingKnown n Retried = Unit {0}

module _ (n : ℕ) where
  fitted_known : (z r : ℤ) → ResultKnown n (fitted z r)
  fitted_known z r = at (fits z)
    where
      at : (b : Bool) → ResultKnown n (if b then Ok r else Err Overflow)
      at true = tt
      at false = tt

  quotient_known : (x y : ℤ) → ResultKnown n (quotient_of x y)
  quotient_known x (pos zero) = tt
  quotient_known x (pos (suc k)) = fitted_known (int_div x (pos (suc k))) (int_div x (pos (suc k)))
  quotient_known x (negsuc k) = fitted_known (int_div x (negsuc k)) (int_div x (negsuc k))

  remainder_known : (x y : ℤ) → ResultKnown n (remainder_of x y)
  remainder_known x (pos zero) = tt
  remainder_known x (pos (suc k)) = fitted_known (int_div x (pos (suc k))) (int_rem x (pos (suc k)))
  remainder_known x (negsuc k) = fitted_known (int_div x (negsuc k)) (int_rem x (negsuc k))

  both_known : {A : Type 0} (f : ℤ → ℤ → Result A Fault) (a b : Result ℤ Fault) → ((x y : ℤ) → ResultKnown n (f x y)) → ResultKnown n a → ResultKnown n b → ResultKnown n (both f a b)
  both_known f (Err e) b h p q = p
  both_known f (Ok x) (Err e) h p q = q
  both_known f (Ok x) (Ok y) h p q = h x y

  then_known_value : {A B : Type 0} (r : Result A Fault) (go : A → Result B Fault) → ResultKnown n r → ((v : A) → ResultKnown n (go v)) → ResultKnown n (then_value r go)
  then_known_value (Ok v) go p h = h v
  then_known_value (Err f) go p h = p

  cell_known : (first count : ℕ) (i : ℤ) → ResultKnown {A = VarId} n (cell_from first count i)
  cell_known first count (pos i) = at (nat_lt i count)
    where
      at : (b : Bool) → ResultKnown {A = VarId} n (if b then Ok (record { 0 = first + i }) else Err Outside)
      at true = tt
      at false = tt
  cell_known first count (negsuc i) = tt

  join_known : (f : Fold) (x y : ℤ) → ResultKnown n (joined f x y)
  join_known fold.Sum x y = fitted_known (x +ℤ y) (x +ℤ y)
  join_known fold.Min x y = tt
  join_known fold.Max x y = tt

  joined_known : (f : Fold) (m : State) (k x : ℕ) (v : ℤ) → ResultKnown n (joined_from (joined f) (λ y. Ok (value_at m y)) k x v)
  joined_known f m zero x v = tt
  joined_known f m (suc k) x v = then_known_value (joined f v (value_at m (record { 0 = x }))) _ (join_known f v (value_at m (record { 0 = x }))) (λ u. joined_known f m k (suc x) u)

  value_known : (e : Expression) (m : State) → ResultKnown n (value e m)
  value_known (Int v) m = tt
  value_known (Var x) m = tt
  value_known (Param p) m = tt
  value_known (Cell t a) m = then_known_value (value a m) _ (value_known a m) (λ i. then_known_value (cell_of t i) _ (cell_known t.first t.length i) (λ x. tt))
  value_known (OfAll f t) m = joined_known f m t.length t.first (beginning f)
  value_known (Add a b) m = both_known sum_of (value a m) (value b m) (λ x y. fitted_known (x +ℤ y) (x +ℤ y)) (value_known a m) (value_known b m)
  value_known (Sub a b) m = both_known difference_of (value a m) (value b m) (λ x y. fitted_known (x -ℤ y) (x -ℤ y)) (value_known a m) (value_known b m)
  value_known (Mul a b) m = both_known product_of (value a m) (value b m) (λ x y. fitted_known (x *ℤ y) (x *ℤ y)) (value_known a m) (value_known b m)
  value_known (Div a b) m = both_known quotient_of (value a m) (value b m) quotient_known (value_known a m) (value_known b m)
  value_known (Rem a b) m = both_known remainder_of (value a m) (value b m) remainder_known (value_known a m) (value_known b m)

  negated_known : (r : Result Bool Fault) → ResultKnown n r → ResultKnown n (negated r)
  negated_known (Ok b) h = tt
  negated_known (Err f) h = h

  and_known : (a b : Result Bool Fault) → ResultKnown n a → ResultKnown n b → ResultKnown n (and_then a b)
  and_known (Ok true) b p q = q
  and_known (Ok false) b p q = tt
  and_known (Err f) b p q = p

  or_known : (a b : Result Bool Fault) → ResultKnown n a → ResultKnown n b → ResultKnown n (or_else a b)
  or_known (Ok true) b p q = tt
  or_known (Ok false) b p q = q
  or_known (Err f) b p q = p

  truth_known : (c : Condition) (m : State) → ResultKnown n (truth c m)
  truth_known (Eq a b) m = both_known _ (value a m) (value b m) (λ x y. tt) (value_known a m) (value_known b m)
  truth_known (Lt a b) m = both_known _ (value a m) (value b m) (λ x y. tt) (value_known a m) (value_known b m)
  truth_known (Le a b) m = both_known _ (value a m) (value b m) (λ x y. tt) (value_known a m) (value_known b m)
  truth_known (Not c) m = negated_known (truth c m) (truth_known c m)
  truth_known (And a b) m = and_known (truth a m) (truth b m) (truth_known a m) (truth_known b m)
  truth_known (Or a b) m = or_known (truth a m) (truth b m) (truth_known a m) (truth_known b m)

  number_known : (r : Result ℤ Fault) (go : ℤ → Ending State Fault) → ResultKnown n r → ((v : ℤ) → EndingKnown n (go v)) → EndingKnown n (with_number r go)
  number_known (Ok v) go p h = h v
  number_known (Err f) go p h = p

  in_cell_known : (r : Result VarId Fault) (go : VarId → Ending State Fault) → ResultKnown n r → ((x : VarId) → EndingKnown n (go x)) → EndingKnown n (with_cell r go)
  in_cell_known (Ok x) go p h = h x
  in_cell_known (Err f) go p h = p

  choose_known : (r : Result Bool Fault) (a b : Ending State Fault) → ResultKnown n r → EndingKnown n a → EndingKnown n b → EndingKnown n (choose r a b)
  choose_known (Ok true) a b p q r = q
  choose_known (Ok false) a b p q r = r
  choose_known (Err f) a b p q r = p

  unless_known : (a b : Ending State Fault) → EndingKnown n a → EndingKnown n b → EndingKnown n (unless_retried a b)
  unless_known (Done m) b p q = tt
  unless_known (Threw f) b p q = p
  unless_known Retried b p q = q

  then_known : (a : Ending State Fault) (go : State → Ending State Fault) → EndingKnown n a → ((m : State) → EndingKnown n (go m)) → EndingKnown n (then_do a go)
  then_known (Done m) go p h = h m
  then_known (Threw f) go p h = p
  then_known Retried go p h = tt

  repeated_known : (k : ℕ) (go : State → Ending State Fault) (m : State) → ((m : State) → EndingKnown n (go m)) → EndingKnown n (repeated k go m)
  repeated_known zero go m h = tt
  repeated_known (suc k) go m h = then_known (go m) (repeated k go) (h m) (λ m'. repeated_known k go m' h)

  mutual
    run_known : (s : Statement) (m : State) → EndingKnown n (run s m)
    run_known Skip m = tt
    run_known (Set x e) m = number_known (value e m) _ (value_known e m) (λ v. tt)
    run_known (Put t a b) m =
        number_known (value a m) _ (value_known a m) (λ i. number_known (value b m) _ (value_known b m) (λ v. in_cell_known (cell_of t i) _ (cell_known t.first t.length i) (λ x. tt)))
    run_known (Seq parts) m = run_all_known parts m
    run_known (If c a b) m = choose_known (truth c m) (run a m) (run b m) (truth_known c m) (run_known a m) (run_known b m)
    run_known (Repeat k s) m = repeated_known k (run s) m (run_known s)
    run_known Retry m = tt
    run_known (OrElse a b) m = unless_known (run a m) (run b m) (run_known a m) (run_known b m)
    run_known (Throw e) m = number_known (value e m) _ (value_known e m) (λ v. tt)

    run_all_known : (parts : Statements) (m : State) → EndingKnown n (run_all parts m)
    run_all_known End m = tt
    run_all_known (More s rest) m = then_known (run s m) (run_all rest) (run_known s m) (run_all_known rest)

  demanded_known : (k : ℕ) (b : Result Bool Fault) (r : Result ℤ Fault) → k < n → ResultKnown n r → ResultKnown n (demanded (broken k) (λ _. broken k) b r)
  demanded_known k (Ok true) r lt h = h
  demanded_known k (Ok false) r lt h = lt
  demanded_known k (Err f) r lt h = lt

  upheld_known : (k : ℕ) (cs : List Condition) (m : State) (v : ℤ) → k + length cs ≤ n → ResultKnown n (upheld k cs m v)
  upheld_known k [] m v le = tt
  upheld_known k (c ∷ cs) m v le = demanded_known k (truth c m) _ (omega (arith, le)) (upheld_known (k + 1) cs m v (omega (arith, le)))

  final_known : (cs : List Condition) (m : State) (r : Result ℤ Fault) → length cs ≤ n → ResultKnown n r → ResultKnown n (upheld_result cs m r)
  final_known cs m (Ok v) le h = upheld_known 0 cs m v (omega (arith, le))
  final_known cs m (Err f) le h = h

  by_known : (r : Result ℤ Fault) → ResultKnown n r → OutcomeKnown n (outcome_by r)
  by_known (Ok v) h = tt
  by_known (Err f) h = h

  program_known : (t : Program) (m : State) → length t.always ≤ n → OutcomeKnown n (outcome t m)
  program_known t m le = at (run t.body m) (run_known t.body m)
    where
      at : (e : Ending State Fault) → EndingKnown n e → OutcomeKnown n (outcome_of e (final t))
      at (Done m') h = by_known (final t m') (final_known t.always m' (value t.result m') le (value_known t.result m'))
      at (Threw f) h = h
      at Retried h = tt

-- a condition that an outcome names is one of the listing's
pub outcome_known : (l : Listing) (tx : TxId) (m : State) → OutcomeKnown (length l.always) (outcome (program_at l tx) m)
outcome_known l tx m = program_known (length l.always) (program_at l tx) m (omega (arith, length-map l.always (λ a. a.1)))
