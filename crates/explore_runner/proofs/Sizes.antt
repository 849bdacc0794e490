-- A transaction keeps how many values there are.
use Rattle.std.proofs.Common.{◌≡◌, ℕ, zero, suc, ◌≤◌, Bool, true, false, List, [], ◌∷◌, length, Result, Ok, Err, ℤ, refl, ◌∙◌, ap, arith, cond}
use Rattle.std.proofs.lemmas.List.{length-set}
use Rattle.std.proofs.lemmas.List.Elements.{All-nil, All-cons, All-head, All-tail}
use Rattle.std.proofs.lemmas.Bool.{cond_both}
use Rattle.std.specs.List.{All}
use Rattle.std.specs.Ordering.{int_eq}
use Rattle.txn_programs.specs.declared.ast.Fault.{Fault}
use Rattle.txn_programs.specs.declared.ast.Fault.TheVariants.{User}
use Rattle.txn_programs.specs.declared.ast.VarId.{VarId}
use Rattle.txn_programs.specs.Tables.{cell_of}
use Rattle.txn_programs.specs.Tree.{Statement, Skip, Set, Put, Seq, If, Repeat, Retry, OrElse, Throw, Statements, End, More, Program}
use Rattle.txn_programs.specs.Meaning.{State, value, truth, Ending, Done, Threw, Retried, then_do, unless_retried, with_number, with_cell, choose, repeated, run, run_all, with_value, kept_by, state_after, final, after}
use Rattle.txn_programs.specs.Replay.{versions_after}

abbrev Sized : ℕ → Ending State Fault → Type 0
Sized n (Done m) = length m ≡ n
Sized n (Threw f) = Unit {0}
Sized n Retried = Unit {0}

module _ (n : ℕ) where
  then_sized : (e : Ending State Fault) (go : State → Ending State Fault) → Sized n e → ((m : State) → length m ≡ n → Sized n (go m)) → Sized n (then_do e go)
  then_sized (Done m) go h k = k m h
  then_sized (Threw f) go h k = tt
  then_sized Retried go h k = tt

  unless_sized : (a b : Ending State Fault) → Sized n a → Sized n b → Sized n (unless_retried a b)
  unless_sized (Done m) b p q = p
  unless_sized (Threw f) b p q = tt
  unless_sized Retried b p q = q

  with_sized : (r : Result ℤ Fault) (go : ℤ → Ending State Fault) → ((v : ℤ) → Sized n (go v)) → Sized n (with_number r go)
  with_sized (Ok v) go h = h v
  with_sized (Err f) go h = tt

  in_cell_sized : (r : Result VarId Fault) (go : VarId → Ending State Fault) → ((x : VarId) → Sized n (go x)) → Sized n (with_cell r go)
  in_cell_sized (Ok x) go h = h x
  in_cell_sized (Err f) go h = tt

  choose_sized : (r : Result Bool Fault) (a b : Ending State Fault) → Sized n a → Sized n b → Sized n (choose r a b)
  choose_sized (Ok true) a b p q = p
  choose_sized (Ok false) a b p q = q
  choose_sized (Err f) a b p q = tt

  repeated_sized : (k : ℕ) (go : State → Ending State Fault) (m : State) → length m ≡ n → ((m : State) → length m ≡ n → Sized n (go m)) → Sized n (repeated k go m)
  repeated_sized zero go m h each = h
  repeated_sized (suc k) go m h each = then_sized (go m) (repeated k go) (each m h) (λ m' h'. repeated_sized k go m' h' each)

  mutual
    run_sized : (s : Statement) (m : State) → length m ≡ n → Sized n (run s m)
    run_sized Skip m h = h
    run_sized (Set x e) m h = with_sized (value e m) (λ v. Done (with_value m x v)) (λ v. length-set m x.0 v ∙ h)
    run_sized (Put t a b) m h =
        with_sized (value a m) _ (λ i. with_sized (value b m) _ (λ v. in_cell_sized (cell_of t i) (λ x. Done (with_value m x v)) (λ x. length-set m x.0 v ∙ h)))
    run_sized (Seq parts) m h = run_all_sized parts m h
    run_sized (If c a b) m h = choose_sized (truth c m) (run a m) (run b m) (run_sized a m h) (run_sized b m h)
    run_sized (Repeat k s) m h = repeated_sized k (run s) m h (run_sized s)
    run_sized Retry m h = tt
    run_sized (OrElse a b) m h = unless_sized (run a m) (run b m) (run_sized a m h) (run_sized b m h)
    run_sized (Throw e) m h = with_sized (value e m) (λ v. Threw (User v)) (λ v. tt)

    run_all_sized : (s : Statements) (m : State) → length m ≡ n → Sized n (run_all s m)
    run_all_sized End m h = h
    run_all_sized (More s rest) m h = then_sized (run s m) (run_all rest) (run_sized s m h) (run_all_sized rest)

kept_sized : (m m' : State) (r : Result ℤ Fault) → length m' ≡ length m → length (kept_by m m' r) ≡ length m
kept_sized m m' (Ok v) h = h
kept_sized m m' (Err f) h = refl

pub after_sized : (t : Program) (m : State) → length (after t m) ≡ length m
after_sized t m = by (run t.body m) (run_sized (length m) t.body m refl)
  where
    by : (e : Ending State Fault) → Sized (length m) e → length (state_after m e (final t)) ≡ length m
    by (Done m') h = kept_sized m m' (final t m') h
    by (Threw f) h = refl
    by Retried h = refl

pub versions_sized : (n : ℕ) (old new : State) (ks : List ℕ) → length new ≡ length old → length ks ≡ length old → length (versions_after n old new ks) ≡ length old
versions_sized n [] new ks a b = refl
versions_sized n (o ∷ os) [] ks a b = absurd (omega (arith, a))
versions_sized n (o ∷ os) (v ∷ vs) [] a b = absurd (omega (arith, b))
versions_sized n (o ∷ os) (v ∷ vs) (k ∷ ks) a b = ap suc (versions_sized n os vs ks (omega (arith, a)) (omega (arith, b)))

-- no version is above the number
pub versions_recent : (m n : ℕ) (old new : State) (ks : List ℕ) → m ≤ n → All (λ (v : ℕ). v ≤ m) ks → All (λ (v : ℕ). v ≤ n) (versions_after n old new ks)
versions_recent m n [] new ks le h = All-nil (λ (v : ℕ). v ≤ n)
versions_recent m n (o ∷ os) [] ks le h = All-nil (λ (v : ℕ). v ≤ n)
versions_recent m n (o ∷ os) (v ∷ vs) [] le h = All-nil (λ (v : ℕ). v ≤ n)
versions_recent m n (o ∷ os) (v ∷ vs) (k ∷ ks) le h =
    let head : k ≤ m = All-head (λ (v : ℕ). v ≤ m) k ks h in
    let first : cond (int_eq o v) k n ≤ n = cond_both (int_eq o v) k n (λ (z : ℕ). z ≤ n) (λ e. omega (arith, head, le)) (λ e. omega arith) in
    All-cons (λ (v : ℕ). v ≤ n) (cond (int_eq o v) k n) (versions_after n os vs ks) first
    (versions_recent m n os vs ks le (All-tail (λ (v : ℕ). v ≤ m) k ks h))
