-- A sequence behind another, and what nothing follows.
use Rattle.std.proofs.Common.{◌≡◌, ℤ, Result, Ok, Err, refl, sym, ◌∙◌, ap}
use Rattle.txn_programs.specs.declared.ast.Fault.{Fault}
use Rattle.txn_programs.specs.declared.ast.Fault.TheVariants.{User}
use Rattle.txn_programs.specs.Tree.{Expression, Retry, Throw, Statements, End, More}
use Rattle.txn_programs.specs.Meaning.{State, Ending, Done, Threw, Retried, then_do, with_number, value, run, run_all}
use Rattle.txn_evaluator.specs.Worked.{joined}

-- two steps behind an ending are one step behind it
behind : (e : Ending State Fault) (go f g : State → Ending State Fault) → ((m : State) → go m ≡ then_do (f m) g) → then_do e go ≡ then_do (then_do e f) g
behind (Done m) go f g h = h m
behind (Threw x) go f g h = refl
behind Retried go f g h = refl

alike : (e : Ending State Fault) (f g : State → Ending State Fault) → ((m : State) → f m ≡ g m) → then_do e f ≡ then_do e g
alike (Done m) f g h = h m
alike (Threw x) f g h = refl
alike Retried f g h = refl

run_joined : (parts after : Statements) (m : State) → run_all (joined parts after) m ≡ then_do (run_all parts m) (run_all after)
run_joined End after m = refl
run_joined (More s rest) after m = behind (run s m) (run_all (joined rest after)) (run_all rest) (run_all after) (run_joined rest after)

-- a throw stops what follows it
thrown : (r : Result ℤ Fault) (go : State → Ending State Fault)
    → then_do (with_number r (λ v. Threw (User v))) go ≡ with_number r (λ v. Threw (User v))
thrown (Ok v) go = refl
thrown (Err f) go = refl

module _ (parts rest : Statements) (m : State) where
  pub retry_anywhere : run_all (joined parts (More Retry rest)) m ≡ run_all (joined parts (More Retry End)) m
  retry_anywhere = run_joined parts (More Retry rest) m ∙ sym (run_joined parts (More Retry End) m)

  pub retry_ends : (n : State) → run_all parts m ≡ Done n → run_all (joined parts (More Retry rest)) m ≡ Retried
  retry_ends n h = run_joined parts (More Retry rest) m ∙ ap (λ (e : Ending State Fault). then_do e (run_all (More Retry rest))) h

  pub throw_anywhere : (e : Expression) → run_all (joined parts (More (Throw e) rest)) m ≡ run_all (joined parts (More (Throw e) End)) m
  throw_anywhere e =
      run_joined parts (More (Throw e) rest) m
      ∙ (alike (run_all parts m) (run_all (More (Throw e) rest)) (run_all (More (Throw e) End)) (λ n. thrown (value e n) (run_all rest) ∙ sym (thrown (value e n) (run_all End)))
      ∙ sym (run_joined parts (More (Throw e) End) m))

  pub throw_ends : (e : Expression) (n : State) → run_all parts m ≡ Done n → run_all (joined parts (More (Throw e) rest)) m ≡ run (Throw e) n
  throw_ends e n h =
      run_joined parts (More (Throw e) rest) m
      ∙ (ap (λ (e' : Ending State Fault). then_do e' (run_all (More (Throw e) rest))) h ∙ thrown (value e n) (run_all rest))
