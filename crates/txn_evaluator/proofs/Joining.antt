-- All cells of a table, one after another.
use Rattle.std.proofs.Common.{◌≡◌, ℕ, zero, suc, ◌+◌, ◌-◌, ◌<◌, ℤ, Result, Ok, Err, refl, arith}
use Rattle.txn_programs.specs.declared.ast.Fault.{Fault}
use Rattle.txn_programs.specs.declared.ast.Fold.{Fold}
use Rattle.txn_programs.specs.Meaning.{State, joined_from, value_at}
use Rattle.txn_programs.specs.Tables.{joined}

-- the cells from one before the end on
abbrev pub cells_from : Fold → State → ℕ → ℕ → ℤ → Result ℤ Fault
cells_from f m end x v = joined_from (joined f) (λ x. Ok (value_at m x)) (end - x) x v

module _ (f : Fold) (m : State) (end x : ℕ) (v : ℤ) (lt : x < end) where
  -- one of them joined, and then the next ones
  pub next_cell : (u : ℤ) → joined f v (value_at m (record { 0 = x })) ≡ Ok u → cells_from f m end x v ≡ cells_from f m end (x + 1) u
  next_cell u h = go (end - x) refl where
    go : (n : ℕ) → end - x ≡ n → cells_from f m end x v ≡ cells_from f m end (x + 1) u
    go zero e = absurd (omega (arith, e, lt))
    go (suc n) e =
        let d : end - (x + 1) ≡ n = omega (arith, e) in
        let s : x + 1 ≡ suc x = omega arith in
        rw (e, h, d, s) refl

  -- or a fault, with which they end
  pub last_cell : (e : Fault) → joined f v (value_at m (record { 0 = x })) ≡ Err e → cells_from f m end x v ≡ Err e
  last_cell fault h = go (end - x) refl where
    go : (n : ℕ) → end - x ≡ n → cells_from f m end x v ≡ Err fault
    go zero e = absurd (omega (arith, e, lt))
    go (suc n) e = rw (e, h) refl
