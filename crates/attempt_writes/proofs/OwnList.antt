-- There is room for each variable in an ascending list.
use Rattle.std.proofs.lemmas.List.Edits.{length-insert}
use Rattle.std.proofs.Common.{insert, ◌≡◌, ℕ, ◌+◌, ◌<◌, ◌≤◌, [], ◌∷◌, length, ℤ, ap, arith}
use Rattle.txn_programs.specs.declared.ast.VarId.{VarId}
use Rattle.attempt_writes.specs.Known.{Known, write}
use Rattle.attempt_writes.specs.Order.{AllKnown, AllAfter, Ascending}
use Rattle.attempt_writes.proofs.Pairs.{AllKnown-write, Ascending-write}

few_after : (n : ℕ) (y : VarId) (w : Known) → y.0 < n → AllAfter y w → Ascending w → AllKnown n w → length w + y.0 < n
few_after n y [] lt a s k = omega (arith, lt)
few_after n y (p ∷ rest) lt a s k = let more = few_after n p.0 rest k.0 s.0 s.1 k.1 in omega (arith, more, a.0)

few_known : (n : ℕ) (w : Known) → Ascending w → AllKnown n w → length w ≤ n
few_known n [] s k = omega arith
few_known n (p ∷ rest) s k = let more = few_after n p.0 rest k.0 s.0 s.1 k.1 in omega (arith, more)

-- a new variable has room
pub has_room : (n : ℕ) (w : Known) (i : ℕ) (x : VarId) (v : ℤ) → Ascending w → AllKnown n w → x.0 < n → i ≤ length w → insert w i (x, v) ≡ write w x v → length w < n
has_room n w i x v s k lt le e =
    let most = few_known n (write w x v) (Ascending-write w x v s) (AllKnown-write n w x v lt k) in
    let long = length-insert w i (x, v) le in
    let same : length (insert w i (x, v)) ≡ length (write w x v) = ap length e in
    omega (arith, most, long, same)
