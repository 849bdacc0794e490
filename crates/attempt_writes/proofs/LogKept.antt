-- A log with its table of places: how many pairs it has, and what holds of it when all are dropped.
use Rattle.std.proofs.Common.{◌≡◌, ◌<◌, ◌≤◌, None, ℤ, length, subst, sym, arith, length-take-le}
use Rattle.txn_programs.specs.declared.ast.VarId.{VarId}
use Rattle.attempt_writes.specs.declared.log_table.LogTable.TheInside.{Inside}
use Rattle.attempt_writes.specs.LogTableInside.{IsKept, pairs_of}
use Rattle.attempt_writes.specs.Known.{Known, known_at}
use Rattle.attempt_writes.proofs.Logged.{few_pairs, fewer_pairs}

pub count_is : (b : Inside) → IsKept b → length (pairs_of b) ≡ b.count
count_is b k = length-take-le b.count b.lines.items (omega (arith, k.within, k.room))

pub few_in : (b : Inside) → IsKept b → b.count ≤ 1048832
few_in b k = let few = few_pairs 1048832 (pairs_of b) k.apart k.known in omega (arith, few, count_is b k)

pub none_in : (b : Inside) (w : Known) (x : VarId) → pairs_of b ≡ w → known_at w x ≡ None → known_at (pairs_of b) x ≡ None
none_in b w x view none = subst (λ (l : Known). known_at l x ≡ None) (sym view) none

-- there is room for one more
pub fewer_in : (b : Inside) (w : Known) (x : VarId) (v : ℤ) → IsKept b → pairs_of b ≡ w → known_at w x ≡ None → x.0 < 1048832 → b.count < 1048832
fewer_in b w x v k view none lt =
    let few = fewer_pairs 1048832 (pairs_of b) x v k.apart k.known (none_in b w x view none) lt in
    omega (arith, few, count_is b k)
