use Rattle.std.proofs.Common.{◌≡◌, ◌≤◌, ◌-◌, ◌++◌, ℤ, take, drop, length}
use Rattle.attempt_writes.specs.Known.{known_at, write}
use Rattle.attempt_writes.proofs.written.place.Given as goal

abbrev pub invariant-loop-i : goal.invariant-loop-i
invariant-loop-i l = record {
  within : l.i ≤ length l.pairs;
  rest : (v : ℤ) → take l.i l.pairs ++ write (drop l.i l.pairs) l.x v ≡ write l.pairs l.x v;
  known : known_at (drop l.i l.pairs) l.x ≡ known_at l.pairs l.x;
}

abbrev pub decreases-loop-i : goal.decreases-loop-i
decreases-loop-i l = length l.pairs - l.i
