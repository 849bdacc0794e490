use Rattle.std.proofs.Common.{◌≡◌, ◌≤◌, ◌-◌, ◌++◌, drop, take, length}
use Rattle.attempt_writes.specs.Own.{valued}
use Rattle.attempt_writes.proofs.written.gather.Given as goal

abbrev pub invariant-loop-i : goal.invariant-loop-i
invariant-loop-i l = record {
  low : l.kept ≤ l.i;
  within : l.i ≤ length l.pairs;
  same : length l.pairs ≡ length l.fn.pairs;
  rest : take l.kept l.pairs ++ valued (drop l.i l.pairs) l.table ≡ valued l.fn.pairs l.table;
}

abbrev pub decreases-loop-i : goal.decreases-loop-i
decreases-loop-i l = length l.pairs - l.i
