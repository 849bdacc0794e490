use Rattle.std.proofs.Common.{◌≤◌, ◌-◌, take, length}
use Rattle.attempt_writes.specs.Order.{AllBefore}
use Rattle.attempt_writes.proofs.written.front.Given as goal

abbrev pub invariant-loop-low : goal.invariant-loop-low
invariant-loop-low l = record {
  order : l.low ≤ l.high;
  within : l.high ≤ length l.pairs;
  before : AllBefore l.x (take l.low l.pairs);
}

abbrev pub decreases-loop-low : goal.decreases-loop-low
decreases-loop-low l = l.high - l.low
