use Rattle.std.proofs.Common.{◌≤◌}
use Rattle.txn.proofs.weights.with_code.Given as goal

abbrev pub invariant-loop-op : goal.invariant-loop-op
invariant-loop-op l = l.weight ≤ 4294967294
