use Rattle.std.proofs.Common.{◌≡◌, length}
use Rattle.attempt_writes.specs.Order.{AllKnown}
use Rattle.attempt_writes.specs.Own.{AreListed}
use Rattle.attempt_writes.proofs.written.forget.Given as goal

abbrev pub invariant-loop-pair : goal.invariant-loop-pair
invariant-loop-pair l = record {
  wide : length l.table ≡ length l.fn.table;
  known : AllKnown (length l.table) l.pairs.items;
  listed : AreListed l.pairs.items l.table;
}

abbrev pub decreases-loop-pair : goal.decreases-loop-pair
decreases-loop-pair l = length l.pairs.items
