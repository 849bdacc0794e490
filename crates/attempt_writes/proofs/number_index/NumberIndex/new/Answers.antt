use Rattle.std.proofs.Common.{arith}
use Rattle.attempt_writes.proofs.Indexed.{found_empty, indexed_none}
use Rattle.attempt_writes.proofs.number_index.NumberIndex.new.Goals as goal

pub invariant_of-result : goal.invariant_of-result
invariant_of-result c =
    let none = indexed_none c.new.result.items c.new.ensures.items in
    record {
      distinct = none.0;
      known = none.1;
      found = found_empty c.new.result.items c.new-2.result.items c.new-3.result.items c.new.ensures.items c.new-2.ensures.items c.new-3.ensures.items;
      short = omega (arith, c.new.ensures.capacity);
    }
