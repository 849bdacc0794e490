use Rattle.std.proofs.Common.{◌<◌, length}
use Rattle.attempt_writes.specs.NumberIndex.{IsFound}
use Rattle.attempt_writes.proofs.number_index.make_room.Given as goal

abbrev pub invariant-loop-count : goal.invariant-loop-count
invariant-loop-count l = record {
  found : IsFound l.numbers l.count l.new_heads.items l.new_links.items;
  enough : length l.numbers < length l.new_heads.items;
}
