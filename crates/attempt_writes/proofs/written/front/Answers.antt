use Rattle.std.proofs.Common.{◌+◌, ◌-◌, ◌/◌, ◌<◌, arith, add-one, pos, length}
use Rattle.std.proofs.lemmas.Option.{slice_get-get_or}
use Rattle.attempt_writes.proofs.InOrder.{before_to}
use Rattle.attempt_writes.proofs.written.front.Goals as goal

pub loop-low-preserved-then-pairs-middle : goal.loop-low-preserved-then-pairs-middle
loop-low-preserved-then-pairs-middle c =
    let w = c.args.pairs.now in
    let middle = c.loop-low.low + (c.loop-low.high - c.loop-low.low) / 2 in
    let lt : middle < length w = omega arith in
    record {
      order = omega arith;
      within = c.loop-low.invariant.within;
      before = rw add-one (before_to w middle c.args.x _ c.requires (slice_get-get_or w middle (record { 0 = 0 }, pos 0) lt) c.if-pairs-middle.true);
    }
