use Rattle.std.proofs.Common.{◌≡◌}
use Rattle.world.proofs.Moved.{LeadsOn, ChecksNow, to_check}
use Rattle.world.proofs.playing.move_on.Given as goal

abbrev pub invariant-checks : goal.invariant-checks
invariant-checks l = record {
  listing : l.world.listing ≡ l.fn.world.listing;
  on : LeadsOn l.fn.world.listing l.fn.world.world l.task l.seen l.world.world;
  now : ChecksNow l.world.world l.task l.seen;
}

abbrev pub decreases-checks : goal.decreases-checks
decreases-checks l = to_check l.seen l.world.world
