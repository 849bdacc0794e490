use Rattle.std.proofs.Common.{◌≡◌}
use Rattle.world.specs.Lines.{IsCommitting, StoresSome}
use Rattle.world.proofs.Stored.{left}
use Rattle.world.proofs.playing.store_all.Given as goal

abbrev pub invariant-stores : goal.invariant-stores
invariant-stores l = record {
  listing : l.world.listing ≡ l.fn.world.listing;
  some : StoresSome l.fn.world.listing l.fn.world.world l.world.world;
  committing : IsCommitting l.world.world l.number;
}

abbrev pub decreases-stores : goal.decreases-stores
decreases-stores l = left l.world.world
