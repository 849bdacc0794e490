-- What a contract sees of a world.
use Rattle.txn_programs.specs.Listing.{Listing}
use Rattle.world_law.specs.World.{World}

pub record WorldView : Type 0 where
  -- what its catalogue says
  pub listing : Listing
  pub world : World
