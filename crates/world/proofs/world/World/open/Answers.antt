use Rattle.std.proofs.Common.{sym, subst}
use Rattle.txn_programs.specs.Listing.{Listing}
use Rattle.world_law.specs.World.{IsOpening}
use Rattle.world.specs.Inside.{listing, world_of}
use Rattle.world.proofs.Reaching.{reached_opening}
use Rattle.world.proofs.world.World.open.Goals as goal

pub invariant_of-result : goal.invariant_of-result
invariant_of-result c =
    let s = c.in_ok-scene.scene in
    record {
      kept = c.in_ok-scene.ensures.kept;
      reached = reached_opening (listing s) (world_of s) (subst (λ (l : Listing). IsOpening l (world_of s)) (sym c.in_ok-scene.ensures.catalogue) c.in_ok-scene.ensures.opening);
    }
