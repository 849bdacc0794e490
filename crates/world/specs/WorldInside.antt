-- What the fields of a world mean, and what they keep.
use Rattle.world_law.specs.Next.{Reachable}
use Rattle.world.specs.declared.world.World.TheInside.{Inside}
use Rattle.world.specs.Inside.{listing, world_of, Kept}
use Rattle.world.specs.View.{WorldView}

abbrev pub viewed : Inside → WorldView
viewed w = record { listing = listing w.scene; world = world_of w.scene }

-- events lead to it
pub record IsKept (w : Inside) : Type 0 where
  pub kept : Kept w.scene
  pub reached : Reachable (listing w.scene) (world_of w.scene)
