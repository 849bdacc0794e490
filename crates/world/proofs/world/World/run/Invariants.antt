use Rattle.std.proofs.Common.{◌≡◌, take}
use Rattle.world.specs.Runs.{LeadTo}
use Rattle.world.proofs.world.World.run.Given as goal

abbrev pub invariant-loop-place : goal.invariant-loop-place
invariant-loop-place l = (l.self.listing ≡ l.initial.self.listing) × LeadTo l.initial.self.listing l.initial.self.world (take l.place l.events) l.self.world
