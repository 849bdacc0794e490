use Rattle.std.proofs.Common.{◌≡◌, ◌++◌, drop}
use Rattle.world_law.specs.World.{differences}
use Rattle.world.proofs.asking.changes.Given as goal

abbrev pub invariant-loop-x : goal.invariant-loop-x
invariant-loop-x l = l.changes.items ++ differences l.x (drop l.x l.before) (drop l.x l.after) ≡ differences 0 l.before l.after
