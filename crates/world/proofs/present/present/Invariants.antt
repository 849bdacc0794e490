use Rattle.std.specs.Prelude.{map}
use Rattle.world.specs.Inside.{state_items}
use Rattle.world.specs.WorldText.{ArePresent}
use Rattle.world.proofs.present.present.Given as goal

abbrev pub invariant-variables : goal.invariant-variables
invariant-variables l = ArePresent (map state_items l.history) l.x l.vars.items
