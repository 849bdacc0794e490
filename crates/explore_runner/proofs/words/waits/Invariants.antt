use Rattle.std.proofs.Common.{◌≡◌, drop}
use Rattle.explore_runner.specs.FoundText.{waits}
use Rattle.explore_runner.proofs.words.waits.Given as goal

abbrev pub invariant-ends : goal.invariant-ends
invariant-ends l = waits (drop l.end-index l.ends) l.number ≡ waits l.ends l.number
