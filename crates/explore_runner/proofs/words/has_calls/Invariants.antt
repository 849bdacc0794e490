use Rattle.std.proofs.Common.{◌≡◌, drop}
use Rattle.explore_runner.specs.FoundText.{has_calls}
use Rattle.explore_runner.proofs.words.has_calls.Given as goal

abbrev pub invariant-calls : goal.invariant-calls
invariant-calls l = has_calls (drop l.call-index l.calls) l.number ≡ has_calls l.calls l.number
