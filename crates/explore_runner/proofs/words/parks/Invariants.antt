use Rattle.std.proofs.Common.{◌≡◌, ◌==◌, ◌&&◌, false}
use Rattle.explore_runner.specs.FoundText.{some_below, call_at, waits}
use Rattle.explore_runner.proofs.words.parks.Given as goal

abbrev pub invariant-calls : goal.invariant-calls
invariant-calls l = some_below (λ i. (call_at l.calls i).tx.0 == l.number && waits l.ends i) l.i ≡ false
