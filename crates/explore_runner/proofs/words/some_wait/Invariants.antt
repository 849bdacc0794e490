use Rattle.std.proofs.Common.{◌≡◌, drop}
use Rattle.explore_runner.specs.FoundText.{some_wait}
use Rattle.explore_runner.proofs.words.some_wait.Given as goal

abbrev pub invariant-counts : goal.invariant-counts
invariant-counts l = some_wait (drop l.count-index l.counts) ≡ some_wait l.counts
