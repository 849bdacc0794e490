use Rattle.std.proofs.Common.{◌≡◌, ◌-◌, length, drop}
use Rattle.attempt.specs.Frame.{store}
use Rattle.explore_search.proofs.turn.store_in.Given as goal

abbrev pub invariant-writes : goal.invariant-writes
invariant-writes l = l.values.items ≡ store (drop (length l.writes - l.done) l.writes) l.fn.values.items
