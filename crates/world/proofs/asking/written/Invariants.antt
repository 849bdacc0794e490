use Rattle.std.proofs.Common.{◌≡◌, ◌-◌, length, drop}
use Rattle.attempt.specs.Frame.{store}
use Rattle.world.proofs.asking.written.Given as goal

abbrev pub invariant-loop-done : goal.invariant-loop-done
invariant-loop-done l = l.next.items ≡ store (drop (length l.writes - l.done) l.writes) l.state
