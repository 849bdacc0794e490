use Rattle.std.proofs.Common.{◌≡◌, replicate, None}
use Rattle.world.proofs.opening.no_attempts.Given as goal

abbrev pub invariant-loop : goal.invariant-loop
invariant-loop l = l.latest.items ≡ replicate l.counter None
