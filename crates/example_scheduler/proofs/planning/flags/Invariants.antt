use Rattle.std.proofs.Common.{◌≡◌, map, pos, replicate}
use Rattle.example_scheduler.proofs.planning.flags.Given as goal

abbrev pub invariant-loop-step : goal.invariant-loop-step
invariant-loop-step l = map (λ flag. flag.1) l.flags.items ≡ replicate l.step-index (pos 0)
