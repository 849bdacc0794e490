use Rattle.std.proofs.Common.{◌≡◌, map, take}
use Rattle.txn_programs.specs.Tree.{Seq}
use Rattle.example_scheduler.specs.Plan.{after_of, body_of, waits}
use Rattle.example_scheduler.proofs.planning.begins.Given as goal

abbrev pub invariant-loop-step : goal.invariant-loop-step
invariant-loop-step l = map body_of l.txs.items ≡ map (λ before. Seq (waits before)) (after_of (take l.step-index l.steps))
