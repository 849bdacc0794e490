use Rattle.std.proofs.Common.{◌≡◌, take}
use Rattle.std.specs.List.{All}
use Rattle.run_workers.specs.declared.trials.How.TheVariants.{Idle}
use Rattle.run_workers.proofs.rounds.bring_all.Given as goal

abbrev pub invariant-loop-trial : goal.invariant-loop-trial
invariant-loop-trial g l = l.tries ≡ 0 → All (λ t. t.how ≡ Idle) (take l.trial-index l.trials)
