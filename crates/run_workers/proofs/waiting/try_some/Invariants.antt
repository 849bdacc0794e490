use Rattle.std.proofs.Common.{◌≤◌}
use Rattle.run_workers.proofs.waiting.try_some.Given as goal

abbrev pub invariant-rests : goal.invariant-rests
invariant-rests g l = l.length ≤ 8000
