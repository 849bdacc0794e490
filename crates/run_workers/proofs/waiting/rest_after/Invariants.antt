use Rattle.std.proofs.Common.{◌≤◌}
use Rattle.run_workers.proofs.waiting.rest_after.Given as goal

abbrev pub invariant-longer : goal.invariant-longer
invariant-longer l = l.length ≤ 8000
