use Rattle.std.proofs.Common.{◌≡◌, map, take}
use Rattle.txn_programs.specs.Tree.{statement_of}
use Rattle.example_scheduler.specs.Plan.{wait_for}
use Rattle.example_scheduler.proofs.planning.waits.Given as goal

abbrev pub invariant-loop-job : goal.invariant-loop-job
invariant-loop-job l = map statement_of l.parts.items ≡ map wait_for (take l.job-index l.jobs)
