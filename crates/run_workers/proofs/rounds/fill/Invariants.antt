use Rattle.std.proofs.Common.{◌<◌, length}
use Rattle.txn_programs.specs.Listing.{tasks}
use Rattle.run_workers.proofs.rounds.fill.Given as goal

abbrev pub invariant-takes : goal.invariant-takes
invariant-takes g l = l.task.0 < length (tasks g.N.Naming.catalogue)
