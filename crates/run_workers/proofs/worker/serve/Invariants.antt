use Rattle.std.proofs.Common.{◌≡◌, ◌<◌, length}
use Rattle.txn_programs.specs.Listing.{tasks}
use Rattle.run_workers.proofs.worker.serve.Given as goal

abbrev pub invariant-loop : goal.invariant-loop
invariant-loop g l =
    (goal.iterator-loop g).can_next l.iterator'
    × (goal.iterator-loop g).is_finite l.iterator'
    × (l.pass.cells ≡ l.crew.cells.now)
    × (l.task.0 < length (tasks g.N.Naming.catalogue))
