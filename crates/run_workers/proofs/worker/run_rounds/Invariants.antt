use Rattle.std.proofs.Common.{◌≡◌, ◌<◌, ◌≤◌, length}
use Rattle.std.specs.Prelude.{IfSome}
use Rattle.txn_programs.specs.Listing.{tasks}
use Rattle.txn_programs.specs.declared.limits.TheConstants.{MAX_VARIABLES}
use Rattle.run_workers.specs.Standing.{ArePresent}
use Rattle.run_workers.proofs.worker.run_rounds.Given as goal

abbrev pub invariant-rounds : goal.invariant-rounds
invariant-rounds g l = record {
  left : IfSome l.left (λ t. t.0 < length (tasks g.N.Naming.catalogue));
  present : length g.N.Naming.catalogue.initial ≤ MAX_VARIABLES → ArePresent g.N.Naming.catalogue l.values.items;
  wide : length g.N.Naming.catalogue.initial ≤ MAX_VARIABLES → length l.values.items ≡ length g.N.Naming.catalogue.initial;
}
