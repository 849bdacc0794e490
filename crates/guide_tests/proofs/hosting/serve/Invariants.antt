use Rattle.std.proofs.Common.{◌≡◌}
use Rattle.txn_programs.specs.Listing.{IsCallable}
use Rattle.guide_tests.proofs.hosting.serve.Given as goal

abbrev pub invariant-loop : goal.invariant-loop
invariant-loop l = (l.worker.catalogue.now ≡ l.store.catalogue.now) × IsCallable l.worker.catalogue.now l.job.tx l.job.arguments
