use Rattle.std.proofs.Common.{◌≡◌, length}
use Rattle.stm_service.proofs.long.workers_of.Given as goal

abbrev pub invariant-loop-worker : goal.invariant-loop-worker
invariant-loop-worker l = (l.store.book ≡ l.initial.store.book) × (l.store.catalogue.now ≡ l.initial.store.catalogue.now)

abbrev pub decreases-loop-worker : goal.decreases-loop-worker
decreases-loop-worker l = length l.store.passes.items
