use Rattle.std.proofs.Common.{◌≡◌}
use Rattle.explore_search.specs.Instancing.{index}
use Rattle.explore_search.proofs.Instancing.{so_far}
use Rattle.explore_search.proofs.instances.add_calls_to.Given as goal

abbrev pub invariant-tasks : goal.invariant-tasks
invariant-tasks l = record { calls : l.calls.items ≡ so_far l.catalogue l.tx.0 l.task; seen : l.seen ≡ index l.calls.items }
