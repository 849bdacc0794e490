use Rattle.std.proofs.Common.{◌≡◌}
use Rattle.explore_search.specs.Instancing.{first_calls, index}
use Rattle.explore_search.proofs.instances.instances_of.Given as goal

abbrev pub invariant-transactions : goal.invariant-transactions
invariant-transactions l = record { calls : l.calls.items ≡ first_calls l.catalogue l.tx; seen : l.seen ≡ index l.calls.items }
