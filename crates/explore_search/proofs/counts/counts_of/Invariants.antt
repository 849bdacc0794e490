use Rattle.std.proofs.Common.{◌≡◌, ◌-◌, drop}
use Rattle.txn_programs.specs.Listing.{calls}
use Rattle.explore_law.specs.Orders.{counted}
use Rattle.explore_search.proofs.counts.counts_of.Given as goal

abbrev pub invariant-tasks : goal.invariant-tasks
invariant-tasks l = l.counts.items ≡ counted l.catalogue (drop (l.tasks - l.done) (calls l.catalogue))
