use Rattle.std.proofs.Common.{arith}
use Rattle.explore_search.proofs.Calls.{few}
use Rattle.explore_search.proofs.finding.by_which.Goals as goal

pub overflow_cast-k-end : goal.overflow_cast-k-end
overflow_cast-k-end c = omega (arith, few c.args.catalogue.now c.args.calls.now c.rules.ensures.limits c.requires.calls)
