use Rattle.std.proofs.Common.{◌≡◌, take}
use Rattle.explore_search.proofs.lefts.narrow.Given as goal

abbrev pub invariant-counts : goal.invariant-counts
invariant-counts l = l.into.items ≡ take l.count-index l.left
