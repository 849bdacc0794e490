use Rattle.std.proofs.Common.{◌≡◌, take}
use Rattle.explore_search.proofs.lefts.same.Given as goal

abbrev pub invariant-counts : goal.invariant-counts
invariant-counts l = take l.i l.some ≡ take l.i l.others
