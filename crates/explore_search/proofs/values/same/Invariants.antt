use Rattle.std.proofs.Common.{◌≡◌, take}
use Rattle.explore_search.proofs.values.same.Given as goal

abbrev pub invariant-values : goal.invariant-values
invariant-values l = take l.i l.some ≡ take l.i l.others
