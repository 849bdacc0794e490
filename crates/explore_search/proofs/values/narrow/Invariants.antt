use Rattle.std.proofs.Common.{◌≡◌, take}
use Rattle.explore_search.proofs.values.narrow.Given as goal

abbrev pub invariant-values : goal.invariant-values
invariant-values l = l.into.items ≡ take l.value-index l.values
