use Rattle.std.proofs.Common.{◌≡◌, drop}
use Rattle.explore_search.specs.Bucket.{hash_values}
use Rattle.explore_search.proofs.hash.with_values.Given as goal

abbrev pub invariant-values : goal.invariant-values
invariant-values l = hash_values l.hash (drop l.value-index l.values) ≡ hash_values l.fn.hash l.values
