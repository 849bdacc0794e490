use Rattle.std.proofs.Common.{◌≡◌, drop}
use Rattle.explore_search.specs.Bucket.{hash_counts}
use Rattle.explore_search.proofs.hash.with_counts.Given as goal

abbrev pub invariant-counts : goal.invariant-counts
invariant-counts l = hash_counts l.hash (drop l.count-index l.counts) ≡ hash_counts l.fn.hash l.counts
