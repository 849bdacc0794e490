use Rattle.std.proofs.Common.{rules}
use Rattle.explore_search.specs.Bucket.{bucket_of}
use Rattle.explore_search.proofs.hash.bucket.Goals as goal

pub returns-clause-value : goal.returns-clause-value
unfolding bucket_of
returns-clause-value c = search rules
