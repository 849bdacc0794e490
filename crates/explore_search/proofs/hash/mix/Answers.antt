use Rattle.std.proofs.Common.{refl}
use Rattle.explore_search.specs.Bucket.{mixed}
use Rattle.explore_search.proofs.hash.mix.Goals as goal

pub returns : goal.returns
unfolding mixed
returns c = refl
