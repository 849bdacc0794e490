use Rattle.std.proofs.Common.{refl}
use Rattle.explore_search.specs.Inside.{rows}
use Rattle.explore_search.proofs.rows.Rows.new.Goals as goal

pub returns : goal.returns
unfolding rows
returns c = refl
