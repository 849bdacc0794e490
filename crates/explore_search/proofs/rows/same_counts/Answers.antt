use Rattle.std.specs.Cmp.{unsigned_Decides}
use Rattle.std.proofs.lemmas.Slice.Eq.{slice_eq-Decides}
use Rattle.explore_search.proofs.rows.same_counts.Goals as goal

pub returns : goal.returns
returns c = slice_eq-Decides unsigned_Decides _ _ _ c.eq.ensures
