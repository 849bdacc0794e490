use Rattle.std.proofs.Common.{length, sym, ◌∙◌, ap}
use Rattle.explore_search.specs.Packed.{numbers, counts}
use Rattle.explore_search.specs.Shelf.{Shelf}
use Rattle.explore_search.proofs.FlatRows.{length-rows}
use Rattle.explore_search.proofs.rows.Rows.len.Goals as goal

pub returns : goal.returns
returns c = sym (length-rows c.self.inside.variables c.self.inside.counts c.self.inside.count (numbers c.self.inside.values) (counts c.self.inside.lefts)) ∙ ap (λ (s : Shelf). length s.configs) c.self.view_is
