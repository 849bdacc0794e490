use Rattle.std.specs.Bool.{Decides}
use Rattle.explore_search.specs.Indexed.{config_at}
use Rattle.std.specs.Prelude.{◌≡◌}
use Rattle.explore_law.specs.Explored.{end_config}
use Rattle.explore_search.specs.Keeping.{AreAnswers}
use Rattle.explore_search.specs.Charted.{IsCharted}
use Rattle.explore_search.specs.Searching.{IsUnderWay, HasMoved, StaysAt}
use Rattle.explore_search.proofs.search.try_all.Given as goal

abbrev pub invariant-turns : goal.invariant-turns
invariant-turns l =
    record {
      so_far : IsUnderWay l.catalogue l.limit l.s.configs l.s.kinds.items l.s.ends.items l.i l.k;
      charted : IsCharted l.catalogue l.s.configs.configs l.s.came.items;
      answers : AreAnswers l.catalogue l.s.kept.answers.items;
      here : end_config l.s.here ≡ config_at l.s.configs.configs l.i;
      stays : StaysAt l.fn.s.configs l.s.configs l.i;
      moved : Decides l.moves (HasMoved l.catalogue (config_at l.fn.s.configs.configs l.i) l.k);
    }
