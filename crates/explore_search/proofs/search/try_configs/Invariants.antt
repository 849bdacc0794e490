use Rattle.std.proofs.Common.{◌-◌, ◌≤◌, length}
use Rattle.explore_search.specs.Charted.{IsCharted}
use Rattle.explore_search.specs.Keeping.{AreAnswers}
use Rattle.explore_search.specs.Searching.{IsUnderWay}
use Rattle.explore_search.proofs.search.try_configs.Given as goal

abbrev pub invariant-configs : goal.invariant-configs
invariant-configs l =
    record {
      so_far : IsUnderWay l.catalogue l.limit l.s.configs l.s.kinds.items l.s.ends.items l.i 0;
      charted : IsCharted l.catalogue l.s.configs.configs l.s.came.items;
      answers : AreAnswers l.catalogue l.s.kept.answers.items;
      within : l.i ≤ length l.s.configs.configs;
    }

abbrev pub decreases-configs : goal.decreases-configs
decreases-configs l = l.limit - l.i
