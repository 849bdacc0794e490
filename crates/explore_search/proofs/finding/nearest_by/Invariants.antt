use Rattle.explore_search.specs.Nearest.{IsNearestOrNone}
use Rattle.explore_search.proofs.Nearing.{AreLeft}
use Rattle.explore_search.proofs.finding.nearest_by.Given as goal

abbrev pub invariant-configs : goal.invariant-configs
invariant-configs l =
    record {
      nearest : IsNearestOrNone l.catalogue l.fn.tx l.fn.sought l.configs.configs l.i l.nearest;
      most : AreLeft l.catalogue l.fn.tx l.fn.sought l.configs.configs l.most l.nearest;
    }
