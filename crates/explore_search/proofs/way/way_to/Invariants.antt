use Rattle.std.proofs.Common.{◌<◌, length, reverse}
use Rattle.explore_law.specs.Orders.{Leads}
use Rattle.explore_search.specs.Indexed.{config_at}
use Rattle.explore_search.proofs.way.way_to.Given as goal

-- the turns so far, last first, lead from the configuration to which they go back
abbrev pub invariant-back : goal.invariant-back
invariant-back l =
    record {
      within : l.at < length l.configs.configs;
      leads : Leads l.catalogue (config_at l.configs.configs l.at) (reverse l.way.items) (config_at l.configs.configs l.number);
    }

abbrev pub decreases-back : goal.decreases-back
decreases-back l = l.at
