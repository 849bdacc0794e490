use Rattle.std.proofs.Common.{◌<◌}
use Rattle.explore_law.specs.declared.instance.InstanceId.{InstanceId}
use Rattle.explore_law.specs.Explored.{end_config}
use Rattle.explore_search.specs.Nearest.{ShowsByOwn}
use Rattle.explore_search.proofs.finding.by_which.Given as goal

-- it shows by none of those before
abbrev pub invariant-instances : goal.invariant-instances
invariant-instances l = (m : InstanceId) → m.0 < l.k → ShowsByOwn l.catalogue l.tx m l.sought (end_config l.here) → ⊥
