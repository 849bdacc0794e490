use Rattle.std.proofs.Common.{◌≡◌, ◌*◌, ◌≤◌, take, sum}
use Rattle.explore_search.proofs.finding.in_all.Given as goal

abbrev pub invariant-instances : goal.invariant-instances
invariant-instances l =
    record {
      value : l.all ≡ sum (take l.count-index l.left);
      low : l.all ≤ l.count-index * 4294967295;
    }
