use Rattle.std.proofs.Common.{◌≡◌, ◌++◌, map, take, drop}
use Rattle.explore_law.specs.Instances.{instance_at}
use Rattle.explore_law.specs.Orders.{Config, Leads}
use Rattle.explore_runner.specs.Giving.{IsGiving, queues, config_of, entered_by}
use Rattle.explore_runner.proofs.turns.give_turns.Given as goal

abbrev pub invariant-turns : goal.invariant-turns
invariant-turns l =
    record {
      catalogue : l.book.catalogue ≡ l.fn.book.catalogue;
      underway : IsGiving l.book (queues l.waiting.items);
      entered : entered_by l.fn.book.catalogue l.book.journal ≡ entered_by l.fn.book.catalogue l.fn.book.journal ++ map (instance_at l.fn.book.catalogue) (take l.i l.turns);
      leads : (q : Config) → Leads l.fn.book.catalogue (config_of l.fn.book (queues l.fn.waiting.items)) l.turns q
          → Leads l.fn.book.catalogue (config_of l.book (queues l.waiting.items)) (drop l.i l.turns) q;
    }
