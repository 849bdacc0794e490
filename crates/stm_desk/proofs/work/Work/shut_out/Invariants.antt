use Rattle.std.specs.BTreeMap.{btree_map_len}
use Rattle.std.proofs.Common.{◌≡◌, true}
use Rattle.stm_store.specs.Keeping.{KeepsTasks}
use Rattle.stm_desk.specs.Asking.{IsServed}
use Rattle.stm_desk.specs.Running.{AreAwaited}
use Rattle.stm_desk.specs.Serving.{OnlyLeft}
use Rattle.stm_desk.specs.Waiting.{AreShutOut}
use Rattle.stm_desk.proofs.work.Work.shut_out.Given as goal

abbrev pub invariant-loop : goal.invariant-loop
invariant-loop l = record {
  left : OnlyLeft l.initial.self l.self;
  told : AreShutOut l.initial.self.waiters l.self.waiters;
  served : IsServed l.initial.self.store → IsServed l.self.store;
  awaited : AreAwaited l.initial.self.store l.initial.self.waiters → AreAwaited l.self.store l.self.waiters;
  first : l.self.first.value ≡ l.initial.self.first.value;
  closed : l.self.closed ≡ true;
  last : l.self.last ≡ l.initial.self.last;
  long : l.self.long.items ≡ l.initial.self.long.items;
  kept : KeepsTasks l.initial.self.store l.self.store;
}

abbrev pub decreases-loop : goal.decreases-loop
decreases-loop l = btree_map_len l.self.waiters.calls
