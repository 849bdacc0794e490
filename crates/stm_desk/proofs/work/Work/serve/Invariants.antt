use Rattle.book.proofs.Draining.{weight_of}
use Rattle.stm_store.specs.Keeping.{KeepsTasks}
use Rattle.stm_desk.specs.Asking.{GoesOn}
use Rattle.stm_desk.specs.Running.{AreAwaited, LendsOut}
use Rattle.stm_desk.specs.Waiting.{HandsOn}
use Rattle.stm_desk.proofs.work.Work.serve.Given as goal

abbrev pub invariant-loop : goal.invariant-loop
invariant-loop l = record {
  goes_on : GoesOn l.initial.self l.self;
  hands_on : HandsOn l.initial.self.waiters l.self.waiters;
  lends : LendsOut l.initial.self l.self;
  kept : KeepsTasks l.initial.self.store l.self.store;
  awaited : AreAwaited l.initial.self.store l.initial.self.waiters → AreAwaited l.self.store l.self.waiters;
}

abbrev pub decreases-loop : goal.decreases-loop
decreases-loop l = weight_of l.self.store.book.tasks
