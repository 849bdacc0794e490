use Rattle.book.proofs.Draining.{weight_of}
use Rattle.stm_store.specs.Keeping.{KeepsTasks}
use Rattle.stm_desk.specs.Asking.{GoesOn, IsStill}
use Rattle.stm_desk.specs.Waiting.{HandsOn}
use Rattle.stm_desk.proofs.work.Work.serve_all.Given as goal

abbrev pub invariant-loop : goal.invariant-loop
invariant-loop l = record {
  goes_on : GoesOn l.fn.self l.self;
  hands_on : HandsOn l.fn.self.waiters l.self.waiters;
  kept : KeepsTasks l.fn.self.store l.self.store;
  still : IsStill l.self.store;
}

abbrev pub decreases-loop : goal.decreases-loop
decreases-loop l = weight_of l.self.store.book.tasks
