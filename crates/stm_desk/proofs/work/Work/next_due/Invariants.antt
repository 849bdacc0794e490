use Rattle.std.proofs.Common.{◌≡◌, List, ◌++◌}
use Rattle.std.specs.VecDeque.{deque_len}
use Rattle.stm_store.specs.declared.job.Job.{Job}
use Rattle.stm_desk.specs.Running.{NobodyWaits}
use Rattle.stm_desk.proofs.work.Work.next_due.Given as goal

abbrev pub invariant-loop-job : goal.invariant-loop-job
invariant-loop-job l = record {
  skipped : (skipped : List Job) × (l.initial.self.due.items ≡ skipped ++ l.self.due.items) × NobodyWaits l.initial.self.waiters skipped;
  store : l.self.store ≡ l.initial.self.store;
  waiters : l.self.waiters ≡ l.initial.self.waiters;
  history : l.self.history.items ≡ l.initial.self.history.items;
  first : l.self.first.value ≡ l.initial.self.first.value;
  closed : l.self.closed ≡ l.initial.self.closed;
  last : l.self.last ≡ l.initial.self.last;
  long : l.self.long.items ≡ l.initial.self.long.items;
}

abbrev pub decreases-loop-job : goal.decreases-loop-job
decreases-loop-job l = deque_len l.self.due
