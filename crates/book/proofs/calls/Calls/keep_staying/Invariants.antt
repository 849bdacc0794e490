use Rattle.std.proofs.Common.{◌≡◌, ◌-◌, ◌≤◌, length, map}
use Rattle.book.specs.Standings.{bare}
use Rattle.book.specs.Calls.{with_calls}
use Rattle.book.proofs.Staying.{KeptSoFar}
use Rattle.book.proofs.calls.Calls.keep_staying.Given as goal

abbrev pub invariant-tasks : goal.invariant-tasks
invariant-tasks l = record {
  low : l.task ≤ length l.initial.self.calls;
  so_far : KeptSoFar l.initial.self.calls (map bare l.standings) l.task l.kept l.self.calls;
  same : l.self ≡ with_calls l.initial.self l.self.calls;
}

abbrev pub decreases-tasks : goal.decreases-tasks
decreases-tasks l = length l.standings - l.task
