use Rattle.std.proofs.Common.{◌≡◌, ◌-◌, take, drop}
use Rattle.book.proofs.chapter.behind.Given as goal

abbrev pub invariant-loop-task : goal.invariant-loop-task
invariant-loop-task l = l.more.items ≡ take (l.task - l.from) (drop l.from l.calls.calls)
