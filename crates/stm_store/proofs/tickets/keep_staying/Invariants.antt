use Rattle.std.proofs.Common.{◌≡◌, ◌-◌, ◌≤◌, length, vec_capacity}
use Rattle.book.proofs.Staying.{KeptSoFar}
use Rattle.stm_store.proofs.tickets.keep_staying.Given as goal

abbrev pub invariant-tasks : goal.invariant-tasks
invariant-tasks l = record {
  low : l.i ≤ length l.fn.held.items;
  so_far : KeptSoFar l.fn.held.items l.book.tasks l.i l.kept l.held.items;
  capacity : vec_capacity l.held ≡ vec_capacity l.fn.held;
}

abbrev pub decreases-tasks : goal.decreases-tasks
decreases-tasks l = length l.fn.held.items - l.i
