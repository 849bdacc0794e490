use Rattle.std.proofs.Common.{◌≡◌, ◌-◌, ◌≤◌, ℕ, [], length, vec_capacity, suc}
use Rattle.std.specs.Prelude.{slice_index_or}
use Rattle.book.proofs.names.reach_log.Given as goal

abbrev pub invariant-loop-logs : goal.invariant-loop-logs
invariant-loop-logs l = record {
  longer : length l.fn.logs.items ≤ length l.logs.items;
  same : (k : ℕ) → slice_index_or l.logs.items k [] ≡ slice_index_or l.fn.logs.items k [];
  capacity : vec_capacity l.fn.logs ≤ vec_capacity l.logs;
}

abbrev pub decreases-loop-logs : goal.decreases-loop-logs
decreases-loop-logs l = suc l.task - length l.logs.items
