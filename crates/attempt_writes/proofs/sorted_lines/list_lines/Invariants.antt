use Rattle.std.proofs.Common.{◌≡◌, ◌≤◌, ◌+◌, ◌-◌, ◌++◌, drop, length}
use Rattle.std.specs.Prelude.{vec_len, vec_capacity}
use Rattle.attempt_writes.specs.FarWrites.{in_lines}
use Rattle.attempt_writes.proofs.sorted_lines.list_lines.Given as goal

abbrev pub invariant-loop-k : goal.invariant-loop-k
invariant-loop-k l = record {
  so_far : l.pairs.items ++ in_lines (drop l.k l.numbers) (drop l.k l.table) ≡ l.fn.pairs.items ++ in_lines l.numbers l.table;
  room : vec_len l.pairs + (length l.numbers - l.k) ≤ vec_capacity l.pairs;
  len : vec_len l.pairs + (length l.numbers - l.k) ≤ vec_len l.fn.pairs + length l.numbers;
  more : vec_capacity l.fn.pairs ≤ vec_capacity l.pairs;
}
