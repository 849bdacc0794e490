use Rattle.std.proofs.Common.{◌≡◌, ◌-◌, ◌≤◌, ℕ, length, max, vec_capacity}
use Rattle.std.specs.Prelude.{slice_index}
use Rattle.std.specs.Int.{div_ceil}
use Rattle.book_storage.proofs.level.reach.Given as goal

abbrev pub invariant-loop-words : goal.invariant-loop-words
invariant-loop-words l = record {
  short : length l.words.items ≤ max (length l.fn.words.items) (div_ceil l.bits 64);
  same : (w : ℕ) → slice_index l.words.items w ≡ slice_index l.fn.words.items w;
  capacity : vec_capacity l.fn.words ≤ vec_capacity l.words;
}

abbrev pub decreases-loop-words : goal.decreases-loop-words
decreases-loop-words l = div_ceil l.bits 64 - length l.words.items
