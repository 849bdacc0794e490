use Rattle.std.proofs.Common.{◌≡◌, ◌-◌, ◌*◌, ◌^◌, ◌<◌, ◌≤◌, ℕ, length, min, vec_capacity}
use Rattle.std.specs.Prelude.{slice_index}
use Rattle.std.specs.Int.{div_ceil}
use Rattle.book_storage.proofs.level.of_first.Given as goal

abbrev pub invariant-loop-word : goal.invariant-loop-word
invariant-loop-word l = record {
  len : length l.words.items ≡ l.word;
  made : (w : ℕ) → w < l.word → slice_index l.words.items w ≡ 2 ^ min (l.fn.count - w * 64) 64 - 1;
  room : div_ceil l.fn.room 64 ≤ vec_capacity l.words;
}
