use Rattle.std.proofs.Common.{◌≡◌, ◌≤◌, length, take}
use Rattle.text_words.specs.Tokens.{tokens}
use Rattle.text_words.specs.TokenReading.{is_int, int_at, all_of}
use Rattle.text_words.specs.Numbers.{number_of}
use Rattle.text_file_reader.proofs.AtOnce.{MadeSoFar}
use Rattle.text_file_reader.proofs.runs.numbers_at_once.Given as goal

abbrev pub invariant-numbers : goal.invariant-numbers
invariant-numbers l = record {
  so_far : MadeSoFar is_int int_at number_of (all_of is_int int_at (tokens l.fn.bytes)) (take l.count l.values) (tokens l.rest);
  room : length l.values ≡ 8;
  few : l.count ≤ 8;
  within : length l.rest ≤ length l.fn.bytes;
}

abbrev pub decreases-numbers : goal.decreases-numbers
decreases-numbers l = length l.rest
