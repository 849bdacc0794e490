-- What the fields of a set mean, and what they keep.
use Rattle.std.specs.Prelude.{◌≡◌, ℕ, ◌*◌, ◌≤◌, Bool, false, List, map, length, vec_capacity}
use Rattle.std.specs.Int.{div_ceil}
use Rattle.std.specs.List.{range_with_len}
use Rattle.book_storage.specs.declared.set.TaskSet.TheInside.{Inside}
use Rattle.book_storage.specs.Levels.{has, Covers}

-- which of the numbers below `room` are set
abbrev pub flags : ℕ → List ℕ → List Bool
flags room words = map (has words) (range_with_len 0 room)

abbrev pub flags_of : Inside → List Bool
flags_of s = flags s.room s.numbers.items

pub record AreLevels (room : ℕ) (numbers words top : List ℕ) : Type 0 where
  -- each number that there is room for has a word's bit, each word has its bit, and one word is over all
  pub room_fits : room ≤ length words * 64 * 64
  pub words_fit : length numbers ≤ length words * 64
  pub top_fits : length words ≤ length top * 64
  pub one : length top ≡ 1
  -- no number past the room is set
  pub spare : (k : ℕ) → room ≤ k → has numbers k ≡ false
  pub over_numbers : Covers words numbers
  pub over_words : Covers top words

pub record IsKept (s : Inside) : Type 0 where
  pub levels : AreLevels s.room s.numbers.items s.words.items s.top
  -- the words of numbers reach as far as numbers have come, and have room for all
  pub numbers_room : div_ceil s.room 64 ≤ vec_capacity s.numbers
