-- Places in a text, as lines and columns.
use Rattle.std.specs.Prelude.{ℕ, ◌+◌, ◌==◌, List, take, reverse, count_by}
use Rattle.std.specs.List.{prefix_len}
use Rattle.text_words.specs.Bytes.{is_in_line}

-- one more than the newlines before the place
abbrev pub line_at : List ℕ → ℕ → ℕ
line_at bytes place = count_by (λ b. b == 10) (take place bytes) + 1

-- one more than the bytes behind the last newline before the place
abbrev pub column_at : List ℕ → ℕ → ℕ
column_at bytes place = prefix_len is_in_line (reverse (take place bytes)) + 1
