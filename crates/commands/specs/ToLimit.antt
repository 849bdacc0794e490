-- What a reader of a file gives, up to one byte past its limit.
use Rattle.std.specs.Prelude.{ℕ, ◌+◌, List, length, take, nat_eq, Option, if◌then◌else◌}
use Rattle.std.specs.List.{starts_with}
use Rattle.std.specs.Option.{option_map}
use Rattle.commands.specs.declared.reading.ToLimit.{ToLimit}

-- how many more bytes are given, where the inner reader has these left
abbrev pub count_left : {I : Type 0} → ToLimit I → List ℕ → ℕ
count_left r all = length r.ahead.now + (if starts_with nat_eq all r.ahead.now then r.long else r.short)

-- how many bytes the next read may give
abbrev pub most_next : {I : Type 0} → ToLimit I → ℕ
most_next r = if nat_eq (length r.ahead.now) 0 then r.long else length r.ahead.now

abbrev pub left_of : {I : Type 0} → (I → Option (List ℕ)) → ToLimit I → Option (List ℕ)
left_of remaining r = option_map (λ all. take (count_left r all) all) (remaining r.inner)
