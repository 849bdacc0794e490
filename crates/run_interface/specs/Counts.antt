-- How many calls failed: what a call adds, and when one more can be counted.
use Rattle.std.specs.Prelude.{ℕ, Result, Ok, Err, if◌then◌else◌, ◌==◌, ◌&&◌, nat_lt, ◌<◌, ◌^◌}

-- an `Err`, or nothing taken of a piece that is not empty
abbrev pub put_failures : {E : Type 0} → Result ℕ E → ℕ → ℕ
put_failures (Ok n) len = if (n == 0) && nat_lt 0 len then 1 else 0
put_failures (Err e) len = 1

abbrev pub flush_failures : {A E : Type 0} → Result A E → ℕ
flush_failures (Ok u) = 0
flush_failures (Err e) = 1

-- so few that one more is counted within 64 bits
abbrev pub FewFailed : ℕ → Type 0
FewFailed failures = failures < 2 ^ 63
