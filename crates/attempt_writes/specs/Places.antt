-- Where the pairs of a log lie: a variable's number has the place of its pair, in a table or, beyond that, in a list.
use Rattle.std.specs.Prelude.{◌≡◌, ◌<◌, ℕ, ◌+◌, List, [], ◌∷◌, Option, Some, None, ℤ, ◌==◌, if◌then◌else◌, nat_lt, slice_get}
use Rattle.txn_programs.specs.declared.ast.VarId.{VarId}
use Rattle.attempt_writes.specs.Known.{Known}

-- the place of each pair stands at its variable's number, where the table is so long; the first pair is at place i
abbrev pub ArePlaced : ℕ → Known → List ℕ → Type 0
ArePlaced i [] places = Unit {0}
ArePlaced i (p ∷ rest) places = (p.0.0 < 256 → slice_get places p.0.0 ≡ Some i) × ArePlaced (i + 1) rest places

-- the numbers of the pairs that have none in the table, each with its place
abbrev pub far_of : ℕ → Known → List (ℕ × ℕ)
far_of i [] = []
far_of i (p ∷ rest) = if nat_lt p.0.0 256 then far_of (i + 1) rest else (p.0.0, i) ∷ far_of (i + 1) rest

-- a pair's value, if it is the variable's
abbrev pub pair_value : Option (VarId × ℤ) → VarId → Option ℤ
pair_value None x = None
pair_value (Some p) x = if p.0.0 == x.0 then Some p.1 else None

abbrev pub placed_value : Option ℕ → Known → VarId → Option ℤ
placed_value None w x = None
placed_value (Some place) w x = pair_value (slice_get w place) x
