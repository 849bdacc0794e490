-- Variables with a value each: those of a log, or own writes.
use Rattle.std.specs.Prelude.{List, [], ◌∷◌, Option, Some, None, ℤ, ◌==◌, if◌then◌else◌, nat_lt}
use Rattle.txn_programs.specs.declared.ast.VarId.{VarId}

-- some variables, with a value each
abbrev pub Known : Type 0
Known = List (VarId × ℤ)

-- the value of a variable, if it is known
abbrev pub known_at : Known → VarId → Option ℤ
known_at [] x = None
known_at (p ∷ rest) x = if p.0.0 == x.0 then Some p.1 else known_at rest x

-- own writes with one more, ascending by variable
abbrev pub write : Known → VarId → ℤ → Known
write [] x v = (x, v) ∷ []
write (p ∷ rest) x v =
    if p.0.0 == x.0 then (x, v) ∷ rest else (if nat_lt x.0 p.0.0 then (x, v) ∷ p ∷ rest else p ∷ write rest x v)

-- the first that is there
abbrev pub or_known : Option ℤ → Option ℤ → Option ℤ
or_known (Some v) o = Some v
or_known None o = o
