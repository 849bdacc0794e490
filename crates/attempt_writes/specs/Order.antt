-- How logs and writes lie, and which variables they name.
use Rattle.std.specs.Prelude.{◌≡◌, ℕ, ◌<◌, [], ◌∷◌, None}
use Rattle.txn_programs.specs.declared.ast.VarId.{VarId}
use Rattle.attempt_writes.specs.Known.{Known, known_at}

-- each variable has a number below n
abbrev pub AllKnown : ℕ → Known → Type 0
AllKnown n [] = Unit {0}
AllKnown n (p ∷ rest) = (p.0.0 < n) × AllKnown n rest

-- no variable comes twice
abbrev pub Apart : Known → Type 0
Apart [] = Unit {0}
Apart (p ∷ rest) = (known_at rest p.0 ≡ None) × Apart rest

-- each variable is after x
abbrev pub AllAfter : VarId → Known → Type 0
AllAfter x [] = Unit {0}
AllAfter x (p ∷ rest) = (x.0 < p.0.0) × AllAfter x rest

-- each variable is before all later ones
abbrev pub Ascending : Known → Type 0
Ascending [] = Unit {0}
Ascending (p ∷ rest) = AllAfter p.0 rest × Ascending rest

-- each variable is before x
abbrev pub AllBefore : VarId → Known → Type 0
AllBefore x [] = Unit {0}
AllBefore x (p ∷ rest) = (p.0.0 < x.0) × AllBefore x rest
