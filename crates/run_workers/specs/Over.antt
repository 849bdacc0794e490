-- Whether an attempt has ended.
use Rattle.std.specs.Prelude.{Bool, true, false}
use Rattle.attempt.specs.declared.next.Stand.{Stand}
use Rattle.attempt.specs.declared.next.Stand.TheVariants.{Fresh, Needs, Over, Spent}

abbrev pub is_over : Stand → Bool
is_over Fresh = false
is_over (Needs x) = false
is_over (Over o) = true
is_over Spent = false
