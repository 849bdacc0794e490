-- How an attempt stands when its machine stops.
use Rattle.std.specs.Prelude.{ℕ}
use Rattle.txn_programs.specs.Tree.{Program}
use Rattle.attempt.specs.declared.next.Stand.{Stand}
use Rattle.attempt.specs.declared.next.Stand.TheVariants as stand
use Rattle.attempt_machine.specs.declared.found.Found.TheVariants as found
use Rattle.attempt_machine.specs.Asking.{Known}
use Rattle.attempt_machine.specs.Machine.{Config}
use Rattle.attempt_machine.specs.Place.{Tells}

-- where the machine stops in c, with so many nodes entered, and so many at the last instruction
abbrev pub Stops : Program → Known → Stand → Config → ℕ → ℕ → Type 0
Stops t log stand.Fresh c k ahead = ⊥
Stops t log (stand.Needs x) c k ahead = Tells t log (found.Need x) c k ahead
Stops t log (stand.Over o) c k ahead = Tells t log (found.End o) c k ahead
Stops t log stand.Spent c k ahead = Unit {0}
