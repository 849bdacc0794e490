use Rattle.std.proofs.Common.{◌≡◌, ◌-◌, true, length}
use Rattle.cells.specs.Passing.{at}
use Rattle.attempt.specs.declared.next.Stand.TheVariants.{Fresh}
use Rattle.attempt.proofs.Logs.{Going}
use Rattle.run_observer.proofs.Seeing.{Moving}
use Rattle.run_observer.proofs.evaluating.evaluate_by.Given as goal

abbrev pub invariant-needs : goal.invariant-needs
invariant-needs g l =
    Going l.catalogue l.fn.tx l.arguments (at l.pass) l.attempt
    × Moving l.fn.pass l.pass (length l.attempt.log)
    × (l.pass.open_now ≡ true)
    × (l.attempt.stand ≡ Fresh)

abbrev pub decreases-needs : goal.decreases-needs
decreases-needs g l = length l.catalogue.initial - length l.attempt.log
