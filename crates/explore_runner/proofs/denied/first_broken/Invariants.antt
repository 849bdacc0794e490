use Rattle.std.proofs.Common.{◌≡◌, Bool, false, take}
use Rattle.std.specs.Prelude.{All}
use Rattle.explore_runner.proofs.denied.first_broken.Given as goal

abbrev pub invariant-conditions : goal.invariant-conditions
invariant-conditions l = All (λ (b : Bool). b ≡ false) (take l.k l.broke)
