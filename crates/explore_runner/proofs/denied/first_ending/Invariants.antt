use Rattle.std.proofs.Common.{take}
use Rattle.std.specs.Prelude.{All}
use Rattle.explore_law.specs.declared.found.Kinds.{Kinds}
use Rattle.explore_runner.specs.Denying.{NoneEnds}
use Rattle.explore_runner.proofs.denied.first_ending.Given as goal

abbrev pub invariant-transactions : goal.invariant-transactions
invariant-transactions l = All (λ (ks : Kinds). NoneEnds ks l.denial) (take l.k l.kinds)
