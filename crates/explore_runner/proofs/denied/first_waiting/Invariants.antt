use Rattle.std.proofs.Common.{◌≡◌, false, take}
use Rattle.std.specs.Prelude.{All}
use Rattle.explore_law.specs.declared.found.End.{End}
use Rattle.explore_runner.specs.FoundText.{some_wait}
use Rattle.explore_runner.proofs.denied.first_waiting.Given as goal

abbrev pub invariant-ends : goal.invariant-ends
invariant-ends l = All (λ (e : End). some_wait e.waiting.items ≡ false) (take l.k l.ends)
