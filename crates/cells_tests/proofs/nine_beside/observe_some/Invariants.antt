use Rattle.std.proofs.Common.{◌≡◌}
use Rattle.cells_tests.proofs.nine_beside.observe_some.Given as goal

abbrev pub invariant-times : goal.invariant-times
invariant-times l = l.pass.cells ≡ l.initial.pass.cells
