use Rattle.std.proofs.Common.{◌≡◌, [], take}
use Rattle.cells.specs.History.{earlier, latest}
use Rattle.cells.proofs.history.History.open.Given as goal

-- one state, with the values so far
abbrev pub invariant-loop-value : goal.invariant-loop-value
invariant-loop-value l = (earlier l.past.value ≡ []) × (latest l.past.value ≡ take l.value-index l.values)
