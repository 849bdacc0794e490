use Rattle.std.proofs.Common.{◌≡◌, take}
use Rattle.txn_words.specs.Stores.{with_changes}
use Rattle.cells.specs.History.{earlier, latest}
use Rattle.cells.proofs.history.put.Given as goal

-- the last state with the writes so far
abbrev pub invariant-loop-write : goal.invariant-loop-write
invariant-loop-write l = (earlier l.past.value ≡ earlier l.fn.first.value) × (latest l.past.value ≡ with_changes (latest l.fn.first.value) (take l.write-index l.writes))
