use Rattle.std.proofs.Common.{◌≡◌, drop}
use Rattle.book.specs.Table.{names}
use Rattle.book.proofs.names.has_name.Given as goal

abbrev pub invariant-loop-pair : goal.invariant-loop-pair
invariant-loop-pair l = names l.variable (drop l.pair-index l.log) ≡ names l.variable l.log
