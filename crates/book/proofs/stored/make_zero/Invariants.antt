use Rattle.std.proofs.Common.{length, replicate}
use Rattle.book.proofs.Changed.{AgreeBut}
use Rattle.book.proofs.stored.make_zero.Given as goal

abbrev pub invariant-loop-variable : goal.invariant-loop-variable
invariant-loop-variable l = AgreeBut 0 l.variables l.variable-index l.versions.items (replicate (length l.fn.versions.items) 0)
