use Rattle.std.proofs.Common.{pos}
use Rattle.book.proofs.Changed.{AgreeBut}
use Rattle.book.proofs.stored.rebase_listed.Given as goal

abbrev pub invariant-loop-variable : goal.invariant-loop-variable
invariant-loop-variable l =
    AgreeBut (pos 0) l.fn.since.base.items l.variable-index l.base.values.items l.present.values.items
    × AgreeBut 0 l.fn.since.base.items l.variable-index l.base.versions.items l.present.versions.items
