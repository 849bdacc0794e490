use Rattle.std.proofs.Common.{pos, arith}
use Rattle.book.proofs.Changed.{agree_all}
use Rattle.book.proofs.stored.rebase_listed.Goals as goal

pub returns-clause-values : goal.returns-clause-values
returns-clause-values c =
    agree_all (pos 0) c.args.since.now.base.items c.loop-variable.variable-index c.loop-variable.base.values.items c.args.present.now.values.items c.loop-variable.invariant.0
    (omega (arith, c.loop-variable-test.false, c.deref-variable-items.ensures.len, c.args.since.now.base.ok.0))

pub returns-clause-versions : goal.returns-clause-versions
returns-clause-versions c =
    agree_all 0 c.args.since.now.base.items c.loop-variable.variable-index c.loop-variable.base.versions.items c.args.present.now.versions.items c.loop-variable.invariant.1
    (omega (arith, c.loop-variable-test.false, c.deref-variable-items.ensures.len, c.args.since.now.base.ok.0))
