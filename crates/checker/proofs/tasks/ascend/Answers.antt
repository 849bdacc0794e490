use Rattle.checker.proofs.Lists.{ascends_no, ascends_yes}
use Rattle.checker.proofs.tasks.ascend.Goals as goal

pub returns-then-next-least : goal.returns-then-next-least
returns-then-next-least c = ascends_no c.lines.least c.lines.task-index c.args.lines.now _ c.lines-test.true c.if-next-least.true c.lines.invariant

pub returns : goal.returns
returns c = ascends_yes c.lines.least c.lines.task-index c.args.lines.now c.lines-test.false c.lines.invariant
