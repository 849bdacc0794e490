use Rattle.run_workers.specs.Drawing.{DrawnTurns}
use Rattle.run_workers.proofs.drawn.give_drawn.Goals as goal

pub returns-then-tasks-eq0-clause-turns : goal.returns-then-tasks-eq0-clause-turns
returns-then-tasks-eq0-clause-turns c = (c.args.seed, DrawnTurns.NoTurn)
