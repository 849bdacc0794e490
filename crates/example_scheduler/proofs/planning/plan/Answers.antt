use Rattle.example_scheduler.proofs.Parts.{plan_of}
use Rattle.example_scheduler.proofs.planning.plan.Goals as goal

pub returns-in-Ok : goal.returns-in-Ok
returns-in-Ok c =
    plan_of c.built.result c.args.steps.now c.in-Ok.parts.flags.items c.in-Ok.parts.txs.items c.in-Ok.ensures.flags c.in-Ok.ensures.transactions c.built.ensures.flags c.built.ensures.transactions
