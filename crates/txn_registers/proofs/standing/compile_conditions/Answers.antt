use Rattle.txn_evaluator.specs.Always.{conditions_of}
use Rattle.txn_registers.proofs.standing.compile_conditions.Goals as goal

pub returns-in-Err-TooLarge : goal.returns-in-Err-TooLarge
returns-in-Err-TooLarge c = c.without_steps.ensures.tests (conditions_of c.args.always.now)
