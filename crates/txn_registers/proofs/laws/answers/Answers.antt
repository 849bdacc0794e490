use Rattle.txn_registers.proofs.Bodies.{steps_answer}
use Rattle.txn_registers.proofs.laws.answers.Goals as goal

pub returns : goal.returns
returns c = steps_answer
