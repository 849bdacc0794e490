use Rattle.stm_store.proofs.Asked.{tells_outcome}
use Rattle.stm_store.proofs.store.Store.outcome_of.Goals as goal

pub returns : goal.returns
returns c = tells_outcome c.args.self.now c.args.ticket c.in_ok-task.task c.outcome.result c.in_ok-task.ensures c.outcome.ensures
