use Rattle.std.proofs.Common.{rules}
use Rattle.txn_programs.proofs.Lawful.{few_arguments}
use Rattle.stm_store.proofs.Callable.{callable_same}
use Rattle.stm_store.proofs.store.Store.job_of.Goals as goal

pub of-requires-2 : goal.of-requires-2
of-requires-2 c =
    let l = c.args.self.now.catalogue.now in
    few_arguments l c.task_tx.result c.task_arguments.result.now c.rules.ensures.limits
    (callable_same c.args.self.now.book.catalogue l c.task_tx.result c.task_arguments.result.now (search rules) (search rules))
