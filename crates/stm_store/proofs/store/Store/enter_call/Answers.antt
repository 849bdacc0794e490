use Rattle.stm_store.proofs.Submitted.{called_end}
use Rattle.stm_store.proofs.store.Store.enter_call.Goals as goal

pub enter-entered-requires-clause-ended : goal.enter-entered-requires-clause-ended
enter-entered-requires-clause-ended c =
    let begun = c.in-Some.ensures.begun in
    called_end c.args.self.now.book c.begin_call.new.self.book c.args.tx c.args.arguments.now c.in-Some.job.task c.args.attempt.now c.law.ensures.fits begun.1.task begun.3 c.requires.ended
