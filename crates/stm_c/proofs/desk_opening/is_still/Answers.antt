use Rattle.stm_c.proofs.StillTasks.{still_counted}
use Rattle.stm_c.proofs.desk_opening.is_still.Goals as goal

pub returns : goal.returns
returns c = still_counted c.counts.result.running c.args.store.now.book.tasks c.counts.ensures.running
