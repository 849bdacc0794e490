use Rattle.explore_runner.proofs.Queueing.{leaves}
use Rattle.explore_runner.proofs.queues.next.Goals as goal

pub returns : goal.returns
returns c =
    leaves c.args.waiting.now.items c.args.instance c.index_mut.result.now c.pop.new.self c.pop.result c.requires c.index_mut.ensures.value c.pop.ensures.items c.pop.ensures.cases
