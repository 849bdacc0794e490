use Rattle.explore_runner.proofs.Queueing.{set_queue}
use Rattle.explore_runner.proofs.queues.add.Goals as goal

pub returns : goal.returns
returns c =
    set_queue c.args.waiting.now.items c.args.instance.0 c.index_mut.result.now c.push.new.self c.args.task c.requires c.index_mut.ensures.value c.in_ok-push.ensures.items
