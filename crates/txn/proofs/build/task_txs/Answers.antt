use Rattle.std.proofs.Common.{◌≡◌, ◌∙◌, ◌++◌, arith, replicate, ap}
use Rattle.std.proofs.lemmas.Grind.{common_steps}
use Rattle.txn.proofs.Tasks.{txs_more}
use Rattle.txn.proofs.build.task_txs.Goals as goal

pub loop-run-preserved : goal.loop-run-preserved
loop-run-preserved c =
    let more : c.resize.new.self.items ≡ c.loop-run.txs.items ++ replicate c.run-item.result.1 c.run-item.result.0.tx = grind (arith, common_steps) in
    more ∙ ap (λ run. c.loop-run.txs.items ++ replicate run.1 run.0.tx) c.run-item.is
    ∙ txs_more c.loop-run.txs.items c.args.runs.now c.loop-run.run-index c.run-item.result c.loop-run-test.true c.loop-run.invariant
