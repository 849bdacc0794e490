use Rattle.std.proofs.Common.{arith}
use Rattle.std.proofs.lemmas.Grind.{common_steps}
use Rattle.run_interface.proofs.Putting.{put_step}
use Rattle.run_interface.proofs.sink.put_bytes.Goals as goal

pub loop-rest-preserved : goal.loop-rest-preserved
loop-rest-preserved g c =
    (put_step _ _ _ _ _ _ c.loop-rest.invariant.0 c.in_ok-count.ensures.bytes, grind (arith, common_steps, c.in_ok-count.ensures.failed, c.loop-rest.invariant.1, c.if-count-eq0.false))
