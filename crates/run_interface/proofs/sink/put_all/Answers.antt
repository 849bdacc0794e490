use Rattle.run_interface.proofs.Putting.{beginning_kept}
use Rattle.run_interface.proofs.sink.put_all.Goals as goal

pub returns-in-Err-clause-beginning : goal.returns-in-Err-clause-beginning
returns-in-Err-clause-beginning g c = beginning_kept _ _ _ c.args.bytes.now c.in_ok-put_bytes.ensures.all c.in-Err.ensures.bytes
