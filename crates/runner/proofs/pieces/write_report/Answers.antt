use Rattle.runner.proofs.Gathering.{some_out}
use Rattle.runner.proofs.pieces.write_report.Goals as goal

pub returns-in-Err-clause-wrote : goal.returns-in-Err-clause-wrote
returns-in-Err-clause-wrote g c = some_out _ _ _ _ c.in-Ok.ensures.bytes c.in-Err.ensures.breaks
