use Rattle.runner.proofs.Gathering.{breaks_out, on_err}
use Rattle.runner.proofs.pieces.make_room.Goals as goal

pub returns-in_err-put_bytes-clause-breaks : goal.returns-in_err-put_bytes-clause-breaks
returns-in_err-put_bytes-clause-breaks g c = on_err _ (breaks_out _ _ _ _ c.as_bytes.ensures.value c.in_err-put_bytes.ensures.beginning)
