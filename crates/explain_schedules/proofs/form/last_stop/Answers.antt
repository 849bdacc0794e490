use Rattle.std.proofs.Common.{length, refl}
use Rattle.explain_schedules.proofs.Stops.{stop_at_end, stop_in_last}
use Rattle.explain_schedules.proofs.form.last_stop.Goals as goal

pub returns-in-Ok-clause-stop : goal.returns-in-Ok-clause-stop
returns-in-Ok-clause-stop c =
    let line = c.in-Ok.ensures.line in
    stop_at_end c.args.cells c.args.bytes.now c.args.rest.now line.raw (length c.args.bytes.now) c.requires.walked line.read refl

pub returns-in-Err-clause-stop : goal.returns-in-Err-clause-stop
returns-in-Err-clause-stop c = stop_in_last c.args.cells c.args.bytes.now c.args.rest.now c.in-Err.wrong.at c.gone.result c.in-Err.wrong.wanted c.requires.walked c.requires.ends c.in-Err.ensures.stop c.gone.ensures
