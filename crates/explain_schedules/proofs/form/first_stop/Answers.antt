use Rattle.explain_schedules.proofs.Stops.{walks_on, stop_in_line}
use Rattle.explain_schedules.proofs.form.first_stop.Goals as goal

pub returns-in-Err-clause-stop : goal.returns-in-Err-clause-stop
returns-in-Err-clause-stop c = stop_in_line c.args.cells c.args.bytes.now c.lines.rest.now c.in-Some.line.now c.in-Some.after.now c.in-Err.wrong.at c.gone.result c.in-Err.wrong.wanted c.lines.invariant c.in-Some.ensures.some c.in-Err.ensures.stop c.gone.ensures

pub lines-preserved : goal.lines-preserved
lines-preserved c =
    let line = c.in_default-line_of.ensures.line in
    walks_on c.args.cells c.args.bytes.now c.lines.rest.now c.in-Some.line.now c.in-Some.after.now line.raw c.lines.invariant c.in-Some.ensures.some line.read
