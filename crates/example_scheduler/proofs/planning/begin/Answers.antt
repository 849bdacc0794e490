use Rattle.std.proofs.Common.{◌≡◌, map}
use Rattle.txn_programs.specs.Tree.{statement_of}
use Rattle.example_scheduler.specs.Plan.{wait_for}
use Rattle.example_scheduler.proofs.Parts.{seq_waits}
use Rattle.example_scheduler.proofs.planning.begin.Goals as goal

pub returns : goal.returns
returns c =
    let jobs = c.args.step.now.after.items in
    let each : map statement_of c.in_ok-parts.parts.items ≡ map wait_for jobs = cc (c.in_ok-parts.ensures, c.deref.ensures.value) in
    seq_waits c.in_ok-parts.parts jobs each
