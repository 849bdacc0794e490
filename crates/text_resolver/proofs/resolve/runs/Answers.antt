use Rattle.text_grammar.specs.Resolving.{each, run_in}
use Rattle.text_resolver.specs.Texts.{texts}
use Rattle.text_grammar.specs.View.{view_run, view_runs}
use Rattle.text_resolver.proofs.Each.{loop_more}
use Rattle.text_resolver.proofs.resolve.runs.Goals as goal

pub runs-preserved : goal.runs-preserved
runs-preserved c =
    let xs = c.args.raw.now in
    let one = run_in (texts c.args.names.now.keys) in
    rw c.in_ok-push.ensures.items (loop_more one view_run c.runs.made.items xs c.runs.one-index c.one-item.result c.in_ok-entry.entry (each one (view_runs xs)) c.runs-test.true c.one-item.is c.in_ok-entry.ensures.value c.runs.invariant)
