use Rattle.std.proofs.Common.{◌∙◌}
use Rattle.txn_programs.specs.declared.limits.TheConstants.{MAX_TASKS}
use Rattle.explain_reports.specs.Parts.{GoesOnThere}
use Rattle.checker.specs.View.{view}
use Rattle.explain_reports.proofs.First.{all_before}
use Rattle.explain_reports.proofs.Replaying.{led_all, step_right, step_led, step_few}
use Rattle.explain_reports.proofs.entries.replay.Goals as goal

pub entries-preserved : goal.entries-preserved
entries-preserved c =
    let l = c.args.catalogue.now in
    let s = view c.args.base in
    let es = c.args.entries.now in
    let i = c.entries.i in
    let goes = rw c.in-None.is at c.in_ok-step.ensures.step in
    let moved = c.in_ok-step.ensures.applied c.in-None.is in
    record {
      before = step_right l s (view c.entries.stage) es i _ c.entries-test.true c.entries.invariant.led goes c.entries.invariant.before;
      led = step_led l s (view c.entries.stage) (view c.step.new.stage) es i _ c.entries-test.true c.entries.invariant.led moved;
      few = step_few l (view c.entries.stage) (view c.step.new.stage) es i MAX_TASKS _ c.entries-test.true c.requires.numbers moved;
      values = c.in_ok-step.ensures.values;
      versions = c.in_ok-step.ensures.versions;
    }

pub returns : goal.returns
returns c =
    let l = c.args.catalogue.now in
    let s = view c.args.base in
    let es = c.args.entries.now in
    let i = c.entries.i in (
      all_before (GoesOnThere l s es) es i c.entries-test.false c.entries.invariant.before,
      c.entries.invariant.led ∙ led_all l s es i c.entries-test.false,
      c.entries.invariant.values,
      c.entries.invariant.versions,
    )
