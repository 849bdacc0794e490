use Rattle.std.proofs.Common.{◌≡◌, ◌≤◌, length, take}
use Rattle.txn_programs.specs.declared.limits.TheConstants.{MAX_TASKS}
use Rattle.checker.specs.Parts.{led_to}
use Rattle.explain_reports.specs.First.{RightBefore}
use Rattle.explain_reports.specs.Parts.{GoesOnThere}
use Rattle.checker.specs.View.{view}
use Rattle.explain_reports.proofs.entries.replay.Given as goal

abbrev pub invariant-entries : goal.invariant-entries
invariant-entries l = record {
  before : RightBefore (GoesOnThere l.catalogue (view l.fn.base) l.entries) l.entries l.i;
  led : view l.stage ≡ led_to l.catalogue (view l.fn.base) (take l.i l.entries);
  few : l.stage.number ≤ MAX_TASKS;
  values : length l.stage.values.items ≡ length l.catalogue.initial;
  versions : length l.stage.versions.items ≡ length l.catalogue.initial;
}
