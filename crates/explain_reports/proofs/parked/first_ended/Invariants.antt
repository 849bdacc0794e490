use Rattle.std.proofs.Common.{◌≡◌}
use Rattle.explain_reports.specs.First.{RightBefore}
use Rattle.explain_reports.specs.Parts.{Waits}
use Rattle.explain_reports.proofs.parked.first_ended.Given as goal

abbrev pub invariant-parked : goal.invariant-parked
invariant-parked l = record {
  before : RightBefore (Waits l.catalogue l.fn.values.items) l.parked l.i;
  kept : l.values.items ≡ l.fn.values.items;
}
