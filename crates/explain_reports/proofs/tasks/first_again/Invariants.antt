use Rattle.std.proofs.Common.{◌≡◌, length}
use Rattle.explain_reports.specs.First.{RightBefore}
use Rattle.explain_reports.specs.Parts.{IsNew}
use Rattle.explain_reports.proofs.Seen.{SeenBefore}
use Rattle.explain_reports.proofs.tasks.first_again.Given as goal

abbrev pub invariant-lines : goal.invariant-lines
invariant-lines l = record {
  before : RightBefore (IsNew l.lines) l.lines l.i;
  marks : SeenBefore l.lines l.i l.seen.items;
  sized : length l.seen.items ≡ l.count;
}
