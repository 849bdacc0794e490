use Rattle.std.proofs.Common.{◌≡◌, ◌≤◌, ◌+◌, drop}
use Rattle.explain_reports.specs.Rows.{written}
use Rattle.explain_reports.proofs.explaining.written.Given as goal

abbrev pub invariant-loop-version : goal.invariant-loop-version
invariant-loop-version l = record {
  so_far : l.count + written (drop l.version-index l.vars) ≡ written l.vars;
  few : l.count ≤ l.version-index;
}
