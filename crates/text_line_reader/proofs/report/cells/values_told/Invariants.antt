use Rattle.std.proofs.Common.{◌≡◌, ℕ, ◌+◌, ◌<◌, ◌≤◌, ◌++◌, length, get_or, drop}
use Rattle.std.specs.Prelude.{pos, FitsSigned}
use Rattle.std.specs.Int.{w64}
use Rattle.text_line_reader.specs.ReportResolving.{filled}
use Rattle.text_line_reader.proofs.report.cells.values_told.Given as goal

abbrev pub invariant-cells : goal.invariant-cells
invariant-cells l = record {
  told : l.values.items ++ filled (drop l.i l.begun) (l.i + l.count) (drop l.next l.cells) ≡ l.fn.variables.items ++ filled l.begun l.count l.cells;
  inside : l.next ≤ length l.cells;
  fits : (k : ℕ) → k < l.i → FitsSigned w64 (get_or l.begun k (pos 0));
}
