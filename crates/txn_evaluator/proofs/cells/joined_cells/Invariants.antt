use Rattle.std.proofs.Common.{◌≡◌, ◌+◌}
use Rattle.txn_programs.specs.Meaning.{value}
use Rattle.txn_programs.specs.Tree.{OfAll}
use Rattle.txn_evaluator.proofs.Joining.{cells_from}
use Rattle.txn_evaluator.proofs.cells.joined_cells.Given as goal

abbrev pub invariant-loop-place : goal.invariant-loop-place
invariant-loop-place l = record {
  rest : cells_from l.fold l.state l.place-end l.place l.all ≡ value (OfAll l.fold l.fn.table) l.state;
  long : l.place-end ≡ l.fn.table.first + l.fn.table.length;
}
