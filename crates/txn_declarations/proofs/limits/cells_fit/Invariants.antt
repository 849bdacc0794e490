use Rattle.std.proofs.Common.{◌≡◌, ◌+◌, drop, map}
use Rattle.std.specs.List.{sum_by}
use Rattle.txn_programs.specs.Limits.{most_cells}
use Rattle.txn_programs.specs.Listing.{table_of}
use Rattle.txn_declarations.proofs.limits.cells_fit.Given as goal

abbrev pub invariant-loop-table : goal.invariant-loop-table
invariant-loop-table l = l.left + sum_by (λ t. t.1) (map table_of l.tables) ≡ most_cells + sum_by (λ t. t.1) (map table_of (drop l.table-index l.tables))
