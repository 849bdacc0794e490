use Rattle.std.proofs.Common.{◌≡◌, ◌++◌, flat_map, take}
use Rattle.txn_programs.specs.declared.ast.Table.{Table}
use Rattle.txn_programs.specs.Listing.{values_of}
use Rattle.txn.proofs.build.add_cells.Given as goal

abbrev pub invariant-loop-table : goal.invariant-loop-table
invariant-loop-table l = l.values.items ≡ l.fn.values.items ++ flat_map (λ (t : Table). values_of t.cells) (take l.table-index l.tables)
