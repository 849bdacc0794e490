use Rattle.std.proofs.Common.{◌≡◌, ◌++◌, map}
use Rattle.txn_programs.specs.Listing.{table_of}
use Rattle.txn_declarations.specs.Counted.{counted}
use Rattle.txn.proofs.build.kept_tables.Given as goal

abbrev pub invariant-loop-table : goal.invariant-loop-table
invariant-loop-table l = record {
  same : l.yielded ++ l.table-iterator.rest.items ≡ l.fn.tables.items;
  so_far : map counted l.kept.items ≡ map table_of l.yielded;
}
