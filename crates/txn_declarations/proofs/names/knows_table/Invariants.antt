use Rattle.std.proofs.Common.{◌≡◌, drop, map}
use Rattle.txn_programs.specs.Listing.{spans_from, table_of}
use Rattle.txn_programs.specs.Names.{knows_table}
use Rattle.txn_declarations.proofs.names.knows_table.Given as goal

abbrev pub invariant-loop-each : goal.invariant-loop-each
invariant-loop-each l = knows_table (spans_from l.first (map table_of (drop l.each-index l.tables))) l.table ≡ knows_table (spans_from l.variables (map table_of l.tables)) l.table
