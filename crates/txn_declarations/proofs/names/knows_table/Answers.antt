use Rattle.std.proofs.Common.{◌∙◌, sym, map, drop}
use Rattle.txn_programs.specs.Listing.{table_of}
use Rattle.txn_declarations.proofs.Finding.{begins_behind}
use Rattle.txn_declarations.proofs.names.knows_table.Goals as goal

pub returns-then-first-table : goal.returns-then-first-table
returns-then-first-table c = sym (sym c.loop-each.invariant ∙ begins_behind (map table_of (drop c.loop-each.each-index c.args.tables.now)) c.loop-each.first c.args.table c.if-first-table.true)
