use Rattle.std.proofs.Common.{◌≡◌, map, take, string_bytes}
use Rattle.txn.proofs.build.table_names.Given as goal

abbrev pub invariant-loop-table : goal.invariant-loop-table
invariant-loop-table l = map string_bytes l.names.items ≡ map (λ t. string_bytes t.name) (take l.table-index l.tables)
