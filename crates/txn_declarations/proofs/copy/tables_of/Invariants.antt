use Rattle.std.proofs.Common.{◌≡◌, ◌++◌, drop, flat_map, length, map, sum_by, take}
use Rattle.txn_declarations.specs.Counted.{counted}
use Rattle.txn_programs.specs.Listing.{table_of, values_of}
use Rattle.txn_declarations.proofs.copy.tables_of.Given as goal

abbrev pub invariant-loop-name : goal.invariant-loop-name
invariant-loop-name l = record {
  tables : map table_of l.copies.items ≡ map counted (take l.name-index l.tables);
  values : flat_map (λ t. values_of t.cells) l.copies.items ++ l.rest ≡ l.values;
  left : sum_by (λ t. t.1) (drop l.name-index l.tables) ≡ length l.rest;
}
