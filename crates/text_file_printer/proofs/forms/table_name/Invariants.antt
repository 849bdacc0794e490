use Rattle.std.proofs.Common.{◌≡◌, ◌+◌, ℕ, drop, map, sum_by, String, Global}
use Rattle.txn_programs.specs.Listing.{values}
use Rattle.txn_declarations.specs.Counted.{counted}
use Rattle.text_grammar.specs.Written.{name_of, scope_of}
use Rattle.text_file_printer.proofs.Tables.{table_name}
use Rattle.text_file_printer.proofs.forms.table_name.Given as goal

abbrev pub invariant-tables : goal.invariant-tables
invariant-tables l = record {
  name : table_name l.table l.first (map counted (drop l.name-index l.name-items)) ≡ name_of (scope_of l.catalogue) l.table;
  left : l.first + sum_by (λ (t : String Global × ℕ). t.1) (drop l.name-index l.name-items) ≡ values l.catalogue;
}
