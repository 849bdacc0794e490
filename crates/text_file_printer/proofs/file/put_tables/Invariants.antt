use Rattle.std.proofs.Common.{◌≡◌, ◌++◌, ℕ, true, length, drop, map, sum_by, String, Global, string_bytes}
use Rattle.std.specs.List.{flat_map, list_all, AllByRecursion}
use Rattle.txn_programs.specs.Limits.{table_fits}
use Rattle.txn_declarations.specs.Counted.{counted}
use Rattle.text_file_printer.specs.Canonical.{table_line}
use Rattle.text_file_printer.specs.Fits.{TableFits}
use Rattle.text_grammar.specs.Written.{written_tables}
use Rattle.text_file_printer.proofs.file.put_tables.Given as goal

abbrev pub invariant-tables : goal.invariant-tables
invariant-tables l = record {
  text : string_bytes l.out ++ flat_map table_line (written_tables (map counted (drop l.name-index l.name-items)) l.rest)
      ≡ string_bytes l.fn.out ++ flat_map table_line (written_tables l.catalogue.tables (drop (length l.catalogue.names) l.catalogue.initial));
  fits : AllByRecursion TableFits (written_tables (map counted (drop l.name-index l.name-items)) l.rest)
      → AllByRecursion TableFits (written_tables l.catalogue.tables (drop (length l.catalogue.names) l.catalogue.initial));
  left : sum_by (λ (t : String Global × ℕ). t.1) (drop l.name-index l.name-items) ≡ length l.rest;
  each : list_all table_fits (map counted (drop l.name-index l.name-items)) ≡ true;
}
