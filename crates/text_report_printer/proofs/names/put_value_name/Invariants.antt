use Rattle.std.proofs.Common.{◌≡◌, ◌-◌, drop, length, map, string_bytes}
use Rattle.txn_declarations.specs.Counted.{counted}
use Rattle.text_report_printer.specs.Names.{named_cell}
use Rattle.text_report_printer.proofs.names.put_value_name.Given as goal

abbrev pub invariant-loop-name : goal.invariant-loop-name
invariant-loop-name l = record {
  name : named_cell (map counted (drop l.name-index l.tables)) l.place ≡ named_cell l.catalogue.tables (l.number - length l.catalogue.names);
  unchanged : string_bytes l.out ≡ string_bytes l.fn.out;
}
