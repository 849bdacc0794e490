use Rattle.std.proofs.Common.{◌≡◌, ◌++◌, take, map, string_bytes}
use Rattle.std.specs.List.{flat_map, AllByRecursion}
use Rattle.text_file_printer.specs.Canonical.{tx_line}
use Rattle.text_file_printer.specs.Fits.{DeclarationFits}
use Rattle.text_grammar.specs.Written.{scope_of, written_transaction}
use Rattle.text_file_printer.proofs.file.put_txs.Given as goal

abbrev pub invariant-txs : goal.invariant-txs
invariant-txs l = record {
  text : string_bytes l.out ≡ string_bytes l.fn.out ++ flat_map (tx_line l.form) (take l.i (map (written_transaction (scope_of l.catalogue)) l.catalogue.transactions));
  fits : AllByRecursion DeclarationFits (take l.i (map (written_transaction (scope_of l.catalogue)) l.catalogue.transactions));
}
