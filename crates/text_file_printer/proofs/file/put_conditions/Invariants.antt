use Rattle.std.proofs.Common.{◌≡◌, ◌++◌, take, map, string_bytes}
use Rattle.std.specs.List.{flat_map, AllByRecursion}
use Rattle.text_file_printer.specs.Canonical.{always_line}
use Rattle.text_file_printer.specs.Fits.{AlwaysFits}
use Rattle.text_grammar.specs.Written.{scope_of, written_always}
use Rattle.text_file_printer.proofs.file.put_conditions.Given as goal

abbrev pub invariant-conditions : goal.invariant-conditions
invariant-conditions l = record {
  text : string_bytes l.out ≡ string_bytes l.fn.out ++ flat_map always_line (take l.condition-index (map (written_always (scope_of l.catalogue)) l.catalogue.always));
  fits : AllByRecursion AlwaysFits (take l.condition-index (map (written_always (scope_of l.catalogue)) l.catalogue.always));
}
