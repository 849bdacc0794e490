use Rattle.std.proofs.Common.{◌≡◌, ◌++◌, take, string_bytes}
use Rattle.std.specs.Prelude.{codes}
use Rattle.std.specs.List.{flat_map, AllByRecursion}
use Rattle.text_file_printer.specs.Canonical.{pair_line}
use Rattle.text_file_printer.specs.Fits.{PairFits}
use Rattle.text_grammar.specs.Written.{written_vars}
use Rattle.text_file_printer.proofs.file.put_vars.Given as goal

abbrev pub invariant-vars : goal.invariant-vars
invariant-vars l = record {
  text : string_bytes l.out ≡ string_bytes l.fn.out ++ flat_map (pair_line (codes "var")) (take l.i (written_vars l.catalogue.names l.catalogue.initial));
  fits : AllByRecursion PairFits (take l.i (written_vars l.catalogue.names l.catalogue.initial));
}
