use Rattle.std.proofs.Common.{◌≡◌, ◌++◌, take, string_bytes, w64}
use Rattle.std.specs.Prelude.{FitsSigned}
use Rattle.std.specs.List.{flat_map, AllByRecursion}
use Rattle.text_file_printer.specs.Canonical.{spaced_integer}
use Rattle.text_file_printer.proofs.file.put_integers.Given as goal

abbrev pub invariant-numbers : goal.invariant-numbers
invariant-numbers l = record {
  text : string_bytes l.out ≡ string_bytes l.fn.out ++ flat_map spaced_integer (take l.n-index l.numbers);
  fits : AllByRecursion (FitsSigned w64) (take l.n-index l.numbers);
}
