use Rattle.std.proofs.Common.{◌≡◌, ◌++◌, take, map, string_bytes}
use Rattle.std.specs.List.{flat_map}
use Rattle.text_file_printer.specs.Canonical.{spaced}
use Rattle.text_file_printer.proofs.file.put_others.Given as goal

abbrev pub invariant-names : goal.invariant-names
invariant-names l = string_bytes l.out ≡ string_bytes l.fn.out ++ flat_map spaced (take l.name-index (map string_bytes l.names))
