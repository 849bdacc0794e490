use Rattle.std.proofs.Common.{◌≡◌, ◌++◌, take, map, string_bytes}
use Rattle.std.specs.List.{flat_map, AllByRecursion}
use Rattle.text_file_printer.specs.Canonical.{run_line}
use Rattle.text_file_printer.specs.Fits.{RunFits}
use Rattle.text_grammar.specs.Written.{written_run}
use Rattle.text_file_printer.proofs.file.put_runs.Given as goal

abbrev pub invariant-runs : goal.invariant-runs
invariant-runs l = record {
  text : string_bytes l.out ≡ string_bytes l.fn.out ++ flat_map run_line (take l.run-index (map (written_run l.catalogue.transactions) l.catalogue.runs));
  fits : AllByRecursion RunFits (take l.run-index (map (written_run l.catalogue.transactions) l.catalogue.runs));
}
