use Rattle.std.proofs.Common.{◌≡◌, ◌+◌, ◌++◌, drop, map}
use Rattle.std.specs.Prelude.{sum_by}
use Rattle.txn_programs.specs.Listing.{values, spans, spans_from}
use Rattle.text_line_reader.proofs.Spots.{sized}
use Rattle.text_line_reader.proofs.cells.spans_of.Given as goal

abbrev pub invariant-tables : goal.invariant-tables
invariant-tables l = record {
  made : l.made.items ++ spans_from l.first (map sized (drop l.length-index l.tables)) ≡ spans l.catalogue;
  room : l.first + sum_by (λ t. t.1) (map sized (drop l.length-index l.tables)) ≡ values l.catalogue;
}
