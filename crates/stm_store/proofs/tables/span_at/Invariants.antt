use Rattle.std.proofs.Common.{◌≡◌, ◌+◌, drop, map, get_or}
use Rattle.std.specs.Prelude.{sum_by}
use Rattle.txn_programs.specs.Listing.{values, spans_from}
use Rattle.text_line_reader.proofs.Spots.{no_span, sized}
use Rattle.stm_store.specs.Naming.{span_at}
use Rattle.stm_store.proofs.tables.span_at.Given as goal

abbrev pub invariant-tables : goal.invariant-tables
invariant-tables l = record {
  span : get_or (spans_from l.first (map sized (drop l.length-index l.tables))) l.before no_span ≡ span_at l.catalogue l.table;
  room : l.first + sum_by (λ t. t.1) (map sized (drop l.length-index l.tables)) ≡ values l.catalogue;
}
