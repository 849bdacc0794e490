use Rattle.std.proofs.Common.{◌≡◌, drop, map}
use Rattle.txn_programs.specs.Listing.{table_of}
use Rattle.text_grammar.specs.Resolving.{spans_in}
use Rattle.text_resolver.proofs.Each.{joined}
use Rattle.text_resolver.proofs.tables.spans.Given as goal

abbrev pub invariant-tables : goal.invariant-tables
invariant-tables l = joined l.made.items (spans_in l.next (map table_of (drop l.table-index l.tables))) ≡ spans_in l.initial.next (map table_of l.tables)
