use Rattle.std.proofs.Common.{◌≡◌, drop, map}
use Rattle.text_resolver.specs.Parts.{view_table}
use Rattle.text_grammar.specs.Resolving.{each, table_of}
use Rattle.text_grammar.specs.View.{view_tables}
use Rattle.text_resolver.proofs.Each.{joined}
use Rattle.text_resolver.proofs.tables.tables.Given as goal

abbrev pub invariant-tables : goal.invariant-tables
invariant-tables l = joined (map view_table l.made.items) (each table_of (view_tables (drop l.one-index l.raw))) ≡ each table_of (view_tables l.raw)
