use Rattle.std.proofs.Common.{◌≡◌, drop, map}
use Rattle.text_grammar.specs.Resolving.{declared_after, table_name}
use Rattle.text_resolver.specs.Texts.{texts}
use Rattle.text_grammar.specs.View.{view_tables}
use Rattle.text_resolver.proofs.tables.declare_tables.Given as goal

abbrev pub invariant-tables : goal.invariant-tables
invariant-tables l = declared_after (texts l.names.keys) (map table_name (view_tables (drop l.table-index l.raw))) ≡ declared_after (texts l.initial.names.keys) (map table_name (view_tables l.raw))
