use Rattle.std.proofs.Common.{[], ◌∙◌, ap, sym, map}
use Rattle.text_grammar.specs.Resolving.{each, declared_after, table_of, table_name}
use Rattle.text_grammar.specs.View.{view_tables}
use Rattle.text_file_reader.proofs.at_once.tables_at_once.Goals as goal

pub returns : goal.returns
returns c =
    record {
      items = view_tables c.in_ok-raw.raw.items;
      are_read = c.in_ok-raw.ensures;
      are_made = ap (λ l. each table_of (view_tables l)) (sym c.deref-2.ensures.value) ∙ c.in_ok-made.ensures;
      are_declared = ap (λ l. declared_after [] (map table_name (view_tables l))) (sym c.deref.ensures.value) ∙ c.in_ok-names.ensures;
    }
