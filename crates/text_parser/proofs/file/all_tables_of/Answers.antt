use Rattle.std.proofs.Common.{◌≡◌, ◌++◌, ◌∷◌, [], sym, ◌∙◌}
use Rattle.std.proofs.lemmas.Result.{err_from_is_err_and}
use Rattle.std.proofs.lemmas.List.{map_push}
use Rattle.std.specs.Prelude.{codes}
use Rattle.text_words.specs.Tokens.{tokens}
use Rattle.text_grammar.specs.View.{view_table, view_tables}
use Rattle.text_grammar.specs.Reading.{table_at}
use Rattle.text_words.specs.TokenReading.{begins, all_of}
use Rattle.text_words.proofs.Many.{goes_on, ends_at_item, is_done}
use Rattle.text_grammar.proofs.Files.{table_shortens}
use Rattle.text_parser.proofs.file.all_tables_of.Goals as goal

pub returns-in_err-table : goal.returns-in_err-table
returns-in_err-table c =
    let p = err_from_is_err_and c.from_residual.result c.from_residual.ensures.1 in
    let word = codes "table" in
    rw (p.1, p.2) (ends_at_item c.in_err-table.field-0.0 (begins word) table_at table_shortens (view_tables c.tables.tables.items) (tokens c.tables.rest.now) (all_of (begins word) table_at (tokens c.args.bytes.now)) (sym c.begins.ensures ∙ c.tables-test.true) c.in_err-table.ensures.value c.tables.invariant)

pub tables-preserved : goal.tables-preserved
tables-preserved c =
    let table = c.in_ok-table.table in
    let word = codes "table" in
    let e : view_tables c.push.new.self.items ≡ view_tables c.tables.tables.items ++ view_table table ∷ [] = rw c.in_ok-push.ensures.items (map_push _ c.tables.tables.items table) in
    rw e (goes_on (begins word) table_at table_shortens (view_tables c.tables.tables.items) (tokens c.tables.rest.now) (view_table table, tokens c.in_ok-table.after.now) (all_of (begins word) table_at (tokens c.args.bytes.now)) (sym c.begins.ensures ∙ c.tables-test.true) c.in_ok-table.ensures.value c.tables.invariant)

pub returns : goal.returns
returns c =
    let word = codes "table" in
    is_done (begins word) table_at (view_tables c.tables.tables.items) (tokens c.tables.rest.now) (all_of (begins word) table_at (tokens c.args.bytes.now)) (sym c.begins.ensures ∙ c.tables-test.false) c.tables.invariant
