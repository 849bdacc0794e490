use Rattle.std.proofs.Common.{◌≡◌, ◌++◌, ◌∷◌, [], map}
use Rattle.std.proofs.lemmas.List.{map_push}
use Rattle.text_grammar.specs.Resolving.{each, table_of}
use Rattle.text_grammar.specs.View.{view_table as view_raw, view_tables}
use Rattle.text_resolver.specs.Parts.{view_table}
use Rattle.text_resolver.proofs.Each.{loop_more, loop_fails}
use Rattle.std.proofs.lemmas.Result.{err_from_is_err_and}
use Rattle.text_resolver.proofs.tables.tables.Goals as goal

pub tables-preserved : goal.tables-preserved
tables-preserved c =
    let made = c.in_ok-table.table in
    let xs = c.args.raw.now in
    let e : map view_table c.push.new.self.items ≡ map view_table c.tables.made.items ++ view_table made ∷ [] = rw c.in_ok-push.ensures.items (map_push view_table c.tables.made.items made) in
    rw e (loop_more table_of view_raw (map view_table c.tables.made.items) xs c.tables.one-index c.one-item.result (view_table made) (each table_of (view_tables xs)) c.tables-test.true c.one-item.is c.in_ok-table.ensures c.tables.invariant)

pub returns-in_err-table : goal.returns-in_err-table
returns-in_err-table c =
    let p = err_from_is_err_and c.from_residual-in_err-table.result c.from_residual-in_err-table.ensures.1 in
    let xs = c.args.raw.now in
    rw (p.1, p.2) (loop_fails _ table_of view_raw (map view_table c.tables.made.items) xs c.tables.one-index c.one-item.result (each table_of (view_tables xs))
    c.tables-test.true c.one-item.is c.in_err-table.ensures c.tables.invariant)
