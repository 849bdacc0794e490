use Rattle.std.proofs.lemmas.Result.{err_from_is_err_and}
use Rattle.text_grammar.specs.Resolving.{table_name}
use Rattle.text_grammar.specs.View.{view_table}
use Rattle.text_resolver.specs.Texts.{texts}
use Rattle.text_resolver.proofs.Texts.{names_fail}
use Rattle.text_resolver.proofs.tables.declare_tables.Goals as goal

pub returns-in_err-declare : goal.returns-in_err-declare
returns-in_err-declare c =
    let p = err_from_is_err_and c.from_residual.result c.from_residual.ensures.1 in
    rw (p.1, p.2) (names_fail _ table_name view_table (texts c.tables.names.keys) c.args.raw.now c.tables.table-index c.table-item.result _ c.tables-test.true c.table-item.is c.in_err-declare.ensures c.tables.invariant)
