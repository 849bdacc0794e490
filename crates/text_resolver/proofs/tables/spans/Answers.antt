use Rattle.std.proofs.Common.{map}
use Rattle.std.proofs.lemmas.Result.{err_from_is_err_and}
use Rattle.txn_programs.specs.Listing.{table_of}
use Rattle.text_grammar.specs.Resolving.{spans_in}
use Rattle.text_resolver.proofs.Each.{span_fails}
use Rattle.text_resolver.proofs.tables.spans.Goals as goal

pub returns-in_err-span : goal.returns-in_err-span
returns-in_err-span c =
    let p = err_from_is_err_and c.from_residual-in_err-span.result c.from_residual-in_err-span.ensures.1 in
    rw (p.1, p.2) (span_fails _ c.tables.made.items c.tables.next c.args.tables.now c.tables.table-index c.table-item.result _ c.tables-test.true c.table-item.is (rw c.count.ensures.value at c.in_err-span.ensures.value) c.tables.invariant)
