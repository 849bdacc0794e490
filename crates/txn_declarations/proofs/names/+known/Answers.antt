use Rattle.std.proofs.Common.{◌≡◌, ◌∙◌, ap, sym, map}
use Rattle.txn_programs.specs.Listing.{spans_from, table_of}
use Rattle.txn_programs.specs.Tree.{Seq, statement_of, statements_of_list}
use Rattle.txn_programs.specs.Names.{knows_statement}
use Rattle.txn_programs.proofs.Rows.{statement_Seq}
use Rattle.txn_declarations.proofs.names.+known.Goals as goal

pub statement_known-returns-in-Seq : goal.statement_known-returns-in-Seq
statement_known-returns-in-Seq t c =
    let e : statement_of c.args.s.now ≡ Seq (statements_of_list c.as_slice.result.now) = ap statement_of c.in-Seq.is ∙ statement_Seq c.in-Seq.parts ∙ ap (λ l. Seq (statements_of_list l)) (sym c.as_slice.ensures.value) in
    c.statements_known.ensures ∙ ap (knows_statement c.args.variables (spans_from c.args.variables (map table_of c.args.tables.now)) c.args.params) (sym e)
