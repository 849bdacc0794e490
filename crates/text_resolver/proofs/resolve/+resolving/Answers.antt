use Rattle.std.proofs.Common.{◌≡◌, ◌∙◌, ap, sym, map}
use Rattle.std.proofs.lemmas.Result.{err_from_is_err_and}
use Rattle.txn_programs.specs.Tree as plain
use Rattle.txn_programs.proofs.Rows.{statement_Seq}
use Rattle.text_grammar.specs.Tree.{Seq}
use Rattle.text_grammar.specs.Reading.{row}
use Rattle.text_grammar.specs.Resolving.{each, statement_in}
use Rattle.text_resolver.specs.Scopes.{view_scope}
use Rattle.text_grammar.specs.View.{view_stmt, view_stmts}
use Rattle.text_words.proofs.Many.{failed}
use Rattle.text_words.proofs.Steps.{done}
use Rattle.text_resolver.proofs.Parts.{seq_is, chain_is}
use Rattle.text_grammar.proofs.Views.{view_seq}
use Rattle.text_resolver.proofs.Each.{loop_fails}
use Rattle.txn_programs.specs.Tree.{statement_of}
use Rattle.text_resolver.proofs.resolve.+resolving.Goals as goal

pub statement-returns-in-Seq : goal.statement-returns-in-Seq
statement-returns-in-Seq t c =
    let e : view_stmt c.args.s.now ≡ Seq (row (view_stmts c.as_slice.result.now)) = ap view_stmt c.in-Seq.is ∙ view_seq c.in-Seq.parts ∙ ap (λ l. Seq (row (view_stmts l))) (sym c.as_slice.ensures.value) in
    rw e c.sequence.ensures

pub sequence-returns-in_err-parts : goal.sequence-returns-in_err-parts
sequence-returns-in_err-parts t c =
    let p = err_from_is_err_and c.from_residual.result c.from_residual.ensures.1 in
    let scope = view_scope c.args.scope.now in
    let ss = view_stmts c.args.parts.now in
    rw (p.1, p.2) (failed c.in_err-parts.field-0.0 (each (statement_in scope) ss) _ (statement_in scope (Seq (row ss))) c.in_err-parts.ensures (sym (seq_is scope ss)))

pub sequence-returns : goal.sequence-returns
sequence-returns t c =
    let scope = view_scope c.args.scope.now in
    let parts = c.in_ok-parts.parts in
    seq_is scope (view_stmts c.args.parts.now) ∙ rw c.in_ok-parts.ensures (ap done (ap plain.Seq (sym (chain_is parts.items)) ∙ sym (statement_Seq parts)))

pub statements-returns-in_err-statement : goal.statements-returns-in_err-statement
statements-returns-in_err-statement t c =
    let p = err_from_is_err_and c.from_residual-in_err-statement.result c.from_residual-in_err-statement.ensures.1 in
    let xs = c.args.parts.now in
    let one = statement_in (view_scope c.args.scope.now) in
    rw (p.1, p.2) (loop_fails _ one view_stmt (map statement_of c.parts.made.items) xs c.parts.part-index c.part-item.result (each one (view_stmts xs))
    c.parts-test.true c.part-item.is c.in_err-statement.ensures c.parts.invariant)
