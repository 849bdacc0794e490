use Rattle.std.proofs.Common.{◌≡◌, ◌∙◌, ap, sym}
use Rattle.text_grammar.specs.Tree.{Seq}
use Rattle.text_grammar.specs.Reading.{row}
use Rattle.text_grammar.specs.Resolving.{stmt_known}
use Rattle.text_resolver.specs.Scopes.{view_scope}
use Rattle.text_grammar.specs.View.{view_stmt, view_stmts}
use Rattle.text_grammar.proofs.Views.{view_seq}
use Rattle.text_resolver.proofs.names.+known.Goals as goal

pub stmt_known-returns-in-Seq : goal.stmt_known-returns-in-Seq
stmt_known-returns-in-Seq t c =
    let e : view_stmt c.args.s.now ≡ Seq (row (view_stmts c.as_slice.result.now)) = ap view_stmt c.in-Seq.is ∙ view_seq c.in-Seq.parts ∙ ap (λ l. Seq (row (view_stmts l))) (sym c.as_slice.ensures.value) in
    c.stmts_known.ensures ∙ ap (stmt_known (view_scope c.args.scope.now)) (sym e)
