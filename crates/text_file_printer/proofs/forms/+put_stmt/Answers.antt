use Rattle.std.proofs.Common.{rules, ◌≡◌, ◌∙◌, ◌++◌, OnOk, string_bytes, ap, sym, subst}
use Rattle.txn_programs.specs.Tree.{Statement, statement_of, statements_of_list}
use Rattle.txn_programs.specs.Tree as txn
use Rattle.txn_programs.specs.declared.ast.Stmt.TheViews.{the_lemmas}
use Rattle.txn_programs.proofs.Rows.{statement_Seq}
use Rattle.text_file_printer.specs.Canonical.{stmt_text}
use Rattle.text_file_printer.specs.Named.{StatementNamed}
use Rattle.text_file_printer.specs.Scopes.{view_scope}
use Rattle.text_file_printer.specs.Fits.{StmtFits}
use Rattle.text_grammar.specs.Written.{written_statement}
use Rattle.text_file_printer.proofs.Parts.{parts_text, parts_known, parts_fit}
use Rattle.text_file_printer.proofs.forms.+put_stmt.Goals as goal

pub put_stmt-put_seq-requires : goal.put_stmt-put_seq-requires
put_stmt-put_seq-requires t c =
    let e : statement_of c.args.s.now ≡ txn.Seq (statements_of_list c.as_slice.result.now) = ap statement_of c.in-Seq.is ∙ statement_Seq c.in-Seq.parts ∙ ap (λ l. txn.Seq (statements_of_list l)) (sym c.as_slice.ensures.value) in
    (search (rules, the_lemmas), subst (StatementNamed (view_scope c.args.scope.now)) e c.requires)

pub put_stmt-returns-in-Seq-clause-text :
    goal.put_stmt-returns-in-Seq-clause-text
put_stmt-returns-in-Seq-clause-text t c =
    let e : statement_of c.args.s.now ≡ txn.Seq (statements_of_list c.as_slice.result.now) = ap statement_of c.in-Seq.is ∙ statement_Seq c.in-Seq.parts ∙ ap (λ l. txn.Seq (statements_of_list l)) (sym c.as_slice.ensures.value) in
    subst (λ (s : Statement). OnOk c.put_seq.result (string_bytes c.put_seq.new.out ≡ string_bytes c.args.out.now ++ stmt_text (written_statement (view_scope c.args.scope.now) s))) (sym e) c.put_seq.ensures.text

pub put_stmt-returns-in-Seq-clause-fits :
    goal.put_stmt-returns-in-Seq-clause-fits
put_stmt-returns-in-Seq-clause-fits t c =
    let e : statement_of c.args.s.now ≡ txn.Seq (statements_of_list c.as_slice.result.now) = ap statement_of c.in-Seq.is ∙ statement_Seq c.in-Seq.parts ∙ ap (λ l. txn.Seq (statements_of_list l)) (sym c.as_slice.ensures.value) in
    subst (λ (s : Statement). OnOk c.put_seq.result (StmtFits (written_statement (view_scope c.args.scope.now) s))) (sym e) c.put_seq.ensures.fits

pub put_seq-loop-part-preserved : goal.put_seq-loop-part-preserved
put_seq-loop-part-preserved t c =
    let names = view_scope c.args.scope.now in
    let parts = c.args.parts.now in
    let i = c.loop-part.part-index in
    let x = c.part-item.result in
    let lt = c.loop-part-test.true in
    let is = c.part-item.is in
    let so_far = c.loop-part.invariant in
    record {
      text = parts_text names parts i x (string_bytes c.loop-part.out) (string_bytes c.put_part.new.out) _ lt is so_far.text c.in_ok-put_part.ensures.text;
      known = parts_known names parts i x lt is so_far.known;
      fits = λ rest. so_far.fits (parts_fit names parts i x lt is c.in_ok-put_part.ensures.fits rest);
    }
