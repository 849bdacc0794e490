use Rattle.std.proofs.Common.{◌≡◌, ◌∙◌, ap, sym, subst, rules}
use Rattle.std.specs.Option.{SomeIff}
use Rattle.txn_programs.specs.Tree.{Statement, Seq, statement_of, statements_of_list}
use Rattle.txn_programs.specs.Cost.{statement_cost}
use Rattle.txn_programs.specs.Limits.{capped, StatementFits}
use Rattle.txn_programs.proofs.Rows.{statement_Seq}
use Rattle.txn_declarations.proofs.limits.+weight.Goals as goal

pub statement_weight-returns-in_err-statements_weight-in-Seq : goal.statement_weight-returns-in_err-statements_weight-in-Seq
statement_weight-returns-in_err-statements_weight-in-Seq t c =
    let e : statement_of c.args.s.now ≡ Seq (statements_of_list c.as_slice.result.now) = ap statement_of c.in-Seq.is ∙ statement_Seq c.in-Seq.parts ∙ ap (λ l. Seq (statements_of_list l)) (sym c.as_slice.ensures.value) in
    subst (λ (s : Statement). SomeIff c.from_residual-in_err-statements_weight-in-Seq.result (StatementFits c.args.depth s) (capped (statement_cost s))) (sym e) (search rules)

pub statement_weight-returns-in_ok-statements_weight-in-Seq : goal.statement_weight-returns-in_ok-statements_weight-in-Seq
statement_weight-returns-in_ok-statements_weight-in-Seq t c =
    let e : statement_of c.args.s.now ≡ Seq (statements_of_list c.as_slice.result.now) = ap statement_of c.in-Seq.is ∙ statement_Seq c.in-Seq.parts ∙ ap (λ l. Seq (statements_of_list l)) (sym c.as_slice.ensures.value) in
    subst (λ (s : Statement). StatementFits c.args.depth s × (c.node-in-Seq.result ≡ capped (statement_cost s))) (sym e) (search rules)
