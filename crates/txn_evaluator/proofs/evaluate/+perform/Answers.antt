use Rattle.std.proofs.Common.{rules, subst, sym, ap, ◌∙◌, ◌≡◌, IfOk, length, arith}
use Rattle.std.proofs.lemmas.Grind.{common_steps}
use Rattle.txn_programs.specs.Meaning.{run}
use Rattle.txn_programs.specs.Scope.{StatementKnown}
use Rattle.txn_programs.specs.Tree.{statement_of, statements_of_list, Seq}
use Rattle.txn_programs.specs.Instance.{instance_statement}
use Rattle.txn_programs.specs.declared.ast.Stmt.TheViews.{the_lemmas}
use Rattle.txn_programs.proofs.Rows.{repeated_step, statement_Seq}
use Rattle.txn_evaluator.specs.Flow.{ending_of}
use Rattle.txn_evaluator.proofs.GoingBack.{lead_back_then}
use Rattle.txn_evaluator.proofs.evaluate.+perform.Goals as goal

pub perform-perform_all-requires : goal.perform-perform_all-requires
perform-perform_all-requires t c =
    let e : statement_of c.args.s.now ≡ Seq (statements_of_list c.as_slice.result.now) = ap statement_of c.in-Seq.is ∙ statement_Seq c.in-Seq.parts ∙ ap (λ l. Seq (statements_of_list l)) (sym c.as_slice.ensures.value) in
    (search (rules, the_lemmas), subst (λ s. StatementKnown (length c.args.state.now) (instance_statement c.args.arguments.now s)) e c.requires)

pub perform-returns-in-Seq-clause-ends : goal.perform-returns-in-Seq-clause-ends
perform-returns-in-Seq-clause-ends t c =
    let e : statement_of c.args.s.now ≡ Seq (statements_of_list c.as_slice.result.now) = ap statement_of c.in-Seq.is ∙ statement_Seq c.in-Seq.parts ∙ ap (λ l. Seq (statements_of_list l)) (sym c.as_slice.ensures.value) in
    subst (λ r. IfOk c.perform_all.result (λ flow. ending_of flow c.perform_all.new.state ≡ run (instance_statement c.args.arguments.now r) c.args.state.now)) (sym e) c.perform_all.ensures.ends

pub perform_all-returns-in_err-flow-clause-back : goal.perform_all-returns-in_err-flow-clause-back
perform_all-returns-in_err-flow-clause-back t c = lead_back_then _ _ _ _ _ _ c.loop-part.invariant.back c.perform.ensures.back

pub perform_all-returns-in_default-clause-back : goal.perform_all-returns-in_default-clause-back
perform_all-returns-in_default-clause-back t c = lead_back_then _ _ _ _ _ _ c.loop-part.invariant.back c.perform.ensures.back

pub perform_all-loop-part-preserved : goal.perform_all-loop-part-preserved
perform_all-loop-part-preserved t c = record {
  rest = grind (arith, common_steps);
  known = grind (arith, common_steps);
  back = lead_back_then _ _ _ _ _ _ c.loop-part.invariant.back c.perform.ensures.back;
}

pub repeat-returns-in_err-perform-clause-back : goal.repeat-returns-in_err-perform-clause-back
repeat-returns-in_err-perform-clause-back t c = lead_back_then _ _ _ _ _ _ c.loop-turn.invariant.back c.perform.ensures.back

pub repeat-returns-in-Threw-clause-back : goal.repeat-returns-in-Threw-clause-back
repeat-returns-in-Threw-clause-back t c = lead_back_then _ _ _ _ _ _ c.loop-turn.invariant.back c.perform.ensures.back

pub repeat-returns-in-Retried-clause-back : goal.repeat-returns-in-Retried-clause-back
repeat-returns-in-Retried-clause-back t c = lead_back_then _ _ _ _ _ _ c.loop-turn.invariant.back c.perform.ensures.back

pub repeat-loop-turn-preserved : goal.repeat-loop-turn-preserved
repeat-loop-turn-preserved t c = record {
  rest = grind (arith, repeated_step);
  back = lead_back_then _ _ _ _ _ _ c.loop-turn.invariant.back c.perform.ensures.back;
}
