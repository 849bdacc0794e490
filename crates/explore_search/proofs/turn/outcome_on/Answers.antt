use Rattle.std.proofs.Common.{◌≡◌, ◌∙◌, ap, subst}
use Rattle.std.specs.Prelude.{IfOk, OnOk}
use Rattle.txn_programs.specs.declared.ast.Outcome.{Outcome}
use Rattle.txn_programs.specs.Listing.{call_program}
use Rattle.txn_programs.specs.Meaning.{outcome, after}
use Rattle.txn_programs.specs.Tree.{Program}
use Rattle.attempt.specs.Frame.{store}
use Rattle.attempt.specs.View.{AttemptView}
use Rattle.explore_search.proofs.turn.outcome_on.Goals as goal

pub returns-clause-outcome : goal.returns-clause-outcome
returns-clause-outcome c =
    let l = c.args.catalogue.now in
    let alone : c.restart.new.self.program ≡ call_program l c.args.call.now.tx c.args.call.now.arguments =
    ap (λ (a : AttemptView). a.program) c.restart.ensures ∙ ap (call_program l c.args.call.now.tx) c.as_slice.ensures.value in
    subst (λ (t : Program). IfOk c.evaluate_on.result (λ (o : Outcome). outcome t c.args.values.now ≡ o)) alone c.evaluate_on.ensures.outcome

pub returns-clause-after : goal.returns-clause-after
returns-clause-after c =
    let l = c.args.catalogue.now in
    let alone : c.restart.new.self.program ≡ call_program l c.args.call.now.tx c.args.call.now.arguments =
    ap (λ (a : AttemptView). a.program) c.restart.ensures ∙ ap (call_program l c.args.call.now.tx) c.as_slice.ensures.value in
    subst (λ (t : Program). OnOk c.evaluate_on.result (after t c.args.values.now ≡ store c.evaluate_on.new.self.writes c.args.values.now)) alone c.evaluate_on.ensures.after
