use Rattle.std.proofs.Common.{rules, ◌≢◌, sym, subst, ap, ◌∙◌}
use Rattle.std.specs.List.{slice_get}
use Rattle.txn_words.specs.Stores.{with_changes}
use Rattle.txn_programs.specs.declared.ast.Outcome.TheVariants.{Retries}
use Rattle.attempt.specs.Asking.{Known}
use Rattle.attempt.specs.declared.next.Stand.TheVariants.{Over}
use Rattle.attempt.specs.Order.{Ascending}
use Rattle.book.specs.View.{BookView, IsRunning}
use Rattle.book.proofs.Draining.{committed_catalogue}
use Rattle.book.proofs.Filling.{running_with}
use Rattle.book.proofs.Serving.{outcome_now, after_now, takes_now}
use Rattle.book.proofs.book.Book.serial_lent.Goals as goal

pub commit-requires-clause-after : goal.commit-requires-clause-after
commit-requires-clause-after c =
    let told = c.writes-writes.ensures.value in
    after_now c.self.inside c.args.self.now c.args.task c.transaction-tx.result c.arguments-arguments.result.now c.deref.result.now c.in-Ok.how c.bring_to_end.new.attempt c.self.view_is c.deref.ensures.value c.transaction-tx.ensures.value c.arguments-arguments.ensures.value c.in-Ok.ensures.ends (subst Ascending told c.writes-writes.ensures.ascending)
    ∙ ap (λ (l : Known). with_changes c.args.self.now.present.state l) (sym told)

pub returns-clause-served : goal.returns-clause-served
returns-clause-served c =
    let running : IsRunning c.args.self.now c.args.task =
    ap (λ (x : BookView). slice_get x.tasks c.args.task.0) (sym c.self.view_is) ∙ running_with c.self.inside.present.values.items c.self.inside.table.tasks c.args.task.0 c.if-not-is_running.ensures in
    let out = outcome_now c.self.inside c.args.self.now c.args.task c.transaction-tx.result c.arguments-arguments.result.now c.deref.result.now c.in-Ok.how c.bring_to_end.new.attempt c.self.view_is c.deref.ensures.value c.transaction-tx.ensures.value c.arguments-arguments.ensures.value c.in-Ok.ensures.ends in
    let ends : c.in-Ok.how ≢ Retries = search rules in
    (running, λ e. ends (out ∙ e), c.commit.ensures.number, c.commit.ensures.committed)

pub returns-clause-ended : goal.returns-clause-ended
returns-clause-ended c =
    c.in-Ok.ensures.ends.ended
    ∙ ap Over (outcome_now c.self.inside c.args.self.now c.args.task c.transaction-tx.result c.arguments-arguments.result.now c.deref.result.now c.in-Ok.how c.bring_to_end.new.attempt c.self.view_is c.deref.ensures.value c.transaction-tx.ensures.value c.arguments-arguments.ensures.value c.in-Ok.ensures.ends)

pub returns-clause-catalogue : goal.returns-clause-catalogue
returns-clause-catalogue c = ap (λ (b : BookView). b.catalogue) c.commit.ensures.committed ∙ committed_catalogue c.args.self.now c.args.task

pub returns-in_default-clause-memory : goal.returns-in_default-clause-memory
returns-in_default-clause-memory c = λ _.
    takes_now c.self.inside c.args.self.now c.args.task c.transaction-tx.result c.self.view_is c.transaction-tx.ensures.value c.in_default.ensures.memory
