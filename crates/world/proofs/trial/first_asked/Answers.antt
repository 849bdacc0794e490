use Rattle.std.proofs.Common.{◌≡◌, ℕ, ◌<◌, length, refl, sym, ap, ◌∙◌, subst}
use Rattle.txn_programs.specs.Listing.{IsCallable, call_program, task_program, task_tx}
use Rattle.txn_programs.specs.declared.ast.TxId.{TxId}
use Rattle.attempt.specs.Room.{NeedsNoMemory}
use Rattle.attempt.specs.View.{AttemptView}
use Rattle.attempt.specs.declared.next.Stand.TheVariants as stand
use Rattle.attempt.specs.declared.next.Next.{Next}
use Rattle.world_law.specs.declared.events.Fate.TheVariants as fate
use Rattle.world.specs.Trials.{answer_fate}
use Rattle.world.proofs.trial.first_asked.Goals as goal

-- the call is that of the task
pub new-requires : goal.new-requires
new-requires c = subst (λ (t : TxId). IsCallable c.args.catalogue.now t c.task_arguments-arguments.result.now) (sym c.task_tx-tx.ensures.value) c.task_arguments-arguments.ensures.each

pub returns : goal.returns
returns c =
    let l = c.args.catalogue.now in
    let fresh = c.in_ok-attempt.ensures in
    let program : c.in_ok-attempt.attempt.program ≡ task_program l c.args.task =
    ap (λ (a : AttemptView). a.program) fresh
    ∙ (ap (λ (t : TxId). call_program l t c.task_arguments-arguments.result.now) c.task_tx-tx.ensures.value
    ∙ ap (call_program l (task_tx l c.args.task)) c.task_arguments-arguments.ensures.value) in
    let vars : c.advance-at.new.self.variables ≡ length l.initial = c.advance-at.ensures.variables ∙ ap (λ (a : AttemptView). a.variables) fresh in
    record {
      task = refl;
      number = refl;
      log = c.advance-at.ensures.log ∙ ap (λ (a : AttemptView). a.log) fresh;
      loads = refl;
      movable = refl;
      check = refl;
      kept = record {
        program = c.advance-at.ensures.program ∙ program;
        variables = vars;
        answers = c.advance-at.ensures.answers;
        needs = λ x e. subst (λ (n : ℕ). x.0 < n) vars (c.advance-at.ensures.needed x e).0;
        over = λ m run. let both : fate.Spent ≡ fate.Running = sym (c.fate_after.ensures ∙ ap (λ (n : Next). answer_fate n fate.Running) m) ∙ run in cc;
      };
      fate = c.fate_after.ensures;
      seen = c.seen_of.ensures;
      short = λ needs. c.advance-at.ensures.in_place (subst NeedsNoMemory (sym program) needs)
          (λ e. let both : stand.Fresh ≡ stand.Spent = sym (ap (λ (a : AttemptView). a.stand) fresh) ∙ e in cc);
    }
