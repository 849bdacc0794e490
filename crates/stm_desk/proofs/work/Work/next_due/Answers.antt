use Rattle.std.proofs.Common.{◌≡◌, ◌∙◌, List, [], ◌∷◌, ◌++◌, None, ap, rules, sym, subst}
use Rattle.std.proofs.lemmas.List.{append_assoc}
use Rattle.stm_store.specs.declared.job.Job.{Job}
use Rattle.stm_desk.specs.declared.waiters.Waiters.{Waiters}
use Rattle.stm_desk.specs.Waiting.{waiting_at}
use Rattle.stm_desk.proofs.Settling.{nobody_more}
use Rattle.stm_desk.proofs.work.Work.next_due.Goals as goal

pub loop-job-preserved : goal.loop-job-preserved
loop-job-preserved c =
    let so_far = c.loop-job.invariant in
    let job = c.in-Some.job in
    let next : c.loop-job.self.due.items ≡ job ∷ c.pop_front.new.self.items = search rules in
    let none : waiting_at c.args.self.now.waiters job.ticket.0 ≡ None = subst (λ (w : Waiters). waiting_at w job.ticket.0 ≡ None) so_far.waiters (c.whose.ensures.none c.in_default-whose.is) in
    record {
      skipped = (
        so_far.skipped.0 ++ job ∷ [],
        so_far.skipped.1 ∙ (ap (λ (js : List Job). so_far.skipped.0 ++ js) next ∙ sym (append_assoc so_far.skipped.0 (job ∷ []) c.pop_front.new.self.items)),
        nobody_more c.args.self.now.waiters so_far.skipped.0 job so_far.skipped.2 none,
      );
      store = so_far.store;
      waiters = so_far.waiters;
      history = so_far.history;
      first = so_far.first;
      closed = so_far.closed;
      last = so_far.last;
      long = so_far.long;
    }
