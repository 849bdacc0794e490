use Rattle.std.proofs.Common.{◌≡◌, ◌∙◌, [], refl, sym}
use Rattle.std.proofs.lemmas.List.{append-nil}
use Rattle.std.proofs.lemmas.List.Elements.{All-nil}
use Rattle.std.proofs.Math.Logic.{∥∥₁_map}
use Rattle.stm_store.specs.declared.job.Ticket.{Ticket}
use Rattle.stm_desk.specs.declared.answers.Became.{Became}
use Rattle.stm_desk.specs.declared.answers.Became.TheVariants as became
use Rattle.stm_desk.proofs.Handing.{shut_both, shut_nothing}
use Rattle.stm_desk.proofs.Legal.{only_left_both}
use Rattle.stm_desk.proofs.Seats.{all_told_closed}
use Rattle.stm_desk.proofs.Settling.{keeps_both, keeps_nothing}
use Rattle.stm_desk.proofs.work.Work.shut_out.Goals as goal

pub loop-preserved : goal.loop-preserved
loop-preserved c =
    let so_far = c.loop.invariant in
    let one = c.shut_one_out.ensures in
    record {
      left = only_left_both _ _ _ so_far.left one.history;
      told = shut_both _ _ _ so_far.told one.told;
      served = λ h. one.served (so_far.served h);
      awaited = λ h. one.awaited (so_far.awaited h);
      first = one.first ∙ so_far.first;
      closed = one.closed ∙ so_far.closed;
      last = one.last ∙ so_far.last;
      long = one.long ∙ so_far.long;
      kept = keeps_both _ _ _ so_far.kept one.kept;
    }

pub loop-init : goal.loop-init
loop-init c =
    let s = c.args.self.now in
    record {
      left = ([], sym (append-nil s.history.items), All-nil (λ (e : Ticket × Became). e.1 ≡ became.Left));
      told = shut_nothing s.waiters s.waiters refl;
      served = λ h. h;
      awaited = λ h. h;
      first = refl;
      closed = refl;
      last = refl;
      long = refl;
      kept = keeps_nothing s.store;
    }

pub returns-clause-told : goal.returns-clause-told
returns-clause-told c = shut_both _ _ _ c.loop.invariant.told c.shut_one_out.ensures.told

pub returns-clause-kept : goal.returns-clause-kept
returns-clause-kept c = keeps_both _ _ _ c.loop.invariant.kept c.shut_one_out.ensures.kept

pub returns-clause-history : goal.returns-clause-history
returns-clause-history c = only_left_both _ _ _ c.loop.invariant.left c.shut_one_out.ensures.history

-- what was told before stays told
pub invariant_of-self-clause-told : goal.invariant_of-self-clause-told
invariant_of-self-clause-told c =
    let s = c.args.self.now in
    ∥∥₁_map s.told (all_told_closed s.first.value.catalogue.now s.closed s.history.items s.waiters.told.items)
